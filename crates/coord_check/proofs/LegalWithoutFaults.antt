-- A world has no fault exactly if it is legal.
use Rattle.std.proofs.Common.{◌≡◌, ℕ, ◌+◌, ◌≤◌, ◌<◌, ◌⊎◌, inl, inr, Bool, true, false, List, [], Option, Some, None, refl, sym, ap, ◌∙◌, arith, is_some, IsNone, if◌then◌else◌}
use Rattle.std.specs.List.{flat_map}
use Rattle.coord_types.specs.Facade.{NodeState, get}
use Rattle.coord_world.specs.Facade.{InRange, Legal, World, is_legal_node, is_linked, lane_at, state_or_none}
use Rattle.coord_link.specs.LaneMachine.{Lane, has_front_taken_at_most}
use Rattle.coord_world.proofs.Facade.{lane-apart, lane-mirrored, some_value}
use Rattle.coord_check.specs.LinkEnds.{lane_or_none}
use Rattle.coord_check.specs.declared.violation.Letter.{Letter}
use Rattle.coord_check.specs.declared.violation.Letter.TheVariants as letter
use Rattle.coord_check.specs.declared.violation.Violation.{Violation}
use Rattle.coord_check.specs.Faults.{first, fault_unless, link_holds, node_faults, end_faults, letter_faults, link_letters, link_faults, faults_from, nodes_from, faults}
use Rattle.coord_check.proofs.Faults.{unreported, not_reported, both_empty, empty_both, none_reported, report_none, no_letter, letters_none, no_first, there}

order : (u v : ℕ) → (u < v) ⊎ ((v < u) ⊎ (u ≡ v))
order u v = grind arith

module _ (w : World) (range : InRange w) where
  -- the faults of a node, present or not
  abbrev node_reported : ℕ → Option NodeState → List Violation
  node_reported u o = if is_some o then fault_unless (is_legal_node w.count (state_or_none o)) (record { a = u; b = u; letter = letter.N }) else []

  pub is_node : (u v : ℕ) → is_linked w u v ≡ true → (1 ≤ u) × (u ≤ 64)
  is_node u v is =
      let found : (r : NodeState) × (get w.nodes u ≡ Some r) = some_value (get w.nodes u) (range.ends u v is) in
      let named = range.nodes u found.0 found.1 in
      (named.least, named.greatest)

  -- if a link has no fault, each letter holds as both ends see it
  clean_link : (a b : ℕ) → is_linked w a b ≡ true → link_faults w a b ≡ [] → (x : Letter) → (link_holds w a b x ≡ true) × (link_holds w b a x ≡ true)
  clean_link a b is none x =
      let each : letter_faults w a b x ≡ [] = no_letter (letter_faults w a b) refl (sym (there w a b is) ∙ none) x in
      let ends = both_empty (end_faults w a b x) (end_faults w b a x) each in
      (unreported _ _ ends.0, unreported _ _ ends.1)

  module _ (clear : faults w ≡ []) where
    lesser_first : (a b : ℕ) → a < b → is_linked w a b ≡ true → link_faults w a b ≡ []
    lesser_first a b lt is =
        let parts = both_empty (flat_map (node_faults w) (nodes_from 1)) (flat_map (faults_from w) (nodes_from 1)) clear in
        let node = is_node a b is in
        let other = is_node b a (sym (lane-mirrored w.links a b) ∙ is) in
        none_reported (link_faults w a) (a + 1) (none_reported (faults_from w) 1 parts.1 a node.0 node.1) b (omega arith) other.1

    each_holds : (u v : ℕ) → is_linked w u v ≡ true → (x : Letter) → link_holds w u v x ≡ true
    each_holds u v is x =
        let back : is_linked w v u ≡ true = sym (lane-mirrored w.links u v) ∙ is in
        elim (order u v) [
          | inl less ↦ (clean_link u v is (lesser_first u v less is) x).0
          | inr (inl more) ↦ (clean_link v u back (lesser_first v u more back) x).1
          | inr (inr same) ↦ let e : is_linked w u u ≡ true = ap (is_linked w u) same ∙ is in let none = lane-apart w.links range.turned u in cc
        ]

    node_holds : (u : ℕ) (r : NodeState) → get w.nodes u ≡ Some r → is_legal_node w.count r ≡ true
    node_holds u r is =
        let parts = both_empty (flat_map (node_faults w) (nodes_from 1)) (flat_map (faults_from w) (nodes_from 1)) clear in
        let named = range.nodes u r is in
        let none : node_faults w u ≡ [] = none_reported (node_faults w) 1 parts.0 u named.least named.greatest in
        unreported _ (record { a = u; b = u; letter = letter.N }) (ap (node_reported u) (sym is) ∙ none)

    pub legal_where_clear : Legal w
    legal_where_clear = record {
      nodes = node_holds;
      lanes = λ u v l is. ap (λ o. has_front_taken_at_most (lane_or_none o)) (sym is) ∙ each_holds u v (ap is_some is) letter.A;
      links = λ u v is. record {
        ack_in_one_place = each_holds u v is letter.B;
        one_ready_at_most = each_holds u v is letter.C;
        readies_first = each_holds u v is letter.D;
        ready_for_child = each_holds u v is letter.E;
        one_parent_at_most = each_holds u v is letter.F;
        no_early_ready = each_holds u v is letter.G;
        right_distances = each_holds u v is letter.H;
      };
    }

  module _ (legal : Legal w) where
    holds : (u v : ℕ) → is_linked w u v ≡ true → (x : Letter) → link_holds w u v x ≡ true
    holds u v is letter.N = refl
    holds u v is letter.A =
        let found : (l : Lane) × (lane_at w.links u v ≡ Some l) = some_value (lane_at w.links u v) is in
        ap (λ o. has_front_taken_at_most (lane_or_none o)) found.1 ∙ legal.lanes u v found.0 found.1
    holds u v is letter.B = (legal.links u v is).ack_in_one_place
    holds u v is letter.C = (legal.links u v is).one_ready_at_most
    holds u v is letter.D = (legal.links u v is).readies_first
    holds u v is letter.E = (legal.links u v is).ready_for_child
    holds u v is letter.F = (legal.links u v is).one_parent_at_most
    holds u v is letter.G = (legal.links u v is).no_early_ready
    holds u v is letter.H = (legal.links u v is).right_distances

    no_link_fault : (a b : ℕ) → link_faults w a b ≡ []
    no_link_fault a b = of_test (is_linked w a b) refl
      where
        of_test : (t : Bool) → is_linked w a b ≡ t → link_faults w a b ≡ []
        of_test true is =
            there w a b is
            ∙ letters_none (letter_faults w a b) (λ x. empty_both _ _ (not_reported _ _ (holds a b is x)) (not_reported _ _ (holds b a (sym (lane-mirrored w.links a b) ∙ is) x)))
        of_test false is = ap (λ t. if t then flat_map (letter_faults w a b) link_letters else []) is

    no_node_fault : (u : ℕ) → node_faults w u ≡ []
    no_node_fault u = grind (arith, not_reported)

    pub clear_where_legal : faults w ≡ []
    clear_where_legal = grind (arith, empty_both, report_none, no_node_fault, no_link_fault)

  -- there is no first fault exactly if the world is legal
  pub clear_or_not : (o : Option Violation) → o ≡ first (faults w) → (IsNone o → Legal w) × (Legal w → IsNone o)
  clear_or_not None is = (λ _. legal_where_clear (no_first (faults w) (sym is)), λ _. refl)
  clear_or_not (Some v) is = (λ none. cc, λ legal. let e = ap first (clear_where_legal legal) in cc)
