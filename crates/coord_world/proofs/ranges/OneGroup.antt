-- A step keeps the groups of nodes, and so links stay within them.
use Rattle.std.proofs.Common.{◌≡◌, ◌≢◌, ℕ, true, refl, sym, ◌∙◌, ap, arith}
use Rattle.std.proofs.lemmas.Bool.Decides.{nat_tests}
use Rattle.coord_types.specs.Facade.{Ideal, NodeState, contains, new_node, no_node}
use Rattle.coord_types.specs.declared.steps.Command.TheVariants.{Add, Remove, Join, Drop, Reset, Confirm}
use Rattle.coord_types.specs.declared.steps.Step.{Step}
use Rattle.coord_types.specs.declared.steps.Step.TheVariants.{Order, Take, Clear}
use Rattle.coord_node.specs.Facade.{Transition, headed, ideal_applied, ideal_next, is_empty, linked_up, request, set_state, transition}
use Rattle.coord_world.specs.Facade.{IsFresh, World, state, state_or_none, view}
use Rattle.coord_world.proofs.transitions.RuleCases.{goes_transition, goes_lost, goes_request}
use Rattle.coord_world.proofs.legal.LinksKept.{dropped}
use Rattle.coord_world.proofs.legal.NextKeepsLegal.{new_alone}
use Rattle.coord_world.proofs.Acceptance.{fresh_order}
use Rattle.coord_world.proofs.lists.NodeSets.{empty_has}
use Rattle.coord_world.proofs.legal.Sound.{Sound}

-- linked nodes have one group
abbrev pub OneGroup : Ideal → Type 0
OneGroup w = (x y : ℕ) → w.linked x y ≡ true → (w.state x).group ≡ (w.state y).group

-- each node keeps its group, and no link is made
record Groups (w z : Ideal) : Type 0 where
  pub same : (x : ℕ) → (z.state x).group ≡ (w.state x).group
  pub linked : (x y : ℕ) → z.linked x y ≡ true → w.linked x y ≡ true

-- where each node keeps its group and no link is made, linked nodes still have one group
of_groups : (w z : Ideal) → Groups w z → OneGroup w → OneGroup z
of_groups w z groups one x y linked = groups.same x ∙ one x y (groups.linked x y linked) ∙ sym (groups.same y)

-- a transition that keeps the group of its node
acts_groups : (w : Ideal) (u : ℕ) (d : Transition) → d.state.group ≡ (w.state u).group → Groups w (ideal_applied w u d)
acts_groups w u d same = record { same = λ x. grind (arith, nat_tests, same); linked = λ x y linked. linked }

-- a state that keeps the group of its node
set_groups : (w : Ideal) (u : ℕ) (r : NodeState) → r.group ≡ (w.state u).group → Groups w (set_state w u r)
set_groups w u r same = record { same = λ x. grind (arith, nat_tests, same); linked = λ x y linked. linked }

-- a link that is dropped
dropped_groups : (w : Ideal) (a b : ℕ) → Groups w (dropped w a b)
dropped_groups w a b = record {
  same = λ x. let first = (goes_lost (w.state a) b).group in let second = (goes_lost (w.state b) a).group in grind (arith, nat_tests, first, second);
  linked = λ x y linked. grind (arith, nat_tests);
}

-- a node without links may have any group
alone_group : (w : Ideal) (u : ℕ) (r : NodeState) → Sound w → is_empty (w.state u).neighbours ≡ true → OneGroup w → OneGroup (set_state w u r)
alone_group w u r sound alone one x y linked =
    let out : x ≢ u = λ same. grind (arith, sound.linked x y, same, empty_has (w.state u).neighbours y alone, ap (λ z. contains (w.state z).neighbours y) same) in
    let back : y ≢ u = λ same. grind (arith, sound.linked x y, sound.mirrored x y, same, empty_has (w.state u).neighbours x alone, ap (λ z. contains (w.state z).neighbours x) same) in
    let here : ((set_state w u r).state x).group ≡ (w.state x).group = grind (arith, nat_tests) in
    let there : ((set_state w u r).state y).group ≡ (w.state y).group = grind (arith, nat_tests) in
    here ∙ one x y linked ∙ sym there

-- nodes of one group may be linked
join_group : (w : Ideal) (a b : ℕ) → (w.state a).group ≡ (w.state b).group → OneGroup w → OneGroup (linked_up w a b)
join_group w a b same one x y linked =
    let here : ((linked_up w a b).state x).group ≡ (w.state x).group = grind (arith, nat_tests) in
    let there : ((linked_up w a b).state y).group ≡ (w.state y).group = grind (arith, nat_tests) in
    let before : (w.state x).group ≡ (w.state y).group = grind (arith, nat_tests, one x y, same) in
    here ∙ before ∙ sym there

module _ (w settled : World) (sound : Sound (view w)) (one : OneGroup (view w)) where
  -- linked nodes have one group after a fresh step
  pub group_next : (s : Step) → IsFresh w settled s → OneGroup (ideal_next (view w) s)
  group_next (Order c n (Add u g)) fresh =
      alone_group (view w) u (new_node g) sound (ap (λ o. is_empty (state_or_none o).neighbours) (fresh_order w settled c n (Add u g) fresh) ∙ new_alone) one
  group_next (Order c n (Remove u)) fresh = alone_group (view w) u no_node sound (fresh_order w settled c n (Remove u) fresh).alone one
  group_next (Order c n (Join a b)) fresh = join_group (view w) a b (fresh_order w settled c n (Join a b) fresh).one_group one
  group_next (Order c n (Drop a b)) fresh = of_groups (view w) _ (dropped_groups (view w) a b) one
  group_next (Order c n (Reset u)) fresh = of_groups (view w) _ (acts_groups (view w) u (request w.version (state w u)) (goes_request w.version (state w u)).group) one
  group_next (Order c n (Confirm u e)) fresh = of_groups (view w) _ (set_groups (view w) u (record (state w u) { confirmed = e }) refl) one
  group_next (Take p) fresh =
      of_groups (headed (view w) p.from p.to) _ (acts_groups (headed (view w) p.from p.to) p.to (transition w.version p.msg (state w p.to) p.from) (goes_transition w.version (state w p.to) p.from p.msg).group) one
  group_next (Clear p) fresh = one
