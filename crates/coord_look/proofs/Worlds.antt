-- A member reads in the view of a world exactly what it is shown of that world.
use Rattle.std.proofs.Common.{◌≡◌, ◌≢◌, ◌⊎◌, ◌↔◌, ℕ, ◌<◌, ◌≤◌, ◌&&◌, ◌||◌, not, nat_lt, eqb, ◌==◌, Bool, false, true, List, [], ◌∷◌, ◌++◌, Option, Some, None, cond, find, flat_map, is_some, map, refl, sym, ap, subst, ◌∙◌, arith, inl, inr, if◌then◌else◌}
use Rattle.std.specs.Cmp.{nat_cmp_total}
use Rattle.std.specs.List.{list_all}
use Rattle.std.specs.Option.{option_map}
use Rattle.std.proofs.lemmas.Bool.Decides.{nat_tests}
use Rattle.coord_types.specs.Facade.{NodeState}
use Rattle.coord_types.specs.NodeSet.{NodeSet, contains}
use Rattle.coord_types.specs.Table.{entries, get, has}
use Rattle.coord_types.specs.declared.messages.Mode.{Mode}
use Rattle.coord_types.specs.declared.messages.Mode.TheVariants.{Ready, Abort, Converge}
use Rattle.coord_link.specs.LaneMachine.{Lane}
use Rattle.coord_tables.specs.Links.{Lanes, Links, Turned, ends, lane_at, link_row, toward}
use Rattle.coord_tables.specs.Pairs.{pair_cmp, pair_cmp_total}
use Rattle.coord_tables.proofs.Found.{same_number, same_pair}
use Rattle.coord_tables.proofs.LinkLanes.{lane-apart, lane-mirrored}
use Rattle.coord_world.specs.Facade.{InRange, World, is_linked, node_row, state, state_or_none}
use Rattle.coord_world.specs.laws.Waves.{Connected, IsPath}
use Rattle.coord_view.specs.Shown.{link_view, node_view, shown}
use Rattle.coord_view.specs.declared.view.LinkView.{LinkView}
use Rattle.coord_view.specs.declared.view.NodeView.{NodeView}
use Rattle.coord_member.specs.NoMix.{IsOneOf}
use Rattle.coord_member.specs.declared.view.Entry.{Entry}
use Rattle.coord_member.specs.declared.view.Entry.TheVariants.{Node, Link}
use Rattle.coord_member.specs.declared.view.Row.{Row}
use Rattle.coord_look.specs.Reading.{AreConnected, AreLinked, IsReadOf, IsWay, is_of, is_quiet, is_ready_mode, is_through, link_entries, node_entries, party_in, row_in}
use Rattle.coord_look.specs.Shown.{AllDistinct, IsPartyOf, IsShownTo, IsThrough, IsWorldLink}
use Rattle.coord_look.specs.Worlds.{LookIsShown, NoLookIsAbsent}
use Rattle.coord_look.proofs.Listed.{all_pass, each_passes, flat-mapped, flat_one, is_there, mapped_one, once_both, once_made, one_before, one_after, one_flat, one_mapped, one_of_both, stands}
use Rattle.coord_look.proofs.Reached.{found_is, none_is}

-- a node as it is shown, and a link
abbrev seen : ℕ × NodeState → NodeView
seen e = node_view (node_row e)

abbrev seen_link : (ℕ × ℕ) × Lanes → LinkView
seen_link e = link_view (link_row e)

-- a row that is shown is that of a node, or of a link
record IsSeen (w : World) (v : NodeView) : Type 0 where
  entry : ℕ × NodeState
  there : get w.nodes entry.0 ≡ Some entry.1
  same : v ≡ seen entry

record IsSeenLink (w : World) (v : LinkView) : Type 0 where
  entry : (ℕ × ℕ) × Lanes
  there : get w.links entry.0 ≡ Some entry.1
  same : v ≡ seen_link entry

-- ---- lanes and links

-- a link stands with its lesser end first
lane_forth : (t : Links) (a b : ℕ) (l : Lanes) → a < b → get t (a, b) ≡ Some l → lane_at t a b ≡ Some l.forth
unfolding lane_at
lane_forth t a b l less e =
    let test : nat_lt a b ≡ true = grind (arith, nat_tests, less) in
    subst (λ c. option_map (λ (k : Lanes). if c then k.forth else k.back) (get t (if c then (a, b) else (b, a))) ≡ Some l.forth) (sym test) (ap (option_map (λ (k : Lanes). k.forth)) e)

-- the link of a lane
record IsLane (t : Links) (a b : ℕ) (m : Lane) : Type 0 where
  lanes : Lanes
  there : get t (a, b) ≡ Some lanes
  forth : lanes.forth ≡ m

forth_of : (o : Option Lanes) (m : Lane) → option_map (λ (k : Lanes). k.forth) o ≡ Some m → (l : Lanes) × ((o ≡ Some l) × (l.forth ≡ m))
forth_of None m e = absurd (cc)
forth_of (Some l) m e = (l, (refl, cc))

link_of_lane : (t : Links) (a b : ℕ) (m : Lane) → a < b → lane_at t a b ≡ Some m → IsLane t a b m
unfolding lane_at
link_of_lane t a b m less e =
    let test : nat_lt a b ≡ true = grind (arith, nat_tests, less) in
    let found = forth_of (get t (a, b)) m (subst (λ c. option_map (λ (k : Lanes). if c then k.forth else k.back) (get t (if c then (a, b) else (b, a))) ≡ Some m) test e) in
    record { lanes = found.0; there = found.1.0; forth = found.1.1 }

some_lane : (o : Option Lane) → is_some o ≡ true → (l : Lane) × (o ≡ Some l)
some_lane None e = absurd (cc)
some_lane (Some l) e = (l, refl)

some_state : (o : Option NodeState) → is_some o ≡ true → o ≡ Some (state_or_none o)
some_state None e = absurd (cc)
some_state (Some r) e = refl

not_both : (b : Bool) → b ≡ true → b ≡ false → ⊥
not_both true e f = absurd (cc)
not_both false e f = absurd (cc)

ready_is : (m : Mode) → is_ready_mode m ≡ true → m ≡ Ready
ready_is Ready e = refl
ready_is Abort e = absurd (cc)
ready_is Converge e = absurd (cc)

module _ (w : World) (range : InRange w) (accepted : ℕ) where
  abbrev nodes : List NodeView
  nodes = (shown accepted w).nodes

  abbrev links : List LinkView
  links = (shown accepted w).links

  -- ---- the nodes

  node_seen : (v : NodeView) → IsOneOf v nodes → IsSeen w v
  node_seen v one =
      let row = mapped_one node_view (map node_row (entries w.nodes)) v one in
      let entry = mapped_one node_row (entries w.nodes) row.of row.one in
      record { entry = entry.of; there = stands nat_cmp_total same_number w.nodes entry.of entry.one; same = row.same ∙ ap node_view entry.same }

  node_shown : (n : ℕ) (r : NodeState) → get w.nodes n ≡ Some r → IsOneOf (seen (n, r)) nodes
  node_shown n r e = one_mapped node_view (map node_row (entries w.nodes)) (node_row (n, r)) (one_mapped node_row (entries w.nodes) (n, r) (is_there nat_cmp_total same_number w.nodes n r e))

  state_is : (n : ℕ) (r : NodeState) → get w.nodes n ≡ Some r → state w n ≡ r
  state_is n r e = ap state_or_none e

  -- ---- the links

  link_seen : (v : LinkView) → IsOneOf v links → IsSeenLink w v
  link_seen v one =
      let row = mapped_one link_view (map link_row (entries w.links)) v one in
      let entry = mapped_one link_row (entries w.links) row.of row.one in
      record { entry = entry.of; there = stands pair_cmp_total same_pair w.links entry.of entry.one; same = row.same ∙ ap link_view entry.same }

  link_shown : (a b : ℕ) (l : Lanes) → get w.links (a, b) ≡ Some l → IsOneOf (seen_link ((a, b), l)) links
  link_shown a b l e = one_mapped link_view (map link_row (entries w.links)) (link_row ((a, b), l)) (one_mapped link_row (entries w.links) ((a, b), l) (is_there pair_cmp_total same_pair w.links (a, b) l e))

  entry_turned : (e : (ℕ × ℕ) × Lanes) → get w.links e.0 ≡ Some e.1 → e.0.0 < e.0.1
  entry_turned e there = range.turned e.0.0 e.0.1 (ap is_some there)

  entry_lane : (e : (ℕ × ℕ) × Lanes) → get w.links e.0 ≡ Some e.1 → lane_at w.links e.0.0 e.0.1 ≡ Some e.1.forth
  entry_lane e there = lane_forth w.links e.0.0 e.0.1 e.1 (entry_turned e there) there

  -- ---- who is linked

  linked_by : (v : LinkView) (x y : ℕ) → IsSeenLink w v → ((v.a ≡ x) × (v.b ≡ y)) ⊎ ((v.a ≡ y) × (v.b ≡ x)) → is_linked w x y ≡ true
  linked_by v x y is (inl e) =
      let a : is.entry.0.0 ≡ x = sym (ap (λ (u : LinkView). u.a) is.same) ∙ e.0 in
      let b : is.entry.0.1 ≡ y = sym (ap (λ (u : LinkView). u.b) is.same) ∙ e.1 in
      subst (λ n. is_linked w x n ≡ true) b (subst (λ n. is_linked w n is.entry.0.1 ≡ true) a (ap is_some (entry_lane is.entry is.there)))
  linked_by v x y is (inr e) =
      let a : is.entry.0.0 ≡ y = sym (ap (λ (u : LinkView). u.a) is.same) ∙ e.0 in
      let b : is.entry.0.1 ≡ x = sym (ap (λ (u : LinkView). u.b) is.same) ∙ e.1 in
      lane-mirrored w.links x y ∙ subst (λ n. is_linked w y n ≡ true) b (subst (λ n. is_linked w n is.entry.0.1 ≡ true) a (ap is_some (entry_lane is.entry is.there)))

  linked_is : (x y : ℕ) → AreLinked links x y → is_linked w x y ≡ true
  linked_is x y one = linked_by one.link x y (link_seen one.link one.shown) one.ends

  linked_rising : (x y : ℕ) → x < y → is_linked w x y ≡ true → AreLinked links x y
  linked_rising x y less e =
      let lane = some_lane (lane_at w.links x y) e in
      let link = link_of_lane w.links x y lane.0 less lane.1 in
      record { link = seen_link ((x, y), link.lanes); shown = link_shown x y link.lanes link.there; ends = inl (refl, refl) }

  other_way : (x y : ℕ) → AreLinked links x y → AreLinked links y x
  other_way x y one = record { link = one.link; shown = one.shown; ends = elim one.ends [ inl e ↦ inr e | inr e ↦ inl e ] }

  is_linked_by : (x y : ℕ) → is_linked w x y ≡ true → AreLinked links x y
  is_linked_by x y e = of (nat_lt x y) (nat_lt y x) refl refl
    where
      of : (b c : Bool) → nat_lt x y ≡ b → nat_lt y x ≡ c → AreLinked links x y
      of true c less f = linked_rising x y (grind (arith, nat_tests, less)) e
      of false true f less = other_way y x (linked_rising y x (grind (arith, nat_tests, less)) (lane-mirrored w.links y x ∙ e))
      of false false f g =
          let same : x ≡ y = grind (arith, nat_tests, f, g) in
          absurd (not_both (is_linked w x x) (subst (λ n. is_linked w x n ≡ true) (sym same) e) (lane-apart w.links range.turned x))

  path_of : (u v : ℕ) (way : List ℕ) → IsWay links u way v → IsPath w u way v
  path_of u v [] same = same
  path_of u v (x ∷ way) ways = (linked_is u x ways.0, path_of x v way ways.1)

  way_of : (u v : ℕ) (way : List ℕ) → IsPath w u way v → IsWay links u way v
  way_of u v [] same = same
  way_of u v (x ∷ way) path = (is_linked_by u x path.0, way_of x v way path.1)

  -- whoever is connected with a node is there
  is_here : (u v : ℕ) (way : List ℕ) → has w.nodes u ≡ true → IsPath w u way v → has w.nodes v ≡ true
  is_here u v [] here same = subst (λ n. has w.nodes n ≡ true) same here
  is_here u v (x ∷ way) here path = is_here x v way (range.ends x u (lane-mirrored w.links x u ∙ path.0)) path.1

  -- ---- the party

  module _ (i : ℕ) (s : NodeSet) (connected : AreConnected links i s) where
    reached : (v : ℕ) → contains s v ≡ true → Connected w i v
    reached v is = let way = (connected v).0 is in (way.0, path_of i v way.0 way.1)

    is_reached : (v : ℕ) → Connected w i v → contains s v ≡ true
    is_reached v path = (connected v).1 (path.0, way_of i v path.0 path.1)

    -- the entries of a node, and those of a link
    abbrev of_node : ℕ × NodeState → List Entry
    of_node e = node_entries s (seen e)

    abbrev of_link : (ℕ × ℕ) × Lanes → List Entry
    of_link e = link_entries s (seen_link e)

    one_alone : (b : Bool) (x y : Entry) → IsOneOf y (if b then x ∷ [] else []) → (b ≡ true) × (y ≡ x)
    one_alone true x y (inl same) = (refl, same)
    one_alone true x y (inr none) = absurd none
    one_alone false x y none = absurd none

    alone_one : (b : Bool) (x : Entry) → b ≡ true → IsOneOf x (if b then x ∷ [] else [])
    alone_one true x e = inl refl
    alone_one false x e = absurd (cc)

    once_alone : (b : Bool) (x : Entry) → AllDistinct (if b then x ∷ [] else [])
    once_alone true x = (λ none. none, tt)
    once_alone false x = tt

    -- the key of an entry
    abbrev IsNode : Entry → ℕ → Type 0
    IsNode (Node n e) k = n ≡ k
    IsNode (Link a b incarnation) k = ⊥

    abbrev IsLink : Entry → ℕ × ℕ → Type 0
    IsLink (Node n e) k = ⊥
    IsLink (Link a b incarnation) k = (a, b) ≡ k

    one_node : (n : Entry) (k l : ℕ) → IsNode n k → IsNode n l → k ≡ l
    one_node (Node n e) k l f g = sym f ∙ g
    one_node (Link a b incarnation) k l f g = absurd f

    one_link : (n : Entry) (k l : ℕ × ℕ) → IsLink n k → IsLink n l → k ≡ l
    one_link (Node n e) k l f g = absurd f
    one_link (Link a b incarnation) k l f g = sym f ∙ g

    node_named : (e : ℕ × NodeState) (n : Entry) → IsOneOf n (of_node e) → IsNode n e.0
    node_named e n one = let is = one_alone (contains s e.0) (Node e.0 e.1.epoch) n one in subst (λ m. IsNode m e.0) (sym is.1) refl

    link_named : (e : (ℕ × ℕ) × Lanes) (n : Entry) → IsOneOf n (of_link e) → IsLink n e.0
    link_named e n one = let is = one_alone (contains s e.0.0) (Link e.0.0 e.0.1 e.1.forth.inc) n one in subst (λ m. IsLink m e.0) (sym is.1) refl

    nodes_flat : flat_map (node_entries s) nodes ≡ flat_map of_node (entries w.nodes)
    nodes_flat = flat-mapped (node_entries s) node_view (map node_row (entries w.nodes)) ∙ flat-mapped (λ r. node_entries s (node_view r)) node_row (entries w.nodes)

    links_flat : flat_map (link_entries s) links ≡ flat_map of_link (entries w.links)
    links_flat = flat-mapped (link_entries s) link_view (map link_row (entries w.links)) ∙ flat-mapped (λ r. link_entries s (link_view r)) link_row (entries w.links)

    apart : (n : Entry) → IsOneOf n (flat_map (node_entries s) nodes) → IsOneOf n (flat_map (link_entries s) links) → ⊥
    apart n first second =
        let a = flat_one (node_entries s) nodes n first in
        let b = flat_one (link_entries s) links n second in
        let x = (one_alone (contains s a.of.node) (Node a.of.node a.of.epoch) n a.among).1 in
        let y = (one_alone (contains s b.of.a) (Link b.of.a b.of.b b.of.inc) n b.among).1 in
        let same : Node a.of.node a.of.epoch ≡ Link b.of.a b.of.b b.of.inc = sym x ∙ y in
        absurd (cc)

    once : AllDistinct (party_in s (shown accepted w))
    once = once_both (flat_map (node_entries s) nodes) (flat_map (link_entries s) links)
        (subst AllDistinct (sym nodes_flat) (once_made nat_cmp_total same_number of_node IsNode one_node node_named (λ e. once_alone (contains s e.0) (Node e.0 e.1.epoch)) w.nodes))
        (subst AllDistinct (sym links_flat) (once_made pair_cmp_total same_pair of_link IsLink one_link link_named (λ e. once_alone (contains s e.0.0) (Link e.0.0 e.0.1 e.1.forth.inc)) w.links)) apart

    every_node : (n : ℕ) → has w.nodes n ≡ true → Connected w i n → IsOneOf (Node n (state w n).epoch) (party_in s (shown accepted w))
    every_node n here path =
        one_before (Node n (state w n).epoch) (flat_map (node_entries s) nodes) (flat_map (link_entries s) links)
        (one_flat (node_entries s) nodes (seen (n, state w n)) (Node n (state w n).epoch) (node_shown n (state w n) (some_state (get w.nodes n) here)) (alone_one (contains s n) (Node n (state w n).epoch) (is_reached n path)))

    every_link : (a b incarnation : ℕ) → Connected w i a → IsWorldLink w a b incarnation → IsOneOf (Link a b incarnation) (party_in s (shown accepted w))
    every_link a b incarnation path is =
        let link = link_of_lane w.links a b is.lane is.turned is.there in
        let made : link.lanes.forth.inc ≡ incarnation = ap (λ (l : Lane). l.inc) link.forth ∙ is.made in
        one_after (Link a b incarnation) (flat_map (node_entries s) nodes) (flat_map (link_entries s) links)
        (one_flat (link_entries s) links (seen_link ((a, b), link.lanes)) (Link a b incarnation) (link_shown a b link.lanes link.there)
        (subst (λ n. IsOneOf (Link a b n) (link_entries s (seen_link ((a, b), link.lanes)))) made (alone_one (contains s a) (Link a b link.lanes.forth.inc) (is_reached a path))))

    -- each entry of the party is of a node, or of a link
    of_nodes : (n e : ℕ) → IsOneOf (Node n e) (party_in s (shown accepted w)) → IsOneOf (Node n e) (flat_map (node_entries s) nodes)
    of_nodes n e one = elim (one_of_both (Node n e) (flat_map (node_entries s) nodes) (flat_map (link_entries s) links) one) [
      | inl k ↦ k
      | inr k ↦ absurd (let b = flat_one (link_entries s) links (Node n e) k in let y = (one_alone (contains s b.of.a) (Link b.of.a b.of.b b.of.inc) (Node n e) b.among).1 in cc)
    ]

    of_links : (a b incarnation : ℕ) → IsOneOf (Link a b incarnation) (party_in s (shown accepted w)) → IsOneOf (Link a b incarnation) (flat_map (link_entries s) links)
    of_links a b incarnation one = elim (one_of_both (Link a b incarnation) (flat_map (node_entries s) nodes) (flat_map (link_entries s) links) one) [
      | inr k ↦ k
      | inl k ↦ absurd (let v = flat_one (node_entries s) nodes (Link a b incarnation) k in let y = (one_alone (contains s v.of.node) (Node v.of.node v.of.epoch) (Link a b incarnation) v.among).1 in cc)
    ]

    node_is : (n e : ℕ) (v : NodeView) → IsSeen w v → (contains s v.node ≡ true) × (Node n e ≡ Node v.node v.epoch) → (has w.nodes n ≡ true) × (Connected w i n × (e ≡ (state w n).epoch))
    node_is n e v is test =
        let number : n ≡ v.node = let same = test.1 in cc in
        let epoch : e ≡ v.epoch = let same = test.1 in cc in
        let at : n ≡ is.entry.0 = number ∙ ap (λ (u : NodeView). u.node) is.same in
        let there : get w.nodes n ≡ Some is.entry.1 = ap (λ m. get w.nodes m) at ∙ is.there in (
          ap is_some there,
          (reached n (ap (λ m. contains s m) number ∙ test.0), epoch ∙ (ap (λ (u : NodeView). u.epoch) is.same ∙ sym (ap (λ (r : NodeState). r.epoch) (state_is n is.entry.1 there)))),
        )

    nodes_are : (n e : ℕ) → IsOneOf (Node n e) (party_in s (shown accepted w)) → (has w.nodes n ≡ true) × (Connected w i n × (e ≡ (state w n).epoch))
    nodes_are n e one =
        let v = flat_one (node_entries s) nodes (Node n e) (of_nodes n e one) in
        node_is n e v.of (node_seen v.of v.one) (one_alone (contains s v.of.node) (Node v.of.node v.of.epoch) (Node n e) v.among)

    link_is : (a b incarnation : ℕ) (v : LinkView) → IsSeenLink w v → (contains s v.a ≡ true) × (Link a b incarnation ≡ Link v.a v.b v.inc) → Connected w i a × IsWorldLink w a b incarnation
    link_is a b incarnation v is test =
        let first : a ≡ v.a = let same = test.1 in cc in
        let second : b ≡ v.b = let same = test.1 in cc in
        let inc : incarnation ≡ v.inc = let same = test.1 in cc in
        let x : is.entry.0.0 ≡ a = sym (first ∙ ap (λ (u : LinkView). u.a) is.same) in
        let y : is.entry.0.1 ≡ b = sym (second ∙ ap (λ (u : LinkView). u.b) is.same) in (
          reached a (ap (λ m. contains s m) first ∙ test.0),
          record {
            turned = subst (λ m. a < m) y (subst (λ m. m < is.entry.0.1) x (entry_turned is.entry is.there));
            lane = is.entry.1.forth;
            there = subst (λ m. lane_at w.links a m ≡ Some is.entry.1.forth) y (subst (λ m. lane_at w.links m is.entry.0.1 ≡ Some is.entry.1.forth) x (entry_lane is.entry is.there));
            made = sym (inc ∙ ap (λ (u : LinkView). u.inc) is.same);
          },
        )

    links_are : (a b incarnation : ℕ) → IsOneOf (Link a b incarnation) (party_in s (shown accepted w)) → Connected w i a × IsWorldLink w a b incarnation
    links_are a b incarnation one =
        let v = flat_one (link_entries s) links (Link a b incarnation) (of_links a b incarnation one) in
        link_is a b incarnation v.of (link_seen v.of v.one) (one_alone (contains s v.of.a) (Link v.of.a v.of.b v.of.inc) (Link a b incarnation) v.among)

    party : IsPartyOf w i (party_in s (shown accepted w))
    party = record { every_node = every_node; every_link = every_link; nodes = nodes_are; links = links_are; once = once }

    -- ---- how they stand

    module _ (here : has w.nodes i ≡ true) where
      there : (v : ℕ) → Connected w i v → get w.nodes v ≡ Some (state w v)
      there v path = some_state (get w.nodes v) (is_here i v path.0 here path.1)

      first_out : (b c : Bool) → b ≡ true → (not b || c) ≡ true → c ≡ true
      first_out true c e f = f
      first_out false c e f = absurd (cc)

      both_of : (b c : Bool) → (b && c) ≡ true → (b ≡ true) × (c ≡ true)
      both_of true c e = (refl, e)
      both_of false c e = absurd (cc)

      quiet_all : list_all (is_quiet s) nodes ≡ true → (v : ℕ) → Connected w i v → (state w v).mode ≡ Ready
      quiet_all all v path = ready_is (state w v).mode (first_out (contains s v) (is_ready_mode (state w v).mode) (is_reached v path) (each_passes (is_quiet s) nodes (seen (v, state w v)) all (node_shown v (state w v) (there v path))))

      through_all : list_all (is_through s) nodes ≡ true → (v : ℕ) → Connected w i v → IsThrough w v
      through_all all v path =
          let test = first_out (contains s v) (is_ready_mode (state w v).mode && ((state w v).epoch == (state w v).confirmed)) (is_reached v path) (each_passes (is_through s) nodes (seen (v, state w v)) all (node_shown v (state w v) (there v path))) in
          let parts = both_of (is_ready_mode (state w v).mode) ((state w v).epoch == (state w v).confirmed) test in
          let same = parts.1 in
          record { ready = ready_is (state w v).mode parts.0; confirmed = grind (arith, nat_tests, same) }

      passes : (b c : Bool) → (b ≡ true → c ≡ true) → (not b || c) ≡ true
      passes true c f = f refl
      passes false c f = refl

      ready_one : (m : Mode) → m ≡ Ready → is_ready_mode m ≡ true
      ready_one m e = ap is_ready_mode e

      quiet_one : ((v : ℕ) → Connected w i v → (state w v).mode ≡ Ready) → (v : NodeView) → IsSeen w v → is_quiet s v ≡ true
      quiet_one all v is = subst (λ u. is_quiet s u ≡ true) (sym is.same) (passes (contains s is.entry.0) (is_ready_mode is.entry.1.mode) (λ e.
          ready_one is.entry.1.mode (sym (ap (λ (r : NodeState). r.mode) (state_is is.entry.0 is.entry.1 is.there)) ∙ all is.entry.0 (reached is.entry.0 e))))

      through_state : (r : NodeState) → r.mode ≡ Ready → r.epoch ≡ r.confirmed → (is_ready_mode r.mode && (r.epoch == r.confirmed)) ≡ true
      through_state r ready same = let first = ready_one r.mode ready in let second : (r.epoch == r.confirmed) ≡ true = grind (arith, nat_tests, same) in ap (λ b. b && (r.epoch == r.confirmed)) first ∙ second

      through_one : ((v : ℕ) → Connected w i v → IsThrough w v) → (v : NodeView) → IsSeen w v → is_through s v ≡ true
      through_one all v is = subst (λ u. is_through s u ≡ true) (sym is.same) (passes (contains s is.entry.0) (is_ready_mode is.entry.1.mode && (is.entry.1.epoch == is.entry.1.confirmed)) (λ e.
          let one = all is.entry.0 (reached is.entry.0 e) in
          let at = state_is is.entry.0 is.entry.1 is.there in
          through_state is.entry.1 (subst (λ (r : NodeState). r.mode ≡ Ready) at one.ready) (subst (λ (r : NodeState). r.epoch ≡ r.confirmed) at one.confirmed)))

      stand : (own : NodeView) → own.epoch ≡ (state w i).epoch → own.confirmed ≡ (state w i).confirmed → IsShownTo w i (row_in s (shown accepted w) own) (party_in s (shown accepted w))
      stand own epoch confirmed = record {
        there = here;
        epoch = epoch;
        confirmed = confirmed;
        through = (through_all, λ all. all_pass (is_through s) nodes (λ v one. through_one all v (node_seen v one)));
        quiet = (quiet_all, λ all. all_pass (is_quiet s) nodes (λ v one. quiet_one all v (node_seen v one)));
        party = party;
      }

-- ---- a look

pub look_is_shown : LookIsShown
look_is_shown w accepted i own row now range found is =
    let at = found_is (is_of i) (shown accepted w).nodes own found in
    let seen_as = node_seen w range accepted own at.0 in
    let number : own.node ≡ i = let test = at.1 in grind (arith, nat_tests, test) in
    let there : get w.nodes i ≡ Some seen_as.entry.1 = ap (λ n. get w.nodes n) (sym number ∙ ap (λ (v : NodeView). v.node) seen_as.same) ∙ seen_as.there in
    let st = state_is w range accepted i seen_as.entry.1 there in
    subst (λ r. IsShownTo w i r now) (sym is.row_is)
    (subst (λ p. IsShownTo w i (row_in is.reached (shown accepted w) own) p) (sym is.party_is)
    (stand w range accepted i is.reached is.connected (ap is_some there) own (ap (λ (v : NodeView). v.epoch) seen_as.same ∙ sym (ap (λ (r : NodeState). r.epoch) st)) (ap (λ (v : NodeView). v.confirmed) seen_as.same ∙ sym (ap (λ (r : NodeState). r.confirmed) st))))

pub no_look_is_absent : NoLookIsAbsent
no_look_is_absent w accepted i none = of (has w.nodes i) refl
  where
    of : (b : Bool) → has w.nodes i ≡ b → b ≡ false
    of false e = refl
    of true e = absurd (
        let there = some_state (get w.nodes i) e in
        let shown_at = one_mapped node_view (map node_row (entries w.nodes)) (node_row (i, state w i)) (one_mapped node_row (entries w.nodes) (i, state w i) (is_there nat_cmp_total same_number w.nodes i (state w i) there)) in
        let test : (i == i) ≡ false = none_is (is_of i) (shown accepted w).nodes none (seen (i, state w i)) shown_at in
        grind (arith, nat_tests, test))
