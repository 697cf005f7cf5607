-- Worlds of version 1 in their ranges: every distance is 0, so H holds, and N if the rest of it does; a quiet one
-- stays legal as one of version 2.
use Rattle.std.proofs.Common.{◌≡◌, ℕ, ◌+◌, ◌≤◌, Bool, true, false, ◌&&◌, List, [], ◌∷◌, Option, Some, None, refl, sym, ap, ◌∙◌, subst, arith, is_some, length}
use Rattle.std.specs.List.{list_all}
use Rattle.std.proofs.lemmas.Bool.Decides.{nat_tests}
use Rattle.coord_types.specs.Facade.{NodeSet, NodeState, after_front, get, contains}
use Rattle.coord_types.specs.declared.messages.Mode.{Mode}
use Rattle.coord_types.specs.declared.messages.Mode.TheVariants.{Ready, Abort, Converge}
use Rattle.coord_types.specs.declared.messages.Msg.{Msg}
use Rattle.coord_types.proofs.Sets.{len_of_items}
use Rattle.coord_link.specs.LaneMachine.{Lane, transit, is_front_taken}
use Rattle.coord_node.specs.Rules.{carries, is_empty, kept}
use Rattle.coord_world.specs.laws.Version1.{Version1AsksNoDistance, is_legal_but_for_distance}
use Rattle.coord_world.specs.protocol.Links.{strays}
use Rattle.coord_world.specs.Facade.{CarryWithin, InRange, World, awaits_rightly, farthest, has_right_distances, has_right_parent, is_distance_right, is_legal_node, is_parent_near, is_ready, lane_at, link, state, state_or_none, transit_or_none, view, Legal, aborts, is_abort, is_linked}
use Rattle.coord_world.proofs.legal.SoundView.{at_each, sound_view}
use Rattle.coord_tables.proofs.Cases.{both, by_test}
use Rattle.coord_world.specs.laws.Raised.{RaisedIsLegal, raised}
use Rattle.coord_world.specs.laws.Waves.{AllReady}
use Rattle.coord_world.proofs.legal.Sound.{Sound, SoundLink, legal_link}
use Rattle.coord_world.proofs.lanes.Transit.{ways}
use Rattle.coord_world.proofs.lists.NodeSets.{empty_has}
use Rattle.coord_world.proofs.ranges.Distances.{within_more}
use Rattle.coord_types.specs.NodeSet as set
use Rattle.coord_types.specs.declared.messages.Msg.TheVariants as msg

-- ---- a node that is in a reset has a neighbour, by the rest of N

some_near : (p : ℕ → Bool) (xs : List ℕ) → 1 ≤ length xs → list_all p xs ≡ true → (v : ℕ) × (p v ≡ true)
some_near p [] some all = absurd (omega (arith, some))
some_near p (x ∷ xs) some all = (x, (both (p x) (list_all p xs) all).0)

awaited_near : (pend near : NodeSet) → is_empty pend ≡ false → set.is_subset pend near ≡ true → (v : ℕ) × (set.contains near v ≡ true)
awaited_near pend near some within =
    let many : 1 ≤ length (set.items pend) = grind (arith, nat_tests, some, len_of_items pend) in
    some_near (λ v. set.contains near v) (set.items pend) many within

has_neighbour : (m : Mode) (parent : Option ℕ) (pend near : NodeSet) → is_ready m ≡ false → awaits_rightly m pend ≡ true → has_right_parent m parent ≡ true → is_parent_near parent pend near ≡ true → set.is_subset pend near ≡ true → (v : ℕ) × (set.contains near v ≡ true)
has_neighbour Ready parent pend near busy awaits right close within = cc
has_neighbour Abort parent pend near busy awaits right close within = awaited_near pend near (by_test (is_empty pend) (λ b. is_empty pend ≡ b → is_empty pend ≡ false) (λ e _. cc) (λ e _. e) refl) within
has_neighbour Converge None pend near busy awaits right close within = cc
has_neighbour Converge (Some p) pend near busy awaits right close within = (p, (both _ _ close).1)

-- ---- all distances of version 1 are 0

module _ (w : World) (range : InRange w) (first : w.version ≡ 1) where
  pub no_distance : (d : ℕ) → d ≤ farthest w.version w.count → d ≡ 0
  no_distance d within = omega (arith, subst (λ v. d ≤ farthest v w.count) first within)

  -- of a node, there or not
  at_none : (u : ℕ) → (state w u).distance ≡ 0
  at_none = at_each w (λ r. r.distance ≡ 0) refl (λ u r is. no_distance r.distance (range.distances u r is).within)

  carries_none : (u : ℕ) → carries w.version (state w u) ≡ 0
  carries_none u = ap (λ v. kept v ((state w u).distance + 1)) first

  -- of the messages on the way
  no_strays : (ms : List Msg) → CarryWithin (farthest w.version w.count) ms → strays 0 ms ≡ 0
  no_strays [] within = refl
  no_strays (msg.Abort k ∷ ms) within = let zero = no_distance k within.0 in let rest = no_strays ms within.1 in grind (arith, nat_tests, zero, rest)
  no_strays (msg.Ack ∷ ms) within = no_strays ms within.1
  no_strays (msg.Ready ∷ ms) within = no_strays ms within.1

  no_strays_after : (ms : List Msg) → CarryWithin (farthest w.version w.count) ms → strays 0 (after_front ms) ≡ 0
  no_strays_after [] within = refl
  no_strays_after (m ∷ ms) within = no_strays ms within.1

  no_strays_on_way : (o : Option Lane) → ((l : Lane) → o ≡ Some l → CarryWithin (farthest w.version w.count) l.queue) → strays 0 (transit_or_none o) ≡ 0
  no_strays_on_way None carry = refl
  no_strays_on_way (Some l) carry =
      let within = carry l refl in
      let whole = no_strays l.queue within in
      let following = no_strays_after l.queue within in
      by_test (is_front_taken l) (λ b. strays 0 (transit l) ≡ 0) (λ e. grind (arith, e, following)) (λ e. grind (arith, e, whole))

  -- H
  links : (u v : ℕ) → has_right_distances (link (view w) u v) ≡ true
  links u v =
      let strays_none = no_strays_on_way (lane_at w.links u v) (λ l is. range.carried u v l is) in
      grind (arith, nat_tests, strays_none, carries_none u, at_none v)

  -- a world with a neighbour of a node has some steps
  some_steps : (u v : ℕ) → set.contains (state w u).neighbours v ≡ true → 1 ≤ w.count
  some_steps u v near = of_option (lane_at w.links u v) refl (range.linked u v ∙ near)
    where
      of_option : (o : Option Lane) → lane_at w.links u v ≡ o → is_some o ≡ true → 1 ≤ w.count
      of_option None is there = cc
      of_option (Some l) is there = let lane = range.lanes u v l is in omega (arith, lane.made, lane.inc)

  -- N
  rightly : (m : Mode) (d : ℕ) → d ≡ 0 → (is_ready m ≡ false → 1 ≤ w.count) → is_distance_right m d w.count ≡ true
  rightly Ready d zero some = grind (arith, nat_tests, zero)
  rightly Abort d zero some = let more = some refl in grind (arith, nat_tests, zero, more)
  rightly Converge d zero some = let more = some refl in grind (arith, nat_tests, zero, more)

  rest_is_all : (u : ℕ) (r : NodeState) → get w.nodes u ≡ Some r → is_legal_but_for_distance w.count r ≡ true → is_distance_right r.mode r.distance w.count ≡ true
  rest_is_all u r is rest =
      let five = both _ _ rest in
      let four = both _ _ five.0 in
      let three = both _ _ four.0 in
      let two = both _ _ three.0 in
      let one = both _ _ two.0 in
      let here : state w u ≡ r = ap state_or_none is in
      rightly r.mode r.distance (ap (λ s. s.distance) (sym here) ∙ at_none u) (λ busy.
      let near = has_neighbour r.mode r.parent r.pend r.neighbours busy one.0 one.1 two.1 three.1 in
      some_steps u near.0 (ap (λ s. set.contains s.neighbours near.0) here ∙ near.1))

  nodes : (u : ℕ) (r : NodeState) → get w.nodes u ≡ Some r → is_legal_node w.count r ≡ is_legal_but_for_distance w.count r
  nodes u r is = by_test (is_legal_but_for_distance w.count r) (λ b. (b && is_distance_right r.mode r.distance w.count) ≡ b) (λ rest. rest_is_all u r is rest) (λ _. refl)

pub version_1_asks_no_distance : Version1AsksNoDistance
version_1_asks_no_distance w range first = record { links = links w range first; nodes = nodes w range first }

-- ---- raised to version 2

module _ (w : World) (range : InRange w) (legal : Legal w) (first : w.version ≡ 1) (ready : AllReady w) where
  sound : Sound (view w)
  sound = sound_view w range legal

  in_range : InRange (raised w)
  in_range = record {
    first = omega arith;
    last = omega arith;
    count = range.count;
    nodes = range.nodes;
    distances = λ u s is. let far = range.distances u s is in record { within = omega (arith, no_distance w range first s.distance far.within); ready = far.ready };
    lanes = range.lanes;
    short = range.short;
    carried = λ u v l is. within_more _ w.count l.queue (omega (arith, ap (λ v. farthest v w.count) first)) (range.carried u v l is);
    awaited = range.awaited;
    parents = range.parents;
    sessions = range.sessions;
    links = range.links;
    linked = range.linked;
    turned = range.turned;
    ends = range.ends;
    one_group = range.one_group;
    one_incarnation = range.one_incarnation;
  }

  -- nobody awaits anybody, so no Abort is on the way
  no_abort : (u v : ℕ) → is_linked w u v ≡ true → aborts ((view w).in_transit u v) ≡ 0
  no_abort u v linked =
      let near : contains (state w u).neighbours v ≡ true = sym (sound.linked u v) ∙ linked in
      let count = (sound.links u v near).counted in
      let none : contains (state w u).pend v ≡ false = empty_has (state w u).pend v ((sound.nodes u).quiet (ap is_abort (ready u))) in
      grind (arith, count, none)

  link_raised : (u v : ℕ) → is_linked w u v ≡ true → SoundLink (link (view (raised w)) u v)
  link_raised u v linked =
      let before = sound.links u v (sym (sound.linked u v) ∙ linked) in
      record {
        counted = before.counted;
        one_ready = before.one_ready;
        ready_first = before.ready_first;
        converged = before.converged;
        one_parent = before.one_parent;
        no_ready = before.no_ready;
        carried = grind (arith, ways, no_abort u v linked);
        distant = λ busy _ _. cc (ap is_ready (ready v), busy);
      }

  raised_legal : Legal (raised w)
  raised_legal = record {
    nodes = legal.nodes;
    lanes = legal.lanes;
    links = λ u v linked. legal_link _ (link_raised u v linked);
  }

pub raised_is_legal : RaisedIsLegal
raised_is_legal w range legal first ready = record {
  in_range = in_range w range legal first ready;
  legal = raised_legal w range legal first ready;
  same_again = refl;
}
