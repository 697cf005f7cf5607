-- A node step of the program is the transition that it represents: its messages, sent one after the other, join the
-- lanes.
use Rattle.std.proofs.Common.{◌≡◌, ℕ, Bool, true, false, ◌&&◌, List, [], ◌∷◌, ◌++◌, map, length, ◌<◌, Option, Some, None, refl, sym, ap, ◌∙◌, arith, cond, eqb, nat_eq, nat_cmp, Less}
use Rattle.std.specs.List.{AllByRecursion, list_any}
use Rattle.std.specs.List.Sorted.{IsStrictlySortedBy}
use Rattle.std.proofs.lemmas.Bool.Decides.{nat_tests}
use Rattle.coord_types.specs.NodeSet as set
use Rattle.coord_types.specs.Table.{insert}
use Rattle.coord_types.proofs.Sets.{contains-items, items-sorted}
use Rattle.coord_types.proofs.Tables.{option_map}
use Rattle.coord_types.specs.declared.messages.Msg.{Msg}
use Rattle.coord_link.specs.declared.lane.TheConstants.{PLACES}
use Rattle.coord_link.specs.LaneMachine.{Lane, sent}
use Rattle.coord_node.specs.Facade.{Transition, added, sends_of}
use Rattle.coord_world.specs.declared.step.node_transition.NodeTransition.{NodeTransition}
use Rattle.coord_world.specs.Facade.{Links, World, is_lane, lane_at, with_transition}
use Rattle.coord_world.specs.code.Sends.{CanSend, sent_lane, sent_lanes}
use Rattle.coord_world.specs.code.NodeTransitions.{IsTransitionOf, node_changed}
use Rattle.coord_tables.proofs.Cases.{by_test}
use Rattle.coord_tables.proofs.LinkLanes.{changed_alike, changed_nowhere, changed_twice, lane-changed}
use Rattle.coord_tables.specs.Links.{change_lanes}
use Rattle.coord_world.proofs.release.LaneFronts.{sent_none, sent_twice}

-- all that is sent to y
abbrev pub all_to : List (ℕ × Msg) → ℕ → List Msg
all_to [] y = []
all_to (s ∷ ss) y = cond (eqb y s.0) (s.1 ∷ []) [] ++ all_to ss y

-- a lane after one message was sent
pub get-sent_lane : (u : ℕ) (s : ℕ × Msg) (links : Links) (x y : ℕ) → lane_at (sent_lane u s links) x y ≡ option_map (λ l. cond (is_lane (x, y) u s.0) (sent (s.1 ∷ []) l) l) (lane_at links x y)
get-sent_lane u s links x y = lane-changed links (λ k l. cond (is_lane k u s.0) (sent (s.1 ∷ []) l) l) x y

one_sent : (mine here : Bool) (m : Msg) (ms : List Msg) (l : Lane) → cond mine (sent ms (cond (mine && here) (sent (m ∷ []) l) l)) (cond (mine && here) (sent (m ∷ []) l) l) ≡ cond mine (sent (cond here (m ∷ []) [] ++ ms) l) l
one_sent true true m ms l = sent_twice (m ∷ []) ms l
one_sent true false m ms l = refl
one_sent false here m ms l = refl

none_sent : (mine : Bool) (l : Lane) → cond mine (sent [] l) l ≡ l
none_sent true l = sym (sent_none l)
none_sent false l = refl

-- messages that are sent one after the other join their lanes
sent_all : (u : ℕ) (ss : List (ℕ × Msg)) (links : Links) → sent_lanes u ss links ≡ change_lanes (λ k l. cond (eqb k.0 u) (sent (all_to ss k.1) l) l) links
sent_all u [] links = sym (changed_nowhere (λ k l. cond (eqb k.0 u) (sent [] l) l) links (λ k l. none_sent (eqb k.0 u) l))
sent_all u (s ∷ ss) links =
    sent_all u ss (sent_lane u s links)
    ∙ changed_twice (λ k l. cond (is_lane k u s.0) (sent (s.1 ∷ []) l) l) (λ k l. cond (eqb k.0 u) (sent (all_to ss k.1) l) l) links
    ∙ changed_alike _ _ links (λ k l. one_sent (eqb k.0 u) (eqb k.1 s.0) s.1 (all_to ss k.1) l)

not_among : (x : ℕ) (xs : List ℕ) → AllByRecursion (λ y. nat_cmp x y ≡ Less) xs → list_any (λ y. nat_eq y x) xs ≡ false
not_among x [] above = refl
not_among x (y ∷ ys) above =
    let apart : nat_eq y x ≡ false = let less = above.0 in grind (arith, nat_tests) in
    grind (arith, nat_tests, apart, not_among x ys above.1)

-- if no node occurs twice, one message goes to each
each_once : (m : Msg) (xs : List ℕ) (y : ℕ) → IsStrictlySortedBy nat_cmp xs → all_to (map (λ x. (x, m)) xs) y ≡ cond (list_any (λ x. nat_eq x y) xs) (m ∷ []) []
unfolding IsStrictlySortedBy
each_once m [] y sorted = refl
each_once m (x ∷ xs) y sorted =
    by_test (eqb y x) (λ b. cond b (m ∷ []) [] ++ all_to (map (λ x. (x, m)) xs) y ≡ cond (list_any (λ x. nat_eq x y) (x ∷ xs)) (m ∷ []) [])
    (λ is. let same : y ≡ x = grind (arith, nat_tests) in
    let here : nat_eq x y ≡ true = grind (arith, nat_tests) in
    let none : list_any (λ z. nat_eq z y) xs ≡ false = ap (λ q. list_any (λ z. nat_eq z q) xs) same ∙ not_among x xs sorted.0 in
    ap (λ l. m ∷ l) (each_once m xs y sorted.1 ∙ ap (λ b. cond b (m ∷ []) []) none) ∙ grind (arith, nat_tests, here))
    (λ isnt. let away : nat_eq x y ≡ false = grind (arith, nat_tests) in each_once m xs y sorted.1 ∙ grind (arith, nat_tests, away))

-- what a transition sends to y
pub sent_is : (d : Transition) (y : ℕ) → all_to (sends_of d) y ≡ added d y
sent_is d y = each_once d.message (set.items d.to) y (items-sorted d.to) ∙ ap (λ b. cond b (d.message ∷ []) []) (sym (contains-items d.to y))

lanes_are : (u : ℕ) (d : Transition) (links : Links) → sent_lanes u (sends_of d) links ≡ change_lanes (λ k l. cond (eqb k.0 u) (sent (added d k.1) l) l) links
lanes_are u d links = sent_all u (sends_of d) links ∙ changed_alike _ _ links (λ k l i. cond (eqb k.0 u) (sent (sent_is d k.1 i) l) l)

pub act_done : (w : World) (node_transition : NodeTransition) (u : ℕ) (d : Transition) → IsTransitionOf node_transition u d → node_changed w node_transition.id node_transition.node node_transition.effects.sends.items ≡ with_transition w u d
act_done w node_transition u d is = (λ i. node_changed w (is.id i) (is.state i) (is.sends i)) ∙ (λ i. record w { nodes = insert w.nodes u d.state; links = lanes_are u d w.links i })

module _ (u : ℕ) (m : Msg) where
  can_send_each : (xs : List ℕ) (links : Links) → IsStrictlySortedBy nat_cmp xs → ((v : ℕ) (l : Lane) → lane_at links u v ≡ Some l → list_any (λ x. nat_eq x v) xs ≡ true → length l.queue < PLACES) →
      CanSend u (map (λ x. (x, m)) xs) links
  unfolding IsStrictlySortedBy
  can_send_each [] links sorted room = tt
  can_send_each (x ∷ xs) links sorted room = (λ l there. room x l there (grind (arith, nat_tests)), can_send_each xs (sent_lane u (x, m) links) sorted.1 later)
    where
      later : (v : ℕ) (l : Lane) → lane_at (sent_lane u (x, m) links) u v ≡ Some l → list_any (λ y. nat_eq y v) xs ≡ true → length l.queue < PLACES
      later v l there among =
          let away : eqb v x ≡ false = by_test (eqb v x) (λ b. b ≡ false)
          (λ is. let same : v ≡ x = grind (arith, nat_tests) in let none = ap (λ q. list_any (λ z. nat_eq z q) xs) same ∙ not_among x xs sorted.0 in cc) (λ _. refl) in
          let other : is_lane (u, v) u x ≡ false = grind (arith, nat_tests, away) in
          room v l (stays (is_lane (u, v) u x) (lane_at links u v) other ∙ sym (get-sent_lane u (x, m) links u v) ∙ there) (grind (arith, nat_tests, among))
        where
          stays : (b : Bool) (o : Option Lane) → b ≡ false → o ≡ option_map (λ l. cond b (sent (m ∷ []) l) l) o
          stays b None isnt = refl
          stays b (Some l) isnt = ap (λ t. Some (cond t (sent (m ∷ []) l) l)) (sym isnt)

-- the room that a transition has is room for the node step
pub act_room : (node_transition : NodeTransition) (u : ℕ) (d : Transition) (links : Links) → IsTransitionOf node_transition u d →
    ((v : ℕ) (l : Lane) → lane_at links u v ≡ Some l → set.contains d.to v ≡ true → length l.queue < PLACES) → CanSend node_transition.id node_transition.effects.sends.items links
act_room node_transition u d links is room =
    rw is.id (rw is.sends (can_send_each u d.message (set.items d.to) links (items-sorted d.to) (λ v l there among. room v l there (contains-items d.to v ∙ among))))
