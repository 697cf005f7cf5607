-- Room in the queues: each lane on which a transition of a fresh step sends has a free place.
use Rattle.std.proofs.Common.{◌≡◌, ℕ, ◌+◌, ◌<◌, ◌≤◌, true, List, [], ◌∷◌, ◌++◌, Option, Some, cond, eqb, length, refl, ◌∙◌, ap, arith}
use Rattle.std.proofs.lemmas.Bool.Decides.{nat_tests}
use Rattle.std.proofs.lemmas.List.{length-append}
use Rattle.coord_types.specs.Facade.{contains}
use Rattle.coord_types.specs.declared.packets.DataPacket.{DataPacket}
use Rattle.coord_types.specs.declared.steps.Command.TheVariants.{Drop, Reset}
use Rattle.coord_types.specs.declared.steps.Step.{Step}
use Rattle.coord_types.specs.declared.steps.Step.TheVariants.{Order, Take}
use Rattle.coord_types.proofs.Tables.{option_map}
use Rattle.coord_link.specs.declared.lane.TheConstants.{PLACES}
use Rattle.coord_link.specs.LaneMachine.{Lane, sent, took}
use Rattle.coord_node.specs.Facade.{Transition, added, lost, request, transition, transitions}
use Rattle.coord_world.specs.Facade.{InRange, IsFresh, Legal, World, lane_at, next, on_lane, prepared, state, with_command, with_transition, with_transitions}
use Rattle.coord_tables.proofs.Cases.{by_test}
use Rattle.coord_world.proofs.legal.NextKeepsLegal.{sound_after}
use Rattle.coord_world.proofs.lists.GetAfter.{lane_done}
use Rattle.coord_world.proofs.lanes.LaneNumbers.{lane_short}

-- a lane is there, with n messages or more
record HasQueue (o : Option Lane) (n : ℕ) : Type 0 where
  pub lane : Lane
  pub there : o ≡ Some lane
  pub long : n ≤ length lane.queue

-- a transition sends one message to each node of its set
one_added : (d : Transition) (v : ℕ) → contains d.to v ≡ true → length (added d v) ≡ 1
one_added d v to = grind (arith, to)

-- a transition puts one message on each lane that it sends to
one_more : (p : World) (u : ℕ) (d : Transition) (v : ℕ) (l : Lane) → lane_at p.links u v ≡ Some l → contains d.to v ≡ true → HasQueue (lane_at (with_transition p u d).links u v) (length l.queue + 1)
one_more p u d v l there to = record {
  lane = sent (added d v) l;
  there = lane_done p u d u v ∙ ap (option_map (λ k. cond (eqb u u) (sent (added d v) k) k)) there ∙ ap Some self;
  long = omega (arith, length-append l.queue (added d v), one_added d v to);
}
  where
    self : cond (eqb u u) (sent (added d v) l) l ≡ sent (added d v) l
    self = grind (arith, nat_tests)

-- transitions leave no lane shorter
still : (p : World) (ds : List (ℕ × Transition)) (u v n : ℕ) → HasQueue (lane_at p.links u v) n → HasQueue (lane_at (with_transitions p ds).links u v) n
still p [] u v n has = has
still p (e ∷ ds) u v n has = still (with_transition p e.0 e.1) ds u v n (record {
  lane = cond (eqb u e.0) (sent (added e.1 v) has.lane) has.lane;
  there = lane_done p e.0 e.1 u v ∙ ap (option_map (λ k. cond (eqb u e.0) (sent (added e.1 v) k) k)) has.there;
  long = by_test (eqb u e.0) (λ b. n ≤ length (cond b (sent (added e.1 v) has.lane) has.lane).queue) (λ _. omega (arith, has.long, length-append has.lane.queue (added e.1 v))) (λ _. has.long);
})

-- transitions are done in two goes
all_do-append : (w : World) (ds es : List (ℕ × Transition)) → with_transitions w (ds ++ es) ≡ with_transitions (with_transitions w ds) es
all_do-append w [] es = refl
all_do-append w (d ∷ ds) es = all_do-append (with_transition w d.0 d.1) ds es

-- a step's transitions act on the prepared lanes
lanes_done : (w : World) (s : Step) → (next w s).links ≡ (with_transitions (prepared w s) (transitions w.version (state w) s)).links
lanes_done w s = grind (arith, nat_tests)

module _ (w settled : World) (range : InRange w) (legal : Legal w) where
  -- whatever transitions were done before it, and are done after it
  pub room : (s : Step) (before after : List (ℕ × Transition)) (u : ℕ) (d : Transition) → IsFresh w settled s → transitions w.version (state w) s ≡ before ++ (u, d) ∷ after → (v : ℕ) (l : Lane) →
      lane_at (with_transitions (prepared w s) before).links u v ≡ Some l → contains d.to v ≡ true → length l.queue < PLACES
  room s before after u d fresh are v l there to =
      let p = with_transitions (prepared w s) before in
      let more = still (with_transition p u d) after u v (length l.queue + 1) (one_more p u d v l there to) in
      let end : (next w s).links ≡ (with_transitions (with_transition p u d) after).links =
      lanes_done w s ∙ ap (λ ds. (with_transitions (prepared w s) ds).links) are ∙ ap (λ (z : World). z.links) (all_do-append (prepared w s) before ((u, d) ∷ after)) in
      let short = (lane_short (next w s) u v more.lane (sound_after w settled s range legal fresh) (ap (λ t. lane_at t u v) end ∙ more.there)).queued in
      omega (arith, more.long, short)

  -- the one transition of a Take
  pub room_take : (p : DataPacket) → IsFresh w settled (Take p) → (v : ℕ) (l : Lane) →
      lane_at (on_lane w p.from p.to took).links p.to v ≡ Some l → contains (transition w.version p.msg (state w p.to) p.from).to v ≡ true → length l.queue < PLACES
  room_take p fresh = room (Take p) [] [] p.to (transition w.version p.msg (state w p.to) p.from) fresh refl

  -- the one transition of a Reset
  pub room_reset : (c n u : ℕ) → IsFresh w settled (Order c n (Reset u)) → (v : ℕ) (l : Lane) →
      lane_at w.links u v ≡ Some l → contains (request w.version (state w u)).to v ≡ true → length l.queue < PLACES
  room_reset c n u fresh = room (Order c n (Reset u)) [] [] u (request w.version (state w u)) fresh refl

  -- the two transitions of a Drop
  pub room_drop_first : (c n a b : ℕ) → IsFresh w settled (Order c n (Drop a b)) → (v : ℕ) (l : Lane) →
      lane_at (with_command w (Drop a b)).links a v ≡ Some l → contains (lost (state w a) b).to v ≡ true → length l.queue < PLACES
  room_drop_first c n a b fresh = room (Order c n (Drop a b)) [] ((b, lost (state w b) a) ∷ []) a (lost (state w a) b) fresh refl

  pub room_drop_second : (c n a b : ℕ) → IsFresh w settled (Order c n (Drop a b)) → (v : ℕ) (l : Lane) →
      lane_at (with_transition (with_command w (Drop a b)) a (lost (state w a) b)).links b v ≡ Some l → contains (lost (state w b) a).to v ≡ true → length l.queue < PLACES
  room_drop_second c n a b fresh = room (Order c n (Drop a b)) ((a, lost (state w a) b) ∷ []) [] b (lost (state w b) a) fresh refl
