-- Distances stay in their ranges through a step: those of nodes, and those that lanes and fresh steps carry.
use Rattle.std.proofs.Common.{ℕ, ◌+◌, ◌≤◌, cond, eqb, subst, arith, ◌≡◌, List, [], ◌∷◌, ◌++◌, refl, sym, ap, ◌∙◌, is_some}
use Rattle.std.proofs.lemmas.Bool.Decides.{nat_tests}
use Rattle.coord_types.specs.declared.steps.Step.{Step}
use Rattle.coord_types.specs.declared.steps.Step.TheVariants.{Order, Take, Clear}
use Rattle.coord_world.specs.Facade.{CarryWithin, InRange, IsFresh, World, farthest, IsDistant, carried, next, state}
use Rattle.coord_world.proofs.Acceptance.{fresh_take, Passes, fresh_order}
use Rattle.coord_world.proofs.ranges.EveryNode.{carried_by, Adds, AllRows, Carries, rows_next}
use Rattle.coord_types.specs.Facade.{NodeState, after_front}
use Rattle.coord_types.specs.declared.messages.Msg.{Msg}
use Rattle.coord_types.specs.declared.steps.Command.{Command}
use Rattle.coord_types.specs.declared.steps.Command.TheVariants.{Add, Remove, Join, Drop, Reset, Confirm}
use Rattle.coord_node.specs.Facade.{Transition, added, kept, lost, request, transition, transitions}
use Rattle.coord_tables.proofs.LinkLanes.{lane-mirrored}
use Rattle.coord_world.proofs.lanes.EveryLane.{AllLanes, AllSend, LaneCarries, Makes, lanes_next}
use Rattle.coord_world.proofs.transitions.RuleCases.{abort_cases, ack_cases, lost_cases, ready_cases, request_cases}
use Rattle.coord_tables.proofs.Cases.{by_test}
use Rattle.coord_types.specs.NodeSet as set
use Rattle.coord_types.specs.declared.messages.Msg.TheVariants as msg

-- ---- the distance that a fresh step carries to a node is within the world's ranges

-- no distance is above the count
pub farthest_le : (version count : ℕ) → farthest version count ≤ count
farthest_le version count = grind (arith, nat_tests)

-- as steps are taken it only grows
pub farthest_grows : (version count : ℕ) → farthest version count ≤ farthest version (count + 1)
farthest_grows version count = grind (arith, nat_tests)

-- an Abort carries one more, and in version 1 nothing
pub one_further_within : (version count d : ℕ) → d ≤ farthest version count → cond (eqb version 1) 0 (d + 1) ≤ farthest version (count + 1)
one_further_within version count d near = grind (arith, nat_tests)

-- of a step, by its lane
pub carried_within : (w settled : World) (s : Step) → InRange w → IsFresh w settled s → carried_by s ≤ farthest w.version w.count
carried_within w settled (Order c n x) range fresh = omega arith
carried_within w settled (Take p) range fresh =
    let take = fresh_take w settled p fresh in
    (subst (CarryWithin (farthest w.version w.count)) take.front (range.carried p.from p.to take.lane take.there)).0
carried_within w settled (Clear p) range fresh = omega arith

-- ---- distances of nodes

-- each change of a node keeps its distance within the ranges, as the count rises
carries_distances : (version count n : ℕ) → n ≤ farthest version count → Carries n (λ x r. IsDistant version count r) (λ x r. IsDistant version (count + 1) r)
carries_distances version count n near = record {
  weaken = λ x r far. record { within = omega (arith, far.within, farthest_grows version count); ready = far.ready };
  goes = λ x r s near_s far room goes. record {
    within = omega (arith, goes.distance (farthest version count) far.within near, farthest_grows version count);
    ready = goes.ready far.ready;
  };
  confirm = λ x r e far entered. record { within = omega (arith, far.within, farthest_grows version count); ready = far.ready };
  widen = λ x r v far room. record { within = omega (arith, far.within, farthest_grows version count); ready = far.ready };
}

-- a new node has none
new_distant : (version count : ℕ) (s : Step) → Adds (λ x r. IsDistant version count r) s
new_distant version count (Order c n (Add u g)) = record { within = omega arith; ready = λ _. refl }
new_distant version count s = tt

-- each node after a fresh step
pub distances_next : (w settled : World) (s : Step) → InRange w → IsFresh w settled s → AllRows (λ x r. IsDistant w.version (w.count + 1) r) (next w s).nodes
distances_next w settled s range fresh =
    rows_next (λ x r. IsDistant w.version w.count r) (λ x r. IsDistant w.version (w.count + 1) r) w range.distances settled s
    (carries_distances w.version w.count (carried_by s) (carried_within w settled s range fresh)) range (new_distant w.version (w.count + 1) s) fresh

-- ---- distances that lanes carry

-- messages within a distance, one after the others
within_append : (n : ℕ) (xs ys : List Msg) → CarryWithin n xs → CarryWithin n ys → CarryWithin n (xs ++ ys)
within_append n [] ys one two = two
within_append n (m ∷ xs) ys one two = (one.0, within_append n xs ys one.1 two)

-- within a greater one
pub within_more : (n k : ℕ) (xs : List Msg) → n ≤ k → CarryWithin n xs → CarryWithin k xs
within_more n k [] less within = tt
within_more n k (m ∷ xs) less within = (omega (arith, less, within.0), within_more n k xs less within.1)

-- without the front
within_after : (n : ℕ) (xs : List Msg) → CarryWithin n xs → CarryWithin n (after_front xs)
within_after n [] within = tt
within_after n (m ∷ xs) within = within.1

-- each change of a lane keeps its messages within the ranges
carries_carried : (version count : ℕ) → LaneCarries (CarryWithin (farthest version (count + 1))) (λ x y l. CarryWithin (farthest version count) l.queue) (λ x y l. CarryWithin (farthest version (count + 1)) l.queue)
carries_carried version count = record {
  weaken = λ x y l within. within_more _ _ l.queue (farthest_grows version count) within;
  take = λ x y l within. within_more _ _ l.queue (farthest_grows version count) within;
  clear = λ x y l within. within_after _ l.queue (within_more _ _ l.queue (farthest_grows version count) within);
  send = λ x y l ms sends within. within_append _ l.queue ms within sends;
}

-- a new lane carries nothing
new_carries : (n count : ℕ) (s : Step) → Makes (λ x y l. CarryWithin n l.queue) count s
new_carries n count (Order c m (Join a b)) = λ x y. tt
new_carries n count s = tt

-- what a transition sends is its message
sends_within : (n : ℕ) (d : Transition) → carried d.message ≤ n → (y : ℕ) → CarryWithin n (added d y)
sends_within n d near y = by_test (set.contains d.to y) (λ b. CarryWithin n (cond b (d.message ∷ []) [])) (λ _. (near, tt)) (λ _. tt)

-- a reset carries one step, and in version 1 none
request_near : (version : ℕ) (r : NodeState) (n : ℕ) → kept version 1 ≤ n → carried (request version r).message ≤ n
request_near version r n step = request_cases version r (λ d k. carried d.message ≤ n) (λ _ _. omega arith) (λ _ _. omega (arith, step)) (omega arith)

-- an Abort that is taken one more than it carried
take_near : (version : ℕ) (r : NodeState) (v : ℕ) (m : Msg) (n : ℕ) → kept version (carried m + 1) ≤ n → carried (transition version m r v).message ≤ n
take_near version r v (msg.Abort k) n more = abort_cases version r v (λ d. carried d.message ≤ n) k (λ _ _. omega arith) (λ _ _. grind (arith, nat_tests, more)) (λ _. omega arith)
take_near version r v msg.Ack n more = ack_cases r v (λ d. carried d.message ≤ n) (λ _. omega arith) (λ _. omega arith) (λ _ _. omega arith) (λ _ _ _. omega arith)
take_near version r v msg.Ready n more = ready_cases r v (λ d. carried d.message ≤ n) (λ _. omega arith) (λ _ _. omega arith)

-- a link that vanishes sends no Abort
lost_near : (r : NodeState) (v n : ℕ) → carried (lost r v).message ≤ n
lost_near r v n = lost_cases r v (λ d. carried d.message ≤ n) (λ _. omega arith) (λ _ _. omega arith) (λ _ _. omega arith) (λ _ _. omega arith) (λ _ _ _. omega arith) (λ _ _ _ _. omega arith)

module _ (w settled : World) (range : InRange w) where
  -- what a node that is there sends on is within the next world's ranges
  step_within : (d : ℕ) → d ≤ farthest w.version w.count → kept w.version (d + 1) ≤ farthest w.version (w.count + 1)
  step_within d near = one_further_within w.version w.count d near

  ordered_sends : (c n : ℕ) (x : Command) → Passes w x → AllSend (CarryWithin (farthest w.version (w.count + 1))) (transitions w.version (state w) (Order c n x))
  ordered_sends c n (Add u g) passes = tt
  ordered_sends c n (Remove u) passes = tt
  ordered_sends c n (Join a b) passes = tt
  ordered_sends c n (Drop a b) passes = (sends_within _ (lost (state w a) b) (lost_near (state w a) b _), (sends_within _ (lost (state w b) a) (lost_near (state w b) a _), tt))
  ordered_sends c n (Reset u) known = (sends_within _ (request w.version (state w u)) (request_near w.version (state w u) (farthest w.version (w.count + 1)) (step_within 0 (omega arith))), tt)
  ordered_sends c n (Confirm u e) passes = tt

  -- what the transitions of a fresh step send
  fresh_sends : (s : Step) → IsFresh w settled s → AllSend (CarryWithin (farthest w.version (w.count + 1))) (transitions w.version (state w) s)
  fresh_sends (Order c n x) fresh = ordered_sends c n x (fresh_order w settled c n x fresh)
  fresh_sends (Take p) fresh =
      let take = fresh_take w settled p fresh in
      let known = range.ends p.to p.from (sym (lane-mirrored w.links p.from p.to) ∙ ap is_some take.there) in
      (sends_within _ (transition w.version p.msg (state w p.to) p.from) (take_near w.version (state w p.to) p.from p.msg _ (step_within (carried p.msg) (carried_within w settled (Take p) range fresh))), tt)
  fresh_sends (Clear p) fresh = tt

-- each lane after a fresh step
pub carried_next : (w settled : World) (s : Step) → InRange w → IsFresh w settled s → AllLanes (λ x y l. CarryWithin (farthest w.version (w.count + 1)) l.queue) (next w s)
carried_next w settled s range fresh =
    lanes_next (CarryWithin (farthest w.version (w.count + 1))) (λ x y l. CarryWithin (farthest w.version w.count) l.queue) (λ x y l. CarryWithin (farthest w.version (w.count + 1)) l.queue)
    (carries_carried w.version w.count) w range.carried s (new_carries (farthest w.version (w.count + 1)) w.count s) (fresh_sends w settled range s fresh)

-- no step changes the version
pub same_version : (w : World) (s : Step) → (next w s).version ≡ w.version
same_version w (Order c n (Add u g)) = refl
same_version w (Order c n (Remove u)) = refl
same_version w (Order c n (Join a b)) = refl
same_version w (Order c n (Drop a b)) = refl
same_version w (Order c n (Reset u)) = refl
same_version w (Order c n (Confirm u e)) = refl
same_version w (Take p) = refl
same_version w (Clear p) = refl
