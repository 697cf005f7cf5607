-- Printed outputs are settled, and stay settled.
use Rattle.std.proofs.Common.{◌≡◌, ◌≢◌, ℕ, ◌+◌, ◌≤◌, true, false, List, [], ◌∷◌, length, map, take, Bool, Result, refl, sym, ap, arith}
use Rattle.std.proofs.lemmas.List.{length-take}
use Rattle.std.specs.List.{AllByRecursion}
use Rattle.coord_types.specs.declared.refusals.Refusal.TheVariants.{OutOfMemory}
use Rattle.coord_world.proofs.Facade.{by_test, fold_counts}
use Rattle.coord_world.specs.Facade.{World, next, outs}
use Rattle.coord_ledger.specs.declared.events.Event.{Event}
use Rattle.coord_ledger.specs.Facade.{Answered, EventInRange, IsConsistent, IsOneOf, Machine, accepted_count, after, after_submit, next_size, pending, run, settled_count, settled_world, to_submit, verdict, with_settled, with_step, world_after}
use Rattle.coord_ledger.proofs.machine.Consistent.{run_is_consistent, stays_consistent}
use Rattle.coord_ledger.proofs.machine.ConsistentFlights.{kept_more}
use Rattle.coord_ledger.proofs.machine.Lists.{all_raised}
use Rattle.coord_ledger.proofs.machine.Logs.{count_after}
use Rattle.coord_ledger.proofs.machine.SettledStays.{settled_stays}
use Rattle.coord_drill.specs.Answered.{IsAnswered}
use Rattle.coord_drill.specs.Drill.{DrillState, after_asked, flight_events, machine_of, step_events}
use Rattle.coord_drill.specs.Laws.{PrintedSurvives}
use Rattle.coord_drill.specs.Reported.{flight_answered, repeat_answered, step_answered, reported_by}
use Rattle.coord_drill.specs.declared.asked.Asked.TheVariants as ask
use Rattle.coord_drill.specs.Facade.{Accepted, Answer, Asked, Begun, Committed, Refusal, Refused, Repeated, Step, Verdict}
use Rattle.coord_drill.proofs.does.FlownTo.{begun_size}

-- ---- the steps that a line reports are settled after it

abbrev HaveMemory : List Answer → Type 0
HaveMemory given = AllByRecursion (λ a. a ≢ Refused OutOfMemory) given

-- the steps of a flight have the next numbers
numbers : (w : World) (ss : List Step) (n : ℕ) → w.count + length ss ≤ n → AllByRecursion (λ k. k ≤ n) (map (λ o. o.reply.step) (outs w ss))
numbers w [] n le = tt
numbers w (s ∷ ss) n le = (omega (arith, le), numbers (next w s) ss n (omega (arith, le)))

-- ---- a flight

-- that of a flight that was committed
committed_log : (m : Machine) (b : ℕ) (rest : List Answer) → Answered m (flight_events (Begun b ∷ Committed ∷ rest)) (Begun b ∷ Committed ∷ rest) → HaveMemory rest → (run m (flight_events (Begun b ∷ Committed ∷ rest)) (Begun b ∷ Committed ∷ rest)).log ≡ with_settled m.log b
committed_log m b rest h1 h2 = grind arith

flight_settled : (m : Machine) (given : List Answer) → Answered m (flight_events given) given → HaveMemory given → AllByRecursion (λ k. k ≤ settled_count (run m (flight_events given) given).log) (flight_answered m.log given)
flight_settled m (Begun b ∷ Committed ∷ rest) answered memory =
    let log = m.log in
    let size = begun_size m b answered.0 in
    let settled = committed_log m b rest answered memory.1.1 in
    let now = ap settled_count settled in
    let front = fold_counts log.base (take log.settled log.trail) in
    let few = length-take log.settled log.trail in
    let out = length-take (next_size log) (pending log) in
    numbers (settled_world log) (take (next_size log) (pending log)) (settled_count (run m (flight_events (Begun b ∷ Committed ∷ rest)) (Begun b ∷ Committed ∷ rest)).log) (omega (arith, size, now, front, few, out))
flight_settled m given answered memory = tt

-- ---- a step

module _ (s : DrillState) (x : Step) where
  -- an accepted step is in the log
  accepted_log : (v : Result Verdict Refusal) (n : ℕ) → IsOneOf (Accepted n) (to_submit (accepted_count s.log + 1) v) → (after_submit (machine_of s) x v (Accepted n)).log ≡ with_step s.log x
  accepted_log v n h1 = grind arith

  -- any other leaves it
  repeated_log : (v : Result Verdict Refusal) (n : ℕ) → (after_submit (machine_of s) x v (Repeated n)).log ≡ s.log
  repeated_log v n = grind arith

  repeat_settled : (v : Result Verdict Refusal) (count : ℕ) → AllByRecursion (λ k. k ≤ count) (repeat_answered count v)
  repeat_settled v count = grind (arith, by_test)

  step_settled : (holds : Bool) (given : List Answer) → s.holds ≡ holds → Answered (machine_of s) (step_events holds x given) given → HaveMemory given → AllByRecursion (λ k. k ≤ settled_count (run (machine_of s) (step_events holds x given) given).log) (step_answered s x given)
  step_settled true (Accepted n ∷ given) is answered memory =
      rw is tt
  step_settled false (Accepted n ∷ given) is answered memory =
      let mid = after_submit (machine_of s) x (verdict s.log x) (Accepted n) in
      rw is
      (rw (sym (accepted_log (verdict s.log x) n answered.0)) (flight_settled mid given answered.1 memory.1))
  step_settled holds (Repeated n ∷ given) is answered memory =
      let log = repeated_log (verdict s.log x) n in
      rw log (repeat_settled (verdict s.log x) (settled_count s.log))
  step_settled holds given is answered memory = tt

-- ---- a line

pub reported_settled : (s t : DrillState) (a : Asked) (given : List Answer) (reported : List ℕ) → IsAnswered s a given reported t → AllByRecursion (λ k. k ≤ settled_count t.log) (reported_by s a given)
unfolding reported_by after_asked
reported_settled s t (ask.Submit x) given reported answered = rw answered.goes_on (step_settled s x s.holds given refl answered.answered answered.with_memory)
reported_settled s t ask.Flush given reported answered = rw answered.goes_on (flight_settled (machine_of s) given answered.answered answered.with_memory)
reported_settled s t ask.Resend given reported answered = (omega (arith, ap (λ (r : DrillState). settled_count r.log) answered.goes_on), tt)
reported_settled s t a given reported answered = tt

-- ---- events

-- the settled steps stay
pub settled_grows : (s : Machine) (es : List Event) (gs : List Answer) → AllByRecursion EventInRange es → IsConsistent s → Answered s es gs → settled_count s.log ≤ settled_count (run s es gs).log
settled_grows s [] gs named is answered = omega arith
settled_grows s (e ∷ es) [] named is answered = absurd answered
settled_grows s (e ∷ es) (a ∷ gs) named is answered =
    let keeps = settled_stays s e a is answered.0 in
    let later = settled_grows (after s e a) es gs named.1 (stays_consistent s e a named.0 is answered.0) answered.1 in
    omega (arith, later, keeps.settled, ap (λ (w : World). w.count) keeps.base)

-- printed outputs survive
pub printed_survives : PrintedSurvives
printed_survives s es gs reported bytes is named answered settled survives =
    let t = run s es gs in
    let n = survives.steps in
    let keeps = kept_more t n (run_is_consistent s es gs named is answered) survives.allowed in
    let le : n ≤ length t.log.trail = omega (arith, keeps.is, keeps.within) in
    all_raised (λ k. k) (settled_count s.log) (world_after t.log n).count reported (omega (arith, count_after t.log n le, keeps.is, settled_grows s es gs named is answered)) settled
