-- As long as no step was accepted the world of a drill is empty.
use Rattle.std.proofs.Common.{◌≡◌, ◌≢◌, ℕ, Bool, false, List, [], ◌∷◌, Result, refl, sym, ap, ◌∙◌, subst, arith, inr}
use Rattle.coord_types.specs.Table as table
use Rattle.coord_store.specs.Migrating.{risen}
use Rattle.coord_world.specs.Facade.{World, no_world}
use Rattle.coord_ledger.specs.declared.events.Event.TheVariants as event
use Rattle.coord_ledger.specs.Facade.{Answered, Log, after_submit, log_over, machine_over, rebased, run}
use Rattle.coord_drill.specs.Answered.{IsAnswered}
use Rattle.coord_drill.specs.Drill.{DrillState, after_asked, begun_after, flight_events, machine_of, step_events}
use Rattle.coord_drill.specs.declared.asked.Asked.TheVariants as ask
use Rattle.coord_drill.specs.Facade.{Accepted, Answer, Asked, IsEmptyLog, Refusal, Step, Verdict}

pub risen_empty : risen (no_world 1) ≡ no_world 2
unfolding table.empty table.change
risen_empty = refl

-- nothing is pending: no flight goes out
empty_flight : (w : World) (given : List Answer) → Answered (machine_over (log_over w)) (flight_events given) given → (run (machine_over (log_over w)) (flight_events given) given).log ≡ log_over w
empty_flight w given h1 = grind arith

-- a crash keeps no step
empty_crash : (w : World) (given : List Answer) → Answered (machine_over (log_over w)) (event.Crash ∷ []) given →
    rebased (run (machine_over (log_over w)) (event.Crash ∷ []) given).log (run (machine_over (log_over w)) (event.Crash ∷ []) given).log.settled ≡ log_over w
empty_crash w given h1 = grind arith

-- a step that is not accepted leaves the log
module _ (s : DrillState) (x : Step) where
  not_accepted : (v : Result Verdict Refusal) (a : Answer) → ((n : ℕ) → a ≢ Accepted n) → (after_submit (machine_of s) x v a).log ≡ s.log
  not_accepted v a h1 = grind arith

  step_leaves : (given : List Answer) → Answered (machine_of s) (step_events s.holds x given) given → begun_after s.has_begun (ask.Submit x) given ≡ false → (run (machine_of s) (step_events s.holds x given) given).log ≡ s.log
  step_leaves given h1 h2 = grind (arith, not_accepted)

never_begun : (begun : Bool) (x : Step) (given : List Answer) → begun_after begun (ask.Submit x) given ≡ false → begun ≡ false
never_begun begun x given h1 = grind arith

-- ---- a line

module _ (s t : DrillState) (given : List Answer) (reported : List ℕ) (empty : s.has_begun ≡ false → IsEmptyLog s.log) (begun : t.has_begun ≡ false) where
  -- an event that leaves the log
  same_log : t.log ≡ s.log → s.has_begun ≡ false → IsEmptyLog t.log
  same_log same before = subst IsEmptyLog (sym same) (empty before)

  -- it maps the empty log to the empty log
  by_world : (f : Log → Log) → t.log ≡ f s.log → s.has_begun ≡ false → ((w : World) → s.log ≡ log_over w → f (log_over w) ≡ log_over w) → IsEmptyLog t.log
  by_world f is before stays = grind arith

  pub stays_empty : (a : Asked) → IsAnswered s a given reported t → IsEmptyLog t.log
  unfolding after_asked
  stays_empty (ask.Submit x) answered =
      let before : begun_after s.has_begun (ask.Submit x) given ≡ false = sym (ap (λ (r : DrillState). r.has_begun) answered.goes_on) ∙ begun in
      same_log (ap (λ (r : DrillState). r.log) answered.goes_on ∙ step_leaves s x given answered.answered before) (never_begun s.has_begun x given before)
  stays_empty ask.Flush answered =
      by_world (λ log. (run (machine_over log) (flight_events given) given).log) (ap (λ (r : DrillState). r.log) answered.goes_on) (sym (ap (λ (r : DrillState). r.has_begun) answered.goes_on) ∙ begun)
      (λ w one. empty_flight w given (rw (sym one) answered.answered))
  stays_empty ask.Crash answered =
      by_world (λ log. rebased (run (machine_over log) (event.Crash ∷ []) given).log (run (machine_over log) (event.Crash ∷ []) given).log.settled) (ap (λ (r : DrillState). r.log) answered.goes_on) (sym (ap (λ (r : DrillState). r.has_begun) answered.goes_on) ∙ begun)
      (λ w one. empty_crash w given (rw (sym one) answered.answered))
  stays_empty ask.Version2 answered = inr (ap (λ (r : DrillState). r.log) answered.goes_on)
  stays_empty a answered = same_log (ap (λ (r : DrillState). r.log) answered.goes_on) (sym (ap (λ (r : DrillState). r.has_begun) answered.goes_on) ∙ begun)
