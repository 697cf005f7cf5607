-- What flights, steps and crashes print, and what becomes of the drill, by the answers to their events.
use Rattle.std.proofs.Common.{Bool, ◌≡◌, ℕ, true, false, cond, List, [], ◌∷◌, Ok, Err, Some, refl, ap, ◌∙◌, arith}
use Rattle.coord_types.specs.declared.steps.Kind.{Kind}
use Rattle.coord_disk.specs.Model.DiskModel.{DiskModel}
use Rattle.coord_ledger.specs.declared.events.Event.TheVariants as event
use Rattle.coord_ledger.specs.Facade.{DriverState, IsAnew, started, after_submit, run as after_run, settled_count, verdict, with_step}
use Rattle.coord_ledger.proofs.follows.Follows.{log_after}
use Rattle.coord_drill.specs.Answered.{asked_lines, flight_lines, kept_line, repeat_line}
use Rattle.coord_drill.specs.Drill.{DrillState, after_asked, flight_events, machine_of, seen_as}
use Rattle.coord_drill.specs.declared.asked.Asked.TheVariants.{Crash, Submit}
use Rattle.coord_drill.specs.Facade.{Accepted, Answer, Fresh, Led, Opened, Refusal, Refused, Repeat, Repeated, Reply, Step, drill_of, opened_line, pending_line, refusal_line}

-- ---- steps

module _ (s : DrillState) (x : Step) where
  -- what the machine is after a step was accepted: the log has it, and a ticket was given
  accepted : (k : Kind) (n : ℕ) → verdict s.log x ≡ Ok (Fresh k) →
      after_submit (machine_of s) x (verdict s.log x) (Accepted n) ≡ record (machine_of s) { log = with_step s.log x; tickets = Some (record { step = n; kind = k }) ∷ [] }
  accepted k n is = ap (λ v. after_submit (machine_of s) x v (Accepted n)) is

  pub held_line : (n : ℕ) → s.holds ≡ true → asked_lines s (Submit x) (Accepted n ∷ []) ≡ pending_line n
  unfolding asked_lines
  held_line n is = ap (λ b. cond b (pending_line n) []) is

  pub held_after : (k : Kind) (n : ℕ) → verdict s.log x ≡ Ok (Fresh k) → s.holds ≡ true → after_asked s (Submit x) (Accepted n ∷ []) ≡ record { log = with_step s.log x; holds = s.holds; has_begun = true }
  unfolding after_asked
  held_after k n fresh is =
      let m = after_submit (machine_of s) x (verdict s.log x) (Accepted n) in
      ap (λ b. seen_as (after_run m (cond b [] (flight_events [])) []) s.holds true) is ∙ ap (λ m. seen_as m s.holds true) (accepted k n fresh)

  pub flown_line : (n : ℕ) (given : List Answer) → s.holds ≡ false → asked_lines s (Submit x) (Accepted n ∷ given) ≡ flight_lines (with_step s.log x) given
  unfolding asked_lines
  flown_line n given is = ap (λ b. cond b (pending_line n) (flight_lines (with_step s.log x) given)) is

  pub flown_after : (k : Kind) (n : ℕ) (given : List Answer) → verdict s.log x ≡ Ok (Fresh k) → s.holds ≡ false →
      after_asked s (Submit x) (Accepted n ∷ given) ≡ seen_as (after_run (record (machine_of s) { log = with_step s.log x; tickets = Some (record { step = n; kind = k }) ∷ [] }) (flight_events given) given) s.holds true
  unfolding after_asked
  flown_after k n given fresh is =
      let m = after_submit (machine_of s) x (verdict s.log x) (Accepted n) in
      ap (λ b. seen_as (after_run m (cond b [] (flight_events given)) given) s.holds true) is ∙ ap (λ m. seen_as (after_run m (flight_events given) given) s.holds true) (accepted k n fresh)

  pub repeat_lines : (r : Reply) (n : ℕ) → verdict s.log x ≡ Ok (Repeat r) → asked_lines s (Submit x) (Repeated n ∷ []) ≡ kept_line (settled_count s.log) r
  unfolding asked_lines
  repeat_lines r n is = ap (repeat_line (settled_count s.log)) is

  pub repeat_after : (r : Reply) (n : ℕ) → verdict s.log x ≡ Ok (Repeat r) → after_asked s (Submit x) (Repeated n ∷ []) ≡ s
  unfolding after_asked
  repeat_after r n is = ap (λ v. seen_as (after_submit (machine_of s) x v (Repeated n)) s.holds s.has_begun) is

  pub refused_line : (e : Refusal) → asked_lines s (Submit x) (Refused e ∷ []) ≡ refusal_line e
  unfolding asked_lines
  refused_line e = refl

  pub refused_after : (e : Refusal) → verdict s.log x ≡ Err e → after_asked s (Submit x) (Refused e ∷ []) ≡ s
  unfolding after_asked
  refused_after e is = ap (λ v. seen_as (after_submit (machine_of s) x v (Refused e)) s.holds s.has_begun) is

-- ---- crashes

pub crash_line : (s : DrillState) (count : ℕ) → opened_line count ≡ asked_lines s Crash (Opened count ∷ [])
unfolding asked_lines
crash_line s count = refl

-- it is seen from the world that was opened
pub crash_after : {D : Type 0} (disk : DiskModel D) (crashes : D → D → Type 0) (v w : DriverState D) (holds begun : Bool) (count : ℕ) → Led disk crashes (started v.ledger) (event.Crash ∷ []) (Opened count ∷ []) v w → IsAnew w → drill_of w.ledger false begun ≡ after_asked (drill_of v.ledger holds begun) Crash (Opened count ∷ [])
unfolding after_asked
crash_after disk crashes v w holds begun count h1 h2 = grind (arith, log_after)
