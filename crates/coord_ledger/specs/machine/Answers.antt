-- The possible answers to each event. If there is more than one, memory, the device or the crash decides, and
-- the answer shows the choice.
use Rattle.std.specs.Prelude.{◌≡◌, ◌⊎◌, ℕ, zero, suc, ◌+◌, ◌==◌, ◌||◌, nat_le, min, Bool, List, [], ◌∷◌, map, length, is_some, Option, Some, None, Result, Ok, Err, if◌then◌else◌}
use Rattle.coord_types.specs.declared.limits.TheConstants.{MAX_BATCH_STEPS}
use Rattle.coord_types.specs.declared.refusals.Refusal.{Refusal}
use Rattle.coord_types.specs.declared.refusals.Refusal.TheVariants.{Stopped, OutOfMemory}
use Rattle.coord_types.specs.declared.steps.Reply.{Reply}
use Rattle.coord_store.specs.declared.faults.CommitFault.TheVariants as fault
use Rattle.coord_world.specs.declared.verdicts.Verdict.{Verdict}
use Rattle.coord_world.specs.declared.verdicts.Verdict.TheVariants.{Fresh, Repeat}
use Rattle.coord_world.specs.protocol.Outputs.{again}
use Rattle.coord_ledger.specs.declared.events.Answer.{Answer}
use Rattle.coord_ledger.specs.declared.events.Answer.TheVariants.{Accepted, Repeated, Refused, Begun, Nothing, Committed, Failed, Finished, NoFlight, NoTicket, Collected, Waiting, Resent, Shown, Opened}
use Rattle.coord_ledger.specs.declared.events.Event.{Event}
use Rattle.coord_ledger.specs.declared.events.Event.TheVariants.{Submit, Begin, Commit, Finish, Collect, Resend, Show, Crash}
use Rattle.coord_ledger.specs.declared.mark.Mark.{Mark}
use Rattle.coord_ledger.specs.declared.mark.Mark.TheVariants.{New, Good, Torn}
use Rattle.coord_ledger.specs.machine.Log.{Log, accepted_count, has_stopped, pending, settled_count, settled_world}
use Rattle.coord_ledger.specs.machine.Machine.{FlightOut, Machine}
use Rattle.coord_view.specs.Shown.{shown}
use Rattle.coord_ledger.specs.machine.Submits.{verdict}

abbrev pub IsOneOf : {A : Type 0} → A → List A → Type 0
IsOneOf x [] = ⊥
IsOneOf x (y ∷ ys) = (x ≡ y) ⊎ IsOneOf x ys

-- A fresh step gets the next number. A repeat gets the number of its step.
abbrev pub to_submit : ℕ → Result Verdict Refusal → List Answer
to_submit number (Ok (Fresh kind)) = Accepted number ∷ Refused OutOfMemory ∷ []
to_submit number (Ok (Repeat reply)) = Repeated reply.step ∷ []
to_submit number (Err refusal) = Refused refusal ∷ []

-- the number of steps that the next flight takes
abbrev pub next_size : Log → ℕ
next_size log = min MAX_BATCH_STEPS (length (pending log))

-- whether no flight can leave: the ledger has stopped, a flight is out, or nothing is pending
abbrev pub cannot_flush : Bool → Log → Bool
cannot_flush is_out log = has_stopped log || is_out || (length (pending log) == 0)

abbrev pub to_begin : Machine → List Answer
to_begin s = if cannot_flush (is_some s.flight) s.log then Nothing ∷ [] else Begun (next_size s.log) ∷ Refused OutOfMemory ∷ []

abbrev pub to_commit : Mark → List Answer
to_commit New = Committed ∷ Failed fault.Device ∷ Failed fault.OutOfMemory ∷ []
to_commit Good = Failed fault.Again ∷ []
to_commit Torn = Failed fault.Stopped ∷ []

-- The settled count after the flight has returned. A good flight adds its steps to the count. Only for a good
-- flight can memory run out, since its releases need memory.
abbrev pub to_finish : ℕ → ℕ → Mark → List Answer
to_finish count size New = Finished count ∷ []
to_finish count size Good = Finished (count + size) ∷ Refused OutOfMemory ∷ []
to_finish count size Torn = Finished count ∷ []

abbrev pub with_flight : Option FlightOut → (FlightOut → List Answer) → List Answer
with_flight None answers_for = NoFlight ∷ []
with_flight (Some f) answers_for = answers_for f

-- the ticket with this index, or None if there is no such ticket or it was collected
abbrev pub ticket : {A : Type 0} → List (Option A) → ℕ → Option A
ticket [] i = None
ticket (t ∷ ts) zero = t
ticket (t ∷ ts) (suc i) = ticket ts i

-- The reply is returned only if its step is settled.
abbrev pub to_collect : ℕ → Option Reply → List Answer
to_collect count None = NoTicket ∷ []
to_collect count (Some reply) = (if nat_le reply.step count then Collected reply else Waiting) ∷ []

abbrev pub to_show : Machine → List Answer
to_show s = if has_stopped s.log then Refused Stopped ∷ [] else Shown (shown (accepted_count s.log) (settled_world s.log)) ∷ Refused OutOfMemory ∷ []

-- the numbers of steps that a crash may keep, if d steps are settled and a flight of b more steps is out with
-- this mark
abbrev pub kept_with : ℕ → ℕ → Mark → List ℕ
kept_with d b New = d ∷ []
kept_with d b Good = (d + b) ∷ []
kept_with d b Torn = d ∷ (d + b) ∷ []

-- the numbers of steps that a crash may keep, if d steps are settled: with a flight out, with steps in doubt,
-- or with neither
abbrev pub kept_by : ℕ → Option FlightOut → Option ℕ → List ℕ
kept_by d None None = d ∷ []
kept_by d None (Some b) = d ∷ (d + b) ∷ []
kept_by d (Some f) doubt = kept_with d f.size f.mark

-- the numbers of steps of the trail that a crash may keep
abbrev pub kept : Machine → List ℕ
kept s = kept_by s.log.settled s.flight s.log.doubt

-- all possible answers to an event
abbrev pub answers : Machine → Event → List Answer
answers s (Submit x) = to_submit (accepted_count s.log + 1) (verdict s.log x)
answers s Begin = to_begin s
answers s Commit = with_flight s.flight (λ f. to_commit f.mark)
answers s Finish = with_flight s.flight (λ f. to_finish (settled_count s.log) f.size f.mark)
answers s (Collect i) = to_collect (settled_count s.log) (ticket s.tickets i)
answers s Resend = Resent (length (again (settled_world s.log))) ∷ Refused OutOfMemory ∷ []
answers s Show = to_show s
answers s Crash = map (λ n. Opened (s.log.base.count + n)) (kept s)
