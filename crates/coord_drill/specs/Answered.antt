-- The output of a drill for each request. Each line reports the result of one call of the ledger.
use Rattle.std.specs.Prelude.{◌≡◌, ◌≢◌, ℕ, nat_le, List, [], ◌∷◌, ◌++◌, take, Option, Some, None, Result, Ok, Err, if◌then◌else◌}
use Rattle.std.specs.List.{AllByRecursion}
use Rattle.coord_types.specs.declared.refusals.Refusal.{Refusal}
use Rattle.coord_types.specs.declared.refusals.Refusal.TheVariants.{OutOfMemory, Stopped}
use Rattle.coord_types.specs.declared.steps.Reply.{Reply}
use Rattle.coord_types.specs.declared.steps.Step.{Step}
use Rattle.coord_check.specs.Faults.{first, faults}
use Rattle.coord_world.specs.declared.verdicts.Verdict.{Verdict}
use Rattle.coord_world.specs.declared.verdicts.Verdict.TheVariants.{Fresh, Repeat}
use Rattle.coord_world.specs.protocol.Outputs.{again, outs}
use Rattle.coord_ledger.specs.declared.events.Answer.{Answer}
use Rattle.coord_ledger.specs.declared.events.Answer.TheVariants.{Accepted, Begun, Committed, Failed, Opened, Refused, Repeated}
use Rattle.coord_ledger.specs.Facade.{Answered, Log, accepted_count, front_world, has_stopped, next_size, pending, settled_count, settled_world, verdict, with_step}
use Rattle.coord_view.specs.Printed.{view_lines}
use Rattle.coord_view.specs.Shown.{shown}
use Rattle.coord_drill.specs.Asked.{asked}
use Rattle.coord_drill.specs.Drill.{DrillState, after_asked, line_events, machine_of}
use Rattle.coord_drill.specs.Printed.{bad_line, commit_line, count_line, fault_line, idle_line, opened_line, output_lines, pending_line, refusal_line, reply_line, settled_lines}
use Rattle.coord_drill.specs.declared.asked.Asked.{Asked}
use Rattle.coord_drill.specs.declared.asked.Asked.TheVariants.{Submit, Refuse, Nothing, Resend, Check, Show, Hold, Flush, Crash, Version2}
use Rattle.coord_drill.specs.declared.request.Request.{Request}

-- ---- flights: begin_flush, commit, end_flush; then for each settled step collect, and its releases

-- the output for a flight of the next steps: the lines of the settled steps, or the reason why the flight
-- was not committed
abbrev pub flight_lines : Log → List Answer → List ℕ
flight_lines log (Begun b ∷ Committed ∷ given) = settled_lines (settled_world log).version (outs (settled_world log) (take (next_size log) (pending log)))
flight_lines log (Begun b ∷ Failed fault ∷ given) = commit_line fault
flight_lines log given = []

-- ---- steps: submit; for a repeat also collect

-- the output for a kept reply: the reply if its step is settled, otherwise the line for a pending step
abbrev pub kept_line : ℕ → Reply → List ℕ
kept_line count reply = if nat_le reply.step count then reply_line reply else pending_line reply.step

abbrev pub repeat_line : ℕ → Result Verdict Refusal → List ℕ
repeat_line count (Ok (Repeat reply)) = kept_line count reply
repeat_line count (Ok (Fresh kind)) = []
repeat_line count (Err refusal) = []

abbrev pub step_lines : DrillState → Step → List Answer → List ℕ
step_lines s x (Accepted n ∷ given) = if s.holds then pending_line n else flight_lines (with_step s.log x) given
step_lines s x (Repeated n ∷ given) = repeat_line (settled_count s.log) (verdict s.log x)
step_lines s x (Refused refusal ∷ given) = refusal_line refusal
step_lines s x given = []

-- ---- all requests

-- the output of `show`: the lines of the settled world, or the line of a refusal if the ledger has stopped
abbrev pub shown_lines : Log → List ℕ
shown_lines log = if has_stopped log then refusal_line Stopped else view_lines (shown (accepted_count log) (settled_world log))

abbrev pub opened_lines : List Answer → List ℕ
opened_lines (Opened count ∷ given) = opened_line count
opened_lines given = []

unfoldable pub asked_lines : DrillState → Asked → List Answer → List ℕ
asked_lines s (Submit x) given = step_lines s x given
asked_lines s (Refuse refusal) given = refusal_line refusal
asked_lines s Nothing given = idle_line
asked_lines s Resend given = output_lines (settled_world s.log).version (again (settled_world s.log))
asked_lines s Check given = fault_line (first (faults (front_world s.log)))
asked_lines s Show given = shown_lines s.log
asked_lines s Hold given = []
asked_lines s Flush given = flight_lines s.log given ++ count_line (settled_world (after_asked s Flush given).log).count
asked_lines s Crash given = opened_lines given
asked_lines s Version2 given = []

-- ---- possible answers

-- If the events of the request get these answers, the request may print this text and leave the drill in the
-- state `t`: the event machine allows the answers, and memory did not run out.
pub record IsAnswered (s : DrillState) (a : Asked) (given : List Answer) (reported : List ℕ) (t : DrillState) : Type 0 where
  pub answered : Answered (machine_of s) (line_events s.holds a given) given
  pub with_memory : AllByRecursion (λ answer. answer ≢ Refused OutOfMemory) given
  pub printed : reported ≡ asked_lines s a given
  pub goes_on : t ≡ after_asked s a given

-- If the events of the line with this number get these answers, the line may print this text and leave the
-- drill in this state. A bad line makes no request.
abbrev pub Responds : DrillState → ℕ → Option Request → List Answer → List ℕ → DrillState → Type 0
Responds s n None given reported t = (given ≡ []) × (reported ≡ bad_line n) × (t ≡ s)
Responds s n (Some r) given reported t = IsAnswered s (asked (front_world s.log) r) given reported t
