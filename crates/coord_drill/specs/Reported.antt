-- The steps whose reply, packet or signal a drill prints.
use Rattle.std.specs.Prelude.{ℕ, nat_le, List, [], ◌∷◌, map, take, Result, Ok, Err, if◌then◌else◌}
use Rattle.coord_types.specs.declared.refusals.Refusal.{Refusal}
use Rattle.coord_types.specs.declared.steps.Step.{Step}
use Rattle.coord_world.specs.declared.verdicts.Verdict.{Verdict}
use Rattle.coord_world.specs.declared.verdicts.Verdict.TheVariants.{Fresh, Repeat}
use Rattle.coord_world.specs.protocol.Outputs.{outs}
use Rattle.coord_ledger.specs.declared.events.Answer.{Answer}
use Rattle.coord_ledger.specs.declared.events.Answer.TheVariants.{Accepted, Begun, Committed, Repeated}
use Rattle.coord_ledger.specs.Facade.{Log, next_size, pending, settled_count, settled_world, verdict, with_step}
use Rattle.coord_drill.specs.Drill.{DrillState}
use Rattle.coord_drill.specs.declared.asked.Asked.{Asked}
use Rattle.coord_drill.specs.declared.asked.Asked.TheVariants.{Submit, Flush, Resend}

-- the steps that a flight's lines show: the steps of the flight if it was committed, otherwise none
abbrev pub flight_answered : Log → List Answer → List ℕ
flight_answered log (Begun b ∷ Committed ∷ given) = map (λ o. o.reply.step) (outs (settled_world log) (take (next_size log) (pending log)))
flight_answered log given = []

-- the step that the answer to a repeat shows: the step of the kept reply, if that step is settled
abbrev pub repeat_answered : ℕ → Result Verdict Refusal → List ℕ
repeat_answered count (Ok (Repeat reply)) = if nat_le reply.step count then reply.step ∷ [] else []
repeat_answered count (Ok (Fresh kind)) = []
repeat_answered count (Err refusal) = []

abbrev pub step_answered : DrillState → Step → List Answer → List ℕ
step_answered s x (Accepted n ∷ given) = if s.holds then [] else flight_answered (with_step s.log x) given
step_answered s x (Repeated n ∷ given) = repeat_answered (settled_count s.log) (verdict s.log x)
step_answered s x given = []

-- The steps that the answer to a request shows. Resent packets come from settled steps, and count as output
-- of the last settled step.
unfoldable pub reported_by : DrillState → Asked → List Answer → List ℕ
reported_by s (Submit x) given = step_answered s x given
reported_by s Flush given = flight_answered s.log given
reported_by s Resend given = settled_count s.log ∷ []
reported_by s asked given = []
