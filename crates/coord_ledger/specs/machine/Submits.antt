-- The answer of a ledger to a submitted step. The ledger first checks, in this order: the ledger has stopped;
-- the step is a repeat; too many steps are pending. Then the front world and the settled world judge the step.
use Rattle.std.specs.Prelude.{nat_le, Bool, length, Result, Ok, Err, if◌then◌else◌}
use Rattle.coord_types.specs.declared.limits.TheConstants.{MAX_PENDING}
use Rattle.coord_types.specs.declared.refusals.Refusal.{Refusal}
use Rattle.coord_types.specs.declared.refusals.Refusal.TheVariants.{Stopped, PendingFull}
use Rattle.coord_types.specs.declared.steps.Step.{Step}
use Rattle.coord_world.specs.declared.verdicts.Verdict.{Verdict}
use Rattle.coord_world.specs.declared.verdicts.Verdict.TheVariants.{Fresh, Repeat}
use Rattle.coord_world.specs.protocol.Acceptance.{accepts}
use Rattle.coord_ledger.specs.machine.Log.{Log, front_world, has_stopped, pending, settled_world}

-- whether the log is full: no more steps may become pending
abbrev pub is_full : Log → Bool
is_full log = nat_le MAX_PENDING (length (pending log))

-- a full log refuses every step; a repeat is not a step, so it is answered
abbrev pub unless_full : Bool → Result Verdict Refusal → Result Verdict Refusal
unless_full full (Ok (Repeat reply)) = Ok (Repeat reply)
unless_full full (Ok (Fresh kind)) = if full then Err PendingFull else Ok (Fresh kind)
unless_full full (Err refusal) = if full then Err PendingFull else Err refusal

abbrev pub verdict : Log → Step → Result Verdict Refusal
verdict log s = if has_stopped log then Err Stopped else unless_full (is_full log) (accepts (front_world log) (settled_world log) s)
