-- A driver as contracts see it: a ledger, and its flight if one is out.
use Rattle.std.specs.Prelude.{◌≡◌, Bool, List, Option, Some, None, Result, Ok, Err}
use Rattle.std.specs.Option.{option_map}
use Rattle.coord_disk.specs.Model.DiskModel.{DiskModel}
use Rattle.coord_types.specs.declared.refusals.Refusal.{Refusal}
use Rattle.coord_world.specs.protocol.NumberedWorld.{World}
use Rattle.coord_ledger.specs.declared.events.Answer.{Answer}
use Rattle.coord_ledger.specs.declared.events.Answer.TheVariants as answer
use Rattle.coord_ledger.specs.declared.handed.Handed.{Handed}
use Rattle.coord_ledger.specs.declared.handed.Handed.TheVariants as handed
use Rattle.coord_ledger.specs.declared.release.Release.{Release}
use Rattle.coord_ledger.specs.ledger.State.{FlightState, LedgerState, ledger_over}
use Rattle.coord_ledger.specs.machine.Log.{settled_count}

pub record DriverState (D : Type 0) : Type 0 where
  pub ledger : LedgerState D
  pub flight : Option (FlightState D)

-- the driver of a ledger that has no flight out
abbrev pub at_home : {D : Type 0} → LedgerState D → DriverState D
at_home l = record { ledger = l; flight = None }

abbrev pub disk_with : {D : Type 0} → Option D → Option (FlightState D) → Option D
disk_with disk None = disk
disk_with disk (Some f) = Some f.disk

abbrev pub disk_held : {D : Type 0} → DriverState D → Option D
disk_held d = disk_with d.ledger.disk d.flight

-- whether the driver's disk keeps the disk model; None if the driver holds no disk
abbrev pub model_held : {D : Type 0} → DiskModel D → DriverState D → Option Bool
model_held model d = option_map model.keeps_model (disk_held d)

-- The driver was just created, over the ledger's base world.
pub record IsAnew {D : Type 0} (d : DriverState D) : Type 0 where
  pub world : World
  pub disk : D
  pub is : d ≡ at_home (ledger_over world disk)

-- ---- the machine's answer for each call of the driver

-- the answer to a submitted step
abbrev pub answer_to : Result Handed Refusal → Answer
answer_to (Ok (handed.Accepted claim)) = answer.Accepted claim.step
answer_to (Ok (handed.Repeated claim)) = answer.Repeated claim.step
answer_to (Err refusal) = answer.Refused refusal

-- the answer to the call that takes a flight back, from the result of the call
abbrev pub finish_answer : {D : Type 0} → Result (Option (List Release)) Refusal → DriverState D → Answer
finish_answer (Ok None) d = answer.NoFlight
finish_answer (Ok (Some releases)) d = answer.Finished (settled_count d.ledger.log)
finish_answer (Err refusal) d = answer.Refused refusal
