-- The laws of the drill: about its grammar, its possible outputs, and the durability of its output.
use Rattle.std.specs.Prelude.{◌≡◌, ℕ, ◌≤◌, List, Some}
use Rattle.std.specs.List.{AllByRecursion}
use Rattle.coord_ledger.specs.declared.events.Answer.{Answer}
use Rattle.coord_ledger.specs.declared.events.Event.{Event}
use Rattle.coord_ledger.specs.Facade.{Answered, EventInRange, IsConsistent, Machine, Survives, run, world_after}
use Rattle.coord_disk.specs.Model.DiskModel.{DiskModel}
use Rattle.coord_lines.specs.Written.{IsFirstPart}
use Rattle.coord_drill.specs.Course.{BrokeOff, DrillEnded, IsSettled}
use Rattle.coord_drill.specs.Drilled.{IsDrilled}
use Rattle.coord_drill.specs.declared.fault.Fault.{Fault}
use Rattle.coord_drill.specs.declared.request.Request.{Request}
use Rattle.coord_drill.specs.Grammar.{request_of, spelled}

-- A request that was written as a line is read from that line again, in a drill of either version.
abbrev pub SpelledIsRead : Type 0
SpelledIsRead = (version : ℕ) (request : Request) (line : List ℕ) → spelled version request ≡ Some line → request_of version line ≡ Some request

-- If a drill has carried out its whole input, its output is an output that a drill may print for that
-- input.
abbrev pub EndedIsDrilled : {D : Type 0} → DiskModel D → (D → D → Type 0) → Type 0
EndedIsDrilled {D} disk crashes = (given last : D) (input written : List ℕ) → DrillEnded disk crashes given input written last → IsDrilled input written

-- If a drill broke off, its output is a prefix of an output that a drill may print for its input.
abbrev pub BrokenIsDrilled : {D : Type 0} → DiskModel D → (D → D → Type 0) → Type 0
BrokenIsDrilled {D} disk crashes =
    (given : D) (input written : List ℕ) (refused : Fault × D) → BrokeOff disk crashes given input written refused → (text : List ℕ) × IsDrilled input text × IsFirstPart written text

-- If all steps with visible output are settled, they are in whatever survives a crash at any later moment
-- of a run.
abbrev pub PrintedSurvives : Type 0
PrintedSurvives =
    (s : Machine) (events : List Event) (given : List Answer) (reported bytes : List ℕ) → IsConsistent s → AllByRecursion EventInRange events → Answered s events given → IsSettled s reported →
    (survives : Survives (run s events given) bytes) → AllByRecursion (λ n. n ≤ (world_after (run s events given).log survives.steps).count) reported
