-- The effect of a run of the program, by its arguments.
use Rattle.std.specs.Prelude.{◌≡◌, ◌⊎◌, ℕ, true, List, Option, Some, None}
use Rattle.std.specs.Io.KnownBytes.{IsAtEnd, Keeps}
use Rattle.clap.specs.Words.{Text, takes}
use Rattle.coord_disk.specs.Model.DiskModel.{DiskModel}
use Rattle.coord_disk.specs.Model.Present.{Present}
use Rattle.coord_lines.specs.Written.{WritesFirstPart}
use Rattle.coord_drill.specs.InMemory.{DrillsInMemory, FailsInMemory}
use Rattle.coord_drill.specs.declared.fault.Fault.{Fault as DrillFault}
use Rattle.coord_commands.specs.Ending.{CommandEnds, CommandFails}
use Rattle.coord_commands.specs.Faults.{fault_line, fault_of_drill, fault_status}
use Rattle.coord_commands.specs.Folders.{reads}
use Rattle.coord_commands.specs.Inspection.{Checks, ShowsStore}
use Rattle.coord_commands.specs.Making.{IsCreatedLine, IsOfMaking}
use Rattle.coord_commands.specs.Migrating.{EndsMigrating, IsMigratedLine, IsOfMigrating}
use Rattle.coord_commands.specs.Serving.{IsOfServing, ServesAt}
use Rattle.coord_commands.specs.Streams.{Streams}
use Rattle.coord_commands.specs.Arguments.{AskedCommand, check, drill, init, migrate, resetd, serve, show, task_of}
use Rattle.coord_commands.specs.declared.fault.Fault.{Fault}
use Rattle.coord_commands.specs.declared.fault.Fault.TheVariants.{Usage, OutOfMemory}

-- the environment in which the program runs: its streams and, by file name, the content of each store and the text
-- of each topology file
pub record Around : Type 0 where
  pub streams : Streams
  pub holds : List ℕ → Option Present
  pub says : List ℕ → Option (List ℕ)

-- A drill over a disk in memory has carried out its whole input.
pub record HasDrilled (status : ℕ) (old new : Streams) : Type 0 where
  pub number : status ≡ 0
  pub drilled : DrillsInMemory old.input new.input old.output new.output
  pub end : IsAtEnd new.input
  pub silent : Keeps old.errors new.errors

-- A drill over a disk in memory has failed with this fault, after the input that was read and the output that
-- was written.
pub record FailsToDrill (status : ℕ) (old new : Streams) : Type 0 where
  pub fault : DrillFault
  pub number : status ≡ fault_status (fault_of_drill fault)
  pub answered : WritesFirstPart old.errors new.errors (fault_line (fault_of_drill fault))
  pub broke : FailsInMemory old.input new.input old.output new.output fault

-- the effect of the drill
abbrev pub RunsDrill : ℕ → Streams → Streams → Type 0
RunsDrill status old new = HasDrilled status old new ⊎ FailsToDrill status old new

-- the environment of a run over files, whose contents are unknown
abbrev pub files_around : Streams → Around
files_around streams = record { streams = streams; holds = λ _. None; says = λ _. None }

-- the effect of carrying out this request
abbrev pub Does : AskedCommand → ℕ → Around → Around → Type 0
Does drill status old new = RunsDrill status old.streams new.streams
Does (init file topology) status old new =
    CommandEnds (IsOfMaking (old.says topology) (reads (old.holds file)) (reads (new.holds file))) (IsCreatedLine (old.says topology) (reads (old.holds file)) (reads (new.holds file))) status old.streams new.streams
Does (check file) status old new = Checks (reads (old.holds file)) status old.streams new.streams
Does (show file) status old new = ShowsStore (reads (old.holds file)) status old.streams new.streams
Does (migrate file) status old new = CommandEnds (IsOfMigrating (old.holds file) (new.holds file)) (IsMigratedLine (old.holds file) (new.holds file)) status old.streams new.streams
Does (serve file address) status old new = ServesAt (IsOfServing (reads (old.holds file))) address (reads (old.holds file)) (reads (new.holds file)) status old.streams.errors new.streams.errors

-- The arguments are refused, or memory to read them runs out.
abbrev pub IsOfArguments : List Text → Fault → Type 0
IsOfArguments arguments OutOfMemory = Unit {0}
IsOfArguments arguments Usage = takes resetd arguments ≡ true → task_of arguments ≡ None
IsOfArguments arguments fault = ⊥

-- The arguments are refused: only the fault's line is printed, nothing is read, and each disk is unchanged.
pub record RefusesArguments (arguments : List Text) (status : ℕ) (old new : Around) : Type 0 where
  pub fails : CommandFails (IsOfArguments arguments) (λ _. ⊥) status old.streams new.streams
  pub unread : Keeps old.streams.input new.streams.input
  pub untouched : (name : List ℕ) → new.holds name ≡ old.holds name

-- The arguments could not be read: only the line of this fault is printed, and nothing is read.
pub record LacksArguments (fault : Fault) (status : ℕ) (old new : Around) : Type 0 where
  pub fails : CommandFails (λ answered. answered ≡ fault) (λ _. ⊥) status old.streams new.streams
  pub unread : Keeps old.streams.input new.streams.input

-- The arguments are refused, or the named disk is migrated as requested. `EndsMigrating` states what a crash at
-- any moment may leave on that disk.
abbrev pub RunsMigrate : {D : Type 0} → DiskModel D → List Text → List ℕ → ℕ → Around → Around → Type 0
RunsMigrate model arguments file status old new = RefusesArguments arguments status old new ⊎ EndsMigrating model (old.holds file) (new.holds file) status old.streams new.streams

-- The arguments are refused, or the request that they make is carried out.
abbrev pub RunsArguments : List Text → ℕ → Around → Around → Type 0
RunsArguments arguments status old new = RefusesArguments arguments status old new ⊎ ((asked : AskedCommand) × (task_of arguments ≡ Some asked) × Does asked status old new)
