-- The lines that `check` and `show` print for the store on a disk, and the faults that they may end with.
use Rattle.std.specs.Prelude.{◌≡◌, ◌⊎◌, ℕ, List, Option, IfSome}
use Rattle.coord_check.specs.declared.violation.Violation.{Violation}
use Rattle.coord_store.specs.Facade.{IsOpenFault, Recovered, RefusesOpen}
use Rattle.coord_store.specs.declared.faults.StoreFault.TheVariants.{Device, Violated}
use Rattle.coord_world.specs.Facade.{Legal, World}
use Rattle.coord_commands.specs.Ending.{CommandEnds, CommandFails, PrintsOne, Succeeds}
use Rattle.coord_commands.specs.Printed.{legal_line, shown, violated_line}
use Rattle.coord_commands.specs.Streams.{Streams}
use Rattle.coord_commands.specs.declared.fault.Fault.{Fault}
use Rattle.coord_commands.specs.declared.fault.Fault.TheVariants.{Write, OutOfMemory, Store}
use Rattle.std.specs.Io.KnownBytes.{Keeps}

-- These bytes, if they are known, give a legal world, and this is the line for that world.
pub record IsLegalLine (bytes : Option (List ℕ)) (line : List ℕ) : Type 0 where
  pub world : World
  pub legal : Legal world
  pub given : IfSome bytes (λ known. Recovered known world)
  pub counted : line ≡ legal_line world.count

-- The snapshot in these bytes violates a predicate, and this is the line for that predicate.
pub record IsViolatedLine (bytes : Option (List ℕ)) (line : List ℕ) : Type 0 where
  pub violation : Violation
  pub refused : IfSome bytes (λ known. RefusesOpen known (Violated violation))
  pub named : line ≡ violated_line violation

abbrev pub IsCheckedLine : Option (List ℕ) → List ℕ → Type 0
IsCheckedLine bytes line = IsLegalLine bytes line ⊎ IsViolatedLine bytes line

-- These bytes give a world, and these are its lines.
pub record IsShown (bytes : Option (List ℕ)) (lines : List ℕ) : Type 0 where
  pub world : World
  pub given : IfSome bytes (λ known. Recovered known world)
  pub answered : lines ≡ shown world

-- The fault may end a command that opens a store: output can't be written, memory runs out, or opening a
-- device with these bytes fails with this fault.
abbrev pub IsOfOpening : Option (List ℕ) → Fault → Type 0
IsOfOpening bytes Write = Unit {0}
IsOfOpening bytes OutOfMemory = Unit {0}
IsOfOpening bytes (Store fault) = (fault ≡ Device) ⊎ (IsOpenFault fault × IfSome bytes (λ known. RefusesOpen known fault))
IsOfOpening bytes fault = ⊥

-- The command ends with status 1 and the line of a violation.
pub record IsViolated (bytes : Option (List ℕ)) (status : ℕ) (old new : Streams) : Type 0 where
  pub number : status ≡ 1
  pub printed : PrintsOne (IsViolatedLine bytes) old.output new.output
  pub silent : Keeps old.errors new.errors

-- the effect of `check` on a disk with these bytes
abbrev pub Checks : Option (List ℕ) → ℕ → Streams → Streams → Type 0
Checks bytes status old new = Succeeds (IsLegalLine bytes) status old new ⊎ (IsViolated bytes status old new ⊎ CommandFails (IsOfOpening bytes) (IsCheckedLine bytes) status old new)

-- the effect of `show` on a disk with these bytes
abbrev pub ShowsStore : Option (List ℕ) → ℕ → Streams → Streams → Type 0
ShowsStore bytes status old new = CommandEnds (IsOfOpening bytes) (IsShown bytes) status old new
