-- The end of a command: its exit status, and what it appends to its output and to standard error.
use Rattle.std.specs.Prelude.{◌≡◌, ◌⊎◌, ℕ, List, Option}
use Rattle.std.specs.Io.KnownBytes.{Appends, Keeps}
use Rattle.coord_lines.specs.Written.{WritesFirstPart}
use Rattle.coord_commands.specs.Faults.{fault_line, fault_status}
use Rattle.coord_commands.specs.Streams.{Streams}
use Rattle.coord_commands.specs.declared.fault.Fault.{Fault}
use Rattle.coord_commands.specs.declared.fault.Fault.TheVariants.{Write, OutOfMemory}

-- A text that satisfies P is printed, and nothing else.
abbrev pub PrintsOne : (List ℕ → Type 0) → Option (List ℕ) → Option (List ℕ) → Type 0
PrintsOne P old new = (text : List ℕ) × P text × Appends old new text

-- the possible faults of a failed write
abbrev pub IsOfWriting : Fault → Type 0
IsOfWriting Write = Unit {0}
IsOfWriting OutOfMemory = Unit {0}
IsOfWriting fault = ⊥

-- The output is unchanged, or a write failed after a prefix of a text that satisfies P.
abbrev pub OutputCutShort : (List ℕ → Type 0) → Option (List ℕ) → Option (List ℕ) → Fault → Type 0
OutputCutShort P old new fault = Keeps old new ⊎ (IsOfWriting fault × ((text : List ℕ) × P text × WritesFirstPart old new text))

-- A command succeeds: it prints a text that satisfies P, and nothing on standard error.
pub record Succeeds (P : List ℕ → Type 0) (status : ℕ) (old new : Streams) : Type 0 where
  pub number : status ≡ 0
  pub printed : PrintsOne P old.output new.output
  pub silent : Keeps old.errors new.errors

-- A command ends with a fault that satisfies Q. The fault's line, or a prefix of it, is printed on standard
-- error.
pub record CommandFails (Q : Fault → Type 0) (P : List ℕ → Type 0) (status : ℕ) (old new : Streams) : Type 0 where
  pub fault : Fault
  pub possible : Q fault
  pub number : status ≡ fault_status fault
  pub answered : WritesFirstPart old.errors new.errors (fault_line fault)
  pub cut : OutputCutShort P old.output new.output fault

-- A command succeeds with a text that satisfies P, or fails with a fault that satisfies Q.
abbrev pub CommandEnds : (Fault → Type 0) → (List ℕ → Type 0) → ℕ → Streams → Streams → Type 0
CommandEnds Q P status old new = Succeeds P status old new ⊎ CommandFails Q P status old new
