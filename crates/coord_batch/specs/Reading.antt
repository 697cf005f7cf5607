-- The results of the program's readers, compared with the results of the formats that they read.
use Rattle.std.specs.Prelude.{◌≡◌, ℕ, List, Result, Ok, Err}
use Rattle.coord_batch.specs.declared.fault.Flaw.{Flaw}
use Rattle.coord_batch.specs.Format.{Read}
use Rattle.coord_batch.specs.declared.fault.ReadError.{ReadError}
use Rattle.coord_batch.specs.declared.fault.ReadError.TheVariants as errors

-- the error is out of memory, or it is the flaw that the format's `read` returns
abbrev pub FailsToRead : {Y : Type 0} → ReadError → Result Y Flaw → Type 0
FailsToRead errors.Memory read = Unit {0}
FailsToRead (errors.Flaw f) read = read ≡ Err f

-- Unless memory ran out, the reader's value, seen through `view`, is the value that the format's `read`
-- returns, and the same bytes remain. An error is the flaw that `read` returns.
abbrev pub ReadsSpelled : {X Y : Type 0} → (X → Y) → Result X ReadError → Read Y → List ℕ → Type 0
ReadsSpelled view (Ok x) read left = read ≡ Ok (view x, left)
ReadsSpelled view (Err e) read left = FailsToRead e read
