-- The result of decoding all bytes: the value, or the first fault from the left, with the place of the fault.
use Rattle.std.specs.Prelude.{◌≡◌, ℕ, Bool, ◌-◌, ◌==◌, ◌||◌, List, length, Result, Ok, Err, if◌then◌else◌}
use Rattle.coord_batch.specs.declared.fault.CodecFault.{CodecFault}
use Rattle.coord_batch.specs.declared.fault.FaultKind.{FaultKind}
use Rattle.coord_batch.specs.declared.fault.FaultKind.TheVariants as kind
use Rattle.coord_batch.specs.declared.fault.Flaw.{Flaw}
use Rattle.coord_batch.specs.declared.fault.Flaw.TheVariants as flaw
use Rattle.coord_batch.specs.declared.fault.ReadError.{ReadError}
use Rattle.coord_batch.specs.declared.fault.ReadError.TheVariants as errors
use Rattle.coord_batch.specs.Format.{Format, whole}

abbrev pub fault_at : FaultKind → ℕ → CodecFault
fault_at k n = record { kind = k; at = n }

-- the fault for a flaw in n bytes: a flaw names the number of bytes that remain at its place, a fault names
-- the number of bytes before its place
abbrev pub placed : ℕ → Flaw → CodecFault
placed n flaw.Short = fault_at kind.Short n
placed n (flaw.BadByte left) = fault_at kind.BadByte (n - left)
placed n (flaw.Extra left) = fault_at kind.Extra (n - left)

-- the fault that a reader's error becomes, if there are n bytes in all
abbrev pub Places : ReadError → ℕ → CodecFault → Type 0
Places errors.Memory n fault = fault.kind ≡ kind.OutOfMemory
Places (errors.Flaw f) n fault = fault ≡ placed n f

abbrev pub or_fault : {A : Type 0} → ℕ → Result A Flaw → Result A CodecFault
or_fault n (Ok x) = Ok x
or_fault n (Err f) = Err (placed n f)

abbrev pub bad_version : CodecFault
bad_version = fault_at kind.BadVersion 0

-- whether this is a version of the grammar: 1 or 2
abbrev pub is_version : ℕ → Bool
is_version version = (version == 1) || (version == 2)

abbrev pub decoded : {A : Type 0} → (ℕ → Format A) → ℕ → List ℕ → Result A CodecFault
decoded f version bytes = if is_version version then or_fault (length bytes) (whole (f version) bytes) else Err bad_version

-- the statement P, unless the fault is out of memory
abbrev pub Unless : FaultKind → Type 0 → Type 0
Unless kind.OutOfMemory P = Unit {0}
Unless k P = P

-- Unless memory ran out, the program's result, seen through `view`, equals `read`.
abbrev pub AnswersDecoded : {X Y : Type 0} → (X → Y) → Result X CodecFault → Result Y CodecFault → Type 0
AnswersDecoded view (Ok x) read = read ≡ Ok (view x)
AnswersDecoded view (Err e) read = Unless e.kind (read ≡ Err e)
