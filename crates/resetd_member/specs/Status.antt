-- The result of a call, as a number.
use Rattle.std.specs.Prelude.{◌≡◌, ◌<◌, ℕ, List, length, take, Result, Ok, Err, ◌⊎◌, String, string_bytes}
use Rattle.std.specs.declared.alloc.Global.{Global}
use Rattle.std.specs.Borrow.{Bor}
use Rattle.std.specs.Str.{IsUtf8}
use Rattle.coord_member.specs.declared.rule.Due.{Due}
use Rattle.coord_member.specs.declared.rule.Due.TheVariants.{Talk, Wait, Begin, Reset}
use Rattle.resetd_member.specs.declared.status.Fault.{Fault}
use Rattle.resetd_member.specs.declared.status.Fault.TheVariants.{OutOfMemory, NoRoom, BadLine, NoNode, BadStart, BadHistory, BadNumber, InHand, NoText}

abbrev pub status_of : Fault → ℕ
status_of OutOfMemory = 1
status_of NoRoom = 2
status_of BadLine = 3
status_of NoNode = 4
status_of BadStart = 5
status_of BadHistory = 6
status_of BadNumber = 7
status_of InHand = 8
status_of NoText = 9

abbrev pub due_number : Due → ℕ
due_number Talk = 1
due_number Wait = 2
due_number Begin = 3
due_number Reset = 4

-- the text is at the beginning of the buffer; a fault says that the buffer is too small for the text
abbrev pub IsPut : List ℕ → List ℕ → Result Unit Fault → Type 0
IsPut text room (Ok done) = take (length text) room ≡ text
IsPut text room (Err fault) = (fault ≡ NoRoom) × (length room < length text)

-- the text is at the beginning of the buffer, or the status says why it is not
abbrev pub IsGiven : Result (String Global) Fault → List ℕ → ℕ → ℕ → Type 0
IsGiven (Ok text) room size status =
    ((status ≡ 0) × (size ≡ length (string_bytes text)) × (take size room ≡ string_bytes text)) ⊎ ((status ≡ status_of NoRoom) × (length room < length (string_bytes text)))
IsGiven (Err fault) room size status = status ≡ status_of fault

abbrev pub IsTextOf : List ℕ → Result (Bor (List ℕ)) Fault → Type 0
IsTextOf bytes (Ok text) = text.now ≡ bytes
IsTextOf bytes (Err fault) = (fault ≡ NoText) × ¬ (IsUtf8 bytes)
