-- The condition for each fault of a journal's calls, apart from faults of the device.
use Rattle.std.specs.Prelude.{◌≡◌, ◌⊎◌, ℕ, ◌<◌, List, length, Result, Ok, Err}
use Rattle.coord_journal.specs.Text.{Content, HasHeader, IsHalfSize, IsText}
use Rattle.coord_journal.specs.declared.fault.JournalFault.{JournalFault}
use Rattle.coord_journal.specs.declared.fault.JournalFault.TheVariants.{OutOfMemory, Device, NotEmpty, HalfSize, NoMagic, BadRecord, Stopped}

-- the condition for this fault when a device with these bytes is formatted with halves of this size
abbrev pub RefusesFormat : List ℕ → ℕ → JournalFault → Type 0
RefusesFormat bytes half_size OutOfMemory = (length bytes ≡ 0) × IsHalfSize half_size
RefusesFormat bytes half_size Device = Unit {0}
RefusesFormat bytes half_size NotEmpty = 0 < length bytes
RefusesFormat bytes half_size HalfSize = (length bytes ≡ 0) × ¬ IsHalfSize half_size
RefusesFormat bytes half_size fault = ⊥

abbrev pub BeginsWithHeader : List ℕ → Type 0
BeginsWithHeader bytes = (selector half_size : ℕ) × (rest : List ℕ) × HasHeader bytes selector half_size rest

-- the condition for this fault when a device with these bytes is opened
abbrev pub RefusesOpen : List ℕ → JournalFault → Type 0
RefusesOpen bytes OutOfMemory = Unit {0}
RefusesOpen bytes Device = Unit {0}
RefusesOpen bytes NoMagic = ¬ BeginsWithHeader bytes
RefusesOpen bytes BadRecord = BeginsWithHeader bytes × ((content : Content) → IsText content bytes → ⊥)
RefusesOpen bytes fault = ⊥

-- the faults that reading can return for bytes that begin with a header
abbrev pub IsReadFault : JournalFault → Type 0
IsReadFault fault = (fault ≡ OutOfMemory) ⊎ (fault ≡ BadRecord)

-- the faults that formatting can return
abbrev pub IsFormatFault : JournalFault → Type 0
IsFormatFault fault = (fault ≡ NotEmpty) ⊎ ((fault ≡ HalfSize) ⊎ ((fault ≡ OutOfMemory) ⊎ (fault ≡ Device)))

-- the faults that opening can return
abbrev pub IsOpenFault : JournalFault → Type 0
IsOpenFault fault = (fault ≡ OutOfMemory) ⊎ ((fault ≡ Device) ⊎ ((fault ≡ NoMagic) ⊎ (fault ≡ BadRecord)))

-- the faults that an append or a replace can return
abbrev pub IsWriteFault : JournalFault → Type 0
IsWriteFault fault = (fault ≡ Stopped) ⊎ ((fault ≡ OutOfMemory) ⊎ (fault ≡ Device))

-- the number of device failures in a call that returns this fault
abbrev pub failed_in : JournalFault → ℕ
failed_in Device = 1
failed_in _ = 0

-- the number of device failures in a call with this result
abbrev pub failures_in : {T : Type 0} → Result T JournalFault → ℕ
failures_in (Ok value) = 0
failures_in (Err fault) = failed_in fault
