-- The possible faults of a drill, and how it reports faults of the store.
use Rattle.std.specs.Prelude.{◌≡◌, ◌≢◌, ◌⊎◌, ℕ, Bool, true, false, Result, Ok, IsErr, MatchResult}
use Rattle.coord_store.specs.Refused.{failed_in}
use Rattle.coord_store.specs.declared.faults.StoreFault.{StoreFault}
use Rattle.coord_store.specs.declared.faults.StoreFault.TheVariants as store
use Rattle.coord_ledger.specs.declared.trace.RunFaultKind.{RunFaultKind}
use Rattle.coord_ledger.specs.declared.trace.RunFaultKind.TheVariants as of_run
use Rattle.coord_drill.specs.declared.asked.Asked.{Asked}
use Rattle.coord_drill.specs.declared.asked.Asked.TheVariants.{Crash, Version2}
use Rattle.coord_drill.specs.declared.fault.Fault.{Fault}
use Rattle.coord_drill.specs.declared.fault.Fault.TheVariants.{OutOfMemory, Read, Store, TooManyReads, Write}

-- The fault is out of memory.
abbrev pub IsOfMemory : Fault → Type 0
IsOfMemory fault = fault ≡ OutOfMemory

-- The fault is out of memory, or a fault of the store on the drill's disk.
abbrev pub IsOfDisk : Fault → Type 0
IsOfDisk fault = IsOfMemory fault ⊎ ((why : StoreFault) × (fault ≡ Store why))

-- The fault is out of memory, or a fault of the writer.
abbrev pub IsOfWriting : Fault → Type 0
IsOfWriting fault = IsOfMemory fault ⊎ (fault ≡ Write)

-- The fault is not a fault of the reader.
abbrev pub IsOfWork : Fault → Type 0
IsOfWork fault = (fault ≢ Read) × (fault ≢ TooManyReads)

-- whether a request may migrate a store, or open one again
abbrev pub opens_disk : Asked → Bool
opens_disk Crash = true
opens_disk Version2 = true
opens_disk asked = false

-- This fault may end a request: out of memory, or a fault of the store if the request migrates a store or
-- opens one again.
abbrev pub MayEndBy : Bool → Fault → Type 0
MayEndBy true fault = IsOfDisk fault
MayEndBy false fault = IsOfMemory fault

abbrev pub MayEnd : Asked → Fault → Type 0
MayEnd a fault = MayEndBy (opens_disk a) fault

-- the fault that a drill reports for a fault of the store
abbrev pub store_fault : StoreFault → Fault
store_fault store.OutOfMemory = OutOfMemory
store_fault why = Store why

-- the fault that a drill reports if the disk could not be opened after a crash
abbrev pub reopen_fault : RunFaultKind → Fault
reopen_fault of_run.OutOfMemory = OutOfMemory
reopen_fault (of_run.Store fault) = store_fault fault

-- the number of device failures that this fault implies
abbrev pub failed_by : Fault → ℕ
failed_by (Store why) = failed_in why
failed_by fault = 0

-- The fault is out of memory, or a failure of the device.
abbrev pub IsPassingFault : Fault → Type 0
IsPassingFault fault = IsOfMemory fault ⊎ (fault ≡ Store store.Device)

-- On a disk that keeps the model, this fault may cut a line short: out of memory, or a failure of the device
-- if the line migrates a store or opens one again.
abbrev pub MayCutShort : Bool → Fault → Type 0
MayCutShort true why = IsPassingFault why
MayCutShort false why = IsOfMemory why

-- `reported` is a possible report about a write with this answer. A reported count is the number of bytes
-- written, which is 0 after an error. A fault is reported only after an error or an answer of 0 bytes.
abbrev pub ReportsOfWrite : {E : Type 0} → Result ℕ E → Result ℕ Fault → Type 0
ReportsOfWrite answer reported = MatchResult reported (λ count. (answer ≡ Ok count) ⊎ (IsErr answer × (count ≡ 0))) (λ _. (answer ≡ Ok 0) ⊎ IsErr answer)
