-- The numbers and the names of faults.
use Rattle.std.specs.Prelude.{ℕ, List, codes, Result, Ok, Err}
use Rattle.coord_journal.specs.declared.fault.JournalFault.{JournalFault}
use Rattle.coord_journal.specs.declared.fault.JournalFault.TheVariants as journal
use Rattle.coord_store.specs.declared.faults.CommitFault.{CommitFault}
use Rattle.coord_store.specs.declared.faults.CommitFault.TheVariants as commit
use Rattle.coord_store.specs.declared.faults.StoreFault.{StoreFault}
use Rattle.coord_store.specs.declared.faults.StoreFault.TheVariants as store

abbrev pub store_number : StoreFault → ℕ
store_number store.OutOfMemory = 1
store_number store.Device = 2
store_number store.NotEmpty = 3
store_number store.HalfSize = 4
store_number store.NoMagic = 5
store_number store.BadRecord = 6
store_number store.BadSnapshot = 7
store_number store.BadBatch = 8
store_number (store.BadStep batch index) = 9
store_number (store.Violated violation) = 10
store_number (store.NotQuiet node) = 11
store_number store.Stopped = 12

abbrev pub store_name : StoreFault → List ℕ
store_name store.OutOfMemory = codes "OutOfMemory"
store_name store.Device = codes "Device"
store_name store.NotEmpty = codes "NotEmpty"
store_name store.HalfSize = codes "HalfSize"
store_name store.NoMagic = codes "NoMagic"
store_name store.BadRecord = codes "BadRecord"
store_name store.BadSnapshot = codes "BadSnapshot"
store_name store.BadBatch = codes "BadBatch"
store_name (store.BadStep batch index) = codes "BadStep"
store_name (store.Violated violation) = codes "Violated"
store_name (store.NotQuiet node) = codes "NotQuiet"
store_name store.Stopped = codes "Stopped"

abbrev pub commit_number : CommitFault → ℕ
commit_number commit.OutOfMemory = 1
commit_number commit.Device = 2
commit_number commit.Full = 3
commit_number commit.Stopped = 4
commit_number commit.Again = 5

abbrev pub commit_name : CommitFault → List ℕ
commit_name commit.OutOfMemory = codes "OutOfMemory"
commit_name commit.Device = codes "Device"
commit_name commit.Full = codes "Full"
commit_name commit.Stopped = codes "Stopped"
commit_name commit.Again = codes "Again"

-- the commit's fault for a journal's fault in an append or a replace
abbrev pub commit_fault_of : JournalFault → CommitFault
commit_fault_of journal.OutOfMemory = commit.OutOfMemory
commit_fault_of journal.Device = commit.Device
commit_fault_of fault = commit.Stopped

-- the number of device failures in a commit that returns this fault
abbrev pub failed_in : CommitFault → ℕ
failed_in commit.Device = 1
failed_in fault = 0

-- the number of device failures in a commit with this result
abbrev pub failures_in : {T : Type 0} → Result T CommitFault → ℕ
failures_in (Ok value) = 0
failures_in (Err fault) = failed_in fault

-- the store's fault for a journal's fault in formatting or opening
abbrev pub store_fault_of : JournalFault → StoreFault
store_fault_of journal.OutOfMemory = store.OutOfMemory
store_fault_of journal.Device = store.Device
store_fault_of journal.NotEmpty = store.NotEmpty
store_fault_of journal.HalfSize = store.HalfSize
store_fault_of journal.NoMagic = store.NoMagic
store_fault_of fault = store.BadRecord
