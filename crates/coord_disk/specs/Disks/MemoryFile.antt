-- A file in memory.
use Rattle.std.specs.Prelude.{Bool}
use Rattle.coord_disk.specs.Disks.Failing.{one_more}
use Rattle.coord_disk.specs.declared.memory.MemDisk.{MemDisk}
use Rattle.coord_disk.specs.declared.memory_file.MemFile.{MemFile}
use Rattle.coord_disk.specs.declared.memory_file.Syncs.{Syncs}
use Rattle.coord_disk.specs.Model.RawCalls.{RawCall}
use Rattle.coord_disk.specs.Model.RawCalls.RawCall.{SyncData, SyncAll, SyncFolder}

-- the disk that holds the bytes of a file in memory
abbrev pub disk_of : MemFile → MemDisk
disk_of file = file.disk

-- whether the file's entry in its folder is synced
abbrev pub has_entry : MemFile → Bool
has_entry file = file.entered

-- the number of syncs of each kind so far
abbrev pub syncs_of : MemFile → Syncs
syncs_of file = file.syncs

-- the counts after this call: a sync adds one to the count of its kind
abbrev pub counted : RawCall → Syncs → Syncs
counted SyncData syncs = record syncs { bytes = one_more syncs.bytes }
counted SyncAll syncs = record syncs { all = one_more syncs.all }
counted SyncFolder syncs = record syncs { folder = one_more syncs.folder }
counted _ syncs = syncs
