-- A disk over a raw file.
use Rattle.std.specs.Prelude.{ℕ, length, Bool}
use Rattle.coord_disk.specs.declared.raw.RawFile.{Ghosts}
use Rattle.coord_disk.specs.declared.over.RawDisk.{RawDisk}

abbrev pub file_of : {F : Type 0} {raw : Ghosts F} → RawDisk F raw → F
file_of disk = disk.file

-- the number of calls that failed
abbrev pub failures_of : {F : Type 0} {raw : Ghosts F} → RawDisk F raw → ℕ
failures_of disk = length disk.failed.items

-- whether the length may have changed since the last sync
abbrev pub has_grown : {F : Type 0} {raw : Ghosts F} → RawDisk F raw → Bool
has_grown disk = disk.grown

-- whether a sync has failed; after that, every sync fails
abbrev pub has_lost : {F : Type 0} {raw : Ghosts F} → RawDisk F raw → Bool
has_lost disk = disk.lost
