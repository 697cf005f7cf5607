-- A disk in memory.
use Rattle.std.specs.Prelude.{◌≡◌, ℕ, length}
use Rattle.coord_disk.specs.Disks.Left.{IsLeft}
use Rattle.coord_disk.specs.Disks.History.{Past, present_after, past_with, recorded}
use Rattle.coord_disk.specs.Model.DiskModel.{DiskModel}
use Rattle.coord_disk.specs.Model.Present.{Present}
use Rattle.coord_disk.specs.declared.choice.Choice.{Choice}
use Rattle.coord_disk.specs.declared.memory.MemDisk.{MemDisk}

-- the bytes at first, or after the last crash, and the writes and syncs since
abbrev pub past_of : MemDisk → Past
past_of disk = past_with disk.read.items disk.history

abbrev pub present_of : MemDisk → Present
present_of disk = present_after (past_of disk)

-- the choice of the bytes that the next crash leaves
abbrev pub choice_of : MemDisk → Choice
choice_of disk = disk.choice

abbrev pub failures_of : MemDisk → ℕ
failures_of disk = length disk.failed.items

-- the model of a disk in memory; every such disk keeps it
abbrev pub in_memory : DiskModel MemDisk
in_memory = recorded past_of failures_of

-- a crash leaves the bytes that were chosen, and the choice does not change
pub record CrashesByChoice (old new : MemDisk) : Type 0 where
  pub left : IsLeft (choice_of old) (present_of old) (present_of new).read
  pub choice : choice_of new ≡ choice_of old
