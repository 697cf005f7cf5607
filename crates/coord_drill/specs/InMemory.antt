-- A drill over a disk in memory.
use Rattle.std.specs.Prelude.{◌≡◌, ℕ, List, [], Option}
use Rattle.coord_disk.specs.Disks.Memory.{CrashesByChoice, choice_of, failures_of, in_memory, present_of}
use Rattle.coord_disk.specs.Model.Present.{whole}
use Rattle.coord_disk.specs.declared.choice.Choice.TheVariants.{Kept}
use Rattle.coord_disk.specs.declared.memory.MemDisk.{MemDisk}
use Rattle.coord_drill.specs.Course.{DrillFails, Drills}
use Rattle.coord_drill.specs.declared.fault.Fault.{Fault}

-- The disk is empty, no call on it has failed, and a crash keeps the bytes that a read returns.
pub record IsBlank (disk : MemDisk) : Type 0 where
  pub present : present_of disk ≡ whole []
  pub failures : failures_of disk ≡ 0
  pub choice : choice_of disk ≡ Kept

-- A drill over an empty disk in memory carried out its whole input.
abbrev pub DrillsInMemory : Option (List ℕ) → Option (List ℕ) → Option (List ℕ) → Option (List ℕ) → Type 0
DrillsInMemory unread rest written now = (given last : MemDisk) × IsBlank given × Drills in_memory CrashesByChoice given (record { unread = unread; written = written }) (record { unread = rest; written = now }) last

-- A drill over an empty disk in memory failed.
abbrev pub FailsInMemory : Option (List ℕ) → Option (List ℕ) → Option (List ℕ) → Option (List ℕ) → Fault → Type 0
FailsInMemory unread rest written now fault = (given lost : MemDisk) × IsBlank given × DrillFails in_memory CrashesByChoice given (record { unread = unread; written = written }) (record { unread = rest; written = now }) (fault, lost)
