use Rattle.std.specs.Prelude.{ℕ, List, codes}
use Rattle.coord_journal.specs.declared.fault.JournalFault.{JournalFault}
use Rattle.coord_journal.specs.declared.fault.JournalFault.TheVariants.{OutOfMemory, Device, NotEmpty, HalfSize, NoMagic, BadRecord, JournalFull, Stopped}

abbrev pub number_of : JournalFault → ℕ
number_of OutOfMemory = 1
number_of Device = 2
number_of NotEmpty = 3
number_of HalfSize = 4
number_of NoMagic = 5
number_of BadRecord = 6
number_of JournalFull = 7
number_of Stopped = 8

abbrev pub name_of : JournalFault → List ℕ
name_of OutOfMemory = codes "OutOfMemory"
name_of Device = codes "Device"
name_of NotEmpty = codes "NotEmpty"
name_of HalfSize = codes "HalfSize"
name_of NoMagic = codes "NoMagic"
name_of BadRecord = codes "BadRecord"
name_of JournalFull = codes "JournalFull"
name_of Stopped = codes "Stopped"
