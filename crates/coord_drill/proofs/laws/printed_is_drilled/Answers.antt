use Rattle.coord_drill.proofs.prints.Prints.{broke_prints, ended_prints}
use Rattle.coord_drill.proofs.laws.printed_is_drilled.Goals as goal

pub returns-clause-ended : goal.returns-clause-ended
returns-clause-ended g c given last input written ended = ended_prints g.D.Disk.model g.D.CrashDisk.crashes given input written last ended

pub returns-clause-broke : goal.returns-clause-broke
returns-clause-broke g c given input written refused broke = broke_prints g.D.Disk.model g.D.CrashDisk.crashes given input written refused broke
