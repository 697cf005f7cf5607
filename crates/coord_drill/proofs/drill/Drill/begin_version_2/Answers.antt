use Rattle.std.proofs.Common.{refl}
use Rattle.coord_drill.proofs.course.Standing.{carries_raised}
use Rattle.coord_drill.proofs.drill.Drill.begin_version_2.Goals as goal

pub returns-in-Ok-clause-reported : goal.returns-in-Ok-clause-reported
returns-in-Ok-clause-reported g c promised = carries_raised g.D.Disk.model g.D.CrashDisk.crashes c.args.self _ (promised.1 refl) c.in-Ok.ensures.raised refl refl
