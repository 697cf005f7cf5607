use Rattle.std.proofs.Common.{refl}
use Rattle.coord_drill.proofs.does.Reports.{carries_hold}
use Rattle.coord_drill.proofs.drill.Drill.hold.Goals as goal

pub returns-clause-reported : goal.returns-clause-reported
returns-clause-reported g c = carries_hold g.D.Disk.model g.D.CrashDisk.crashes c.args.self _ c.lemma_survives.ensures refl refl refl
