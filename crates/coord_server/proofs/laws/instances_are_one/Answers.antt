use Rattle.coord_server.proofs.OneHistory.{instances_are_one}
use Rattle.coord_server.proofs.laws.instances_are_one.Goals as goal

pub returns : goal.returns
returns g c = λ most. instances_are_one g.D.Disk.model g.C.Callers.talked g.C.Callers.failed most
