use Rattle.coord_server.proofs.SignalsBetween.{printed_between}
use Rattle.coord_server.proofs.laws.printed_between.Goals as goal

pub returns : goal.returns
returns g c = printed_between g.D.Disk.model g.C.Callers.talked g.C.Callers.failed g.W.Write.contents
