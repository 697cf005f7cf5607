use Rattle.coord_server.proofs.SignalsBetween.{printed_with_drops}
use Rattle.coord_server.proofs.laws.printed_with_drops.Goals as goal

pub returns : goal.returns
returns g c = printed_with_drops g.D.Disk.model g.C.Callers.talked g.C.Callers.failed g.W.Write.contents
