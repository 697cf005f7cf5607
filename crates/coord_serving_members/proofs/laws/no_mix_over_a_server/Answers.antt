use Rattle.coord_serving_members.proofs.OverServer as law
use Rattle.coord_serving_members.proofs.laws.no_mix_over_a_server.Goals as goal

pub returns : goal.returns
returns g c = law.no_mix_over_a_server g.D.Disk.model g.C.Callers.talked g.C.Callers.failed g.W.Write.contents g.O.SignalSource.gives
