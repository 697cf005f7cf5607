use Rattle.coord_server.proofs.RunReturned as law
use Rattle.coord_server.proofs.laws.run_answers_from_one_history.Goals as goal

pub returns : goal.returns
returns g c = law.run_answers_from_one_history g.D.Disk.model g.C.Callers.talked g.C.Callers.failed g.W.Write.contents g.O.SignalSource.gives
