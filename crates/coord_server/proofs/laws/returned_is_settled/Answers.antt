use Rattle.coord_server.proofs.Settled.{returned_is_settled}
use Rattle.coord_server.proofs.laws.returned_is_settled.Goals as goal

pub returns : goal.returns
returns g c = returned_is_settled g.row.D.Denot g.row.P.Denot g.C.Callers.talked
