use Rattle.coord_server.proofs.InOrder.{answered_in_order}
use Rattle.coord_server.proofs.laws.answered_in_order.Goals as goal

pub returns : goal.returns
returns g c = answered_in_order g.row.D.Denot g.row.P.Denot g.C.Callers.talked
