use Rattle.coord_server.proofs.Returned.{instances_leave_steps}
use Rattle.coord_server.proofs.laws.instances_leave_steps.Goals as goal

pub returns : goal.returns
returns g c = instances_leave_steps g.row.D.Denot g.row.P.Denot
