use Rattle.coord_server.proofs.Returned.{replies_name_steps}
use Rattle.coord_server.proofs.laws.replies_name_steps.Goals as goal

pub returns : goal.returns
returns g c = replies_name_steps g.row.D.Denot
