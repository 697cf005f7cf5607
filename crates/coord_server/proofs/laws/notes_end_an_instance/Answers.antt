use Rattle.coord_server.proofs.Returned.{notes_end_an_instance}
use Rattle.coord_server.proofs.laws.notes_end_an_instance.Goals as goal

pub returns : goal.returns
returns g c = notes_end_an_instance g.row.D.Denot g.row.P.Denot
