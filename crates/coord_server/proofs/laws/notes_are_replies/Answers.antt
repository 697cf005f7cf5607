use Rattle.coord_server.proofs.Returned.{notes_are_replies}
use Rattle.coord_server.proofs.laws.notes_are_replies.Goals as goal

pub returns : goal.returns
returns g c = notes_are_replies g.row.D.Denot g.row.P.Denot
