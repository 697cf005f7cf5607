use Rattle.coord_server.proofs.WorkedReturned.{return_up_to_third}
use Rattle.coord_server.proofs.laws.return_up_to_third.Goals as goal

pub returns : goal.returns
returns c = return_up_to_third
