use Rattle.coord_orders.proofs.Holding.{exactly_once}
use Rattle.coord_orders.proofs.laws.exactly_once.Goals as goal

pub returns : goal.returns
returns c = exactly_once
