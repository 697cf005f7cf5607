use Rattle.coord_starts.proofs.OneHistory.{starts_are_one}
use Rattle.coord_starts.proofs.laws.starts_are_one.Goals as goal

pub returns : goal.returns
returns c = starts_are_one
