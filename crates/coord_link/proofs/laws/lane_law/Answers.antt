use Rattle.coord_link.proofs.Histories.{lane_law}
use Rattle.coord_link.proofs.laws.lane_law.Goals as goal

pub returns : goal.returns
returns c = lane_law
