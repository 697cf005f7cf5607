use Rattle.std.proofs.Common.{refl}
use Rattle.coord_link.proofs.laws.reset_lane.Goals as goal

pub returns : goal.returns
returns c = record { answered = refl; taken = refl; left = refl }
