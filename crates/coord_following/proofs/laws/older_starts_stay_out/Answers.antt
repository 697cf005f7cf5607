use Rattle.coord_following.proofs.OverFences.{older_stays_out}
use Rattle.coord_following.proofs.laws.older_starts_stay_out.Goals as goal

pub returns : goal.returns
returns c = older_stays_out
