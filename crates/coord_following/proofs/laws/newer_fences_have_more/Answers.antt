use Rattle.coord_following.proofs.OverFences.{newer_has_more}
use Rattle.coord_following.proofs.laws.newer_fences_have_more.Goals as goal

pub returns : goal.returns
returns c = newer_has_more
