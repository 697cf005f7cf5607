use Rattle.coord_world.proofs.release.Between as law
use Rattle.coord_world.proofs.laws.bound_with_drops.Goals as goal

pub returns : goal.returns
returns c = law.bound_with_drops
