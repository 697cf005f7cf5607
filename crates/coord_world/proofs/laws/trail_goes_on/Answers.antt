use Rattle.coord_world.proofs.release.Trails as law
use Rattle.coord_world.proofs.laws.trail_goes_on.Goals as goal

pub returns : goal.returns
returns c = law.trail_goes_on
