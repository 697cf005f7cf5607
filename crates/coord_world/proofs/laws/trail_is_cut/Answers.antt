use Rattle.coord_world.proofs.release.Trails as law
use Rattle.coord_world.proofs.laws.trail_is_cut.Goals as goal

pub returns : goal.returns
returns c = law.trail_is_cut
