use Rattle.coord_world.proofs.release.Trails as law
use Rattle.coord_world.proofs.laws.trail_keeps_worlds.Goals as goal

pub returns : goal.returns
returns c = law.trail_keeps_worlds
