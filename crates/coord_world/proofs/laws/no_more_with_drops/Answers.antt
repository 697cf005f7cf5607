use Rattle.coord_world.proofs.waves.Bounded as law
use Rattle.coord_world.proofs.laws.no_more_with_drops.Goals as goal

pub returns : goal.returns
returns c = law.no_more_with_drops
