use Rattle.coord_world.proofs.waves.Spread as law
use Rattle.coord_world.proofs.laws.once_or_more.Goals as goal

pub returns : goal.returns
returns c = law.once_or_more
