use Rattle.coord_world.proofs.waves.Spread as law
use Rattle.coord_world.proofs.laws.all_or_none.Goals as goal

pub returns : goal.returns
returns c = law.all_or_none
