use Rattle.coord_world.proofs.waves.Asked as law
use Rattle.coord_world.proofs.laws.asked_is_signalled.Goals as goal

pub returns : goal.returns
returns c = law.asked_is_signalled
