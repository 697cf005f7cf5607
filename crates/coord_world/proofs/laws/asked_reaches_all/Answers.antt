use Rattle.coord_world.proofs.waves.Epochs as law
use Rattle.coord_world.proofs.laws.asked_reaches_all.Goals as goal

pub returns : goal.returns
returns c = law.asked_reaches_all
