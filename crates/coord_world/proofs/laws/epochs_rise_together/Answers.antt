use Rattle.coord_world.proofs.waves.Epochs as law
use Rattle.coord_world.proofs.laws.epochs_rise_together.Goals as goal

pub returns : goal.returns
returns c = law.epochs_rise_together
