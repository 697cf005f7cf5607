use Rattle.coord_world.proofs.waves.Epochs as law
use Rattle.coord_world.proofs.laws.epochs_count_signals.Goals as goal

pub returns : goal.returns
returns c = law.epochs_count_signals
