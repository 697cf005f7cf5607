use Rattle.coord_world.proofs.waves.OncePerWave as law
use Rattle.coord_world.proofs.laws.once_if_one_started.Goals as goal

pub returns : goal.returns
returns c = law.once_if_one_started
