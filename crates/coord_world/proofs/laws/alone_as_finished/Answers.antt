use Rattle.coord_world.proofs.waves.Alone as law
use Rattle.coord_world.proofs.laws.alone_as_finished.Goals as goal

pub returns : goal.returns
returns c = law.alone_as_finished
