use Rattle.coord_world.proofs.release.ReleaseStays as law
use Rattle.coord_world.proofs.laws.released_grows.Goals as goal

pub returns : goal.returns
returns c = law.released_grows
