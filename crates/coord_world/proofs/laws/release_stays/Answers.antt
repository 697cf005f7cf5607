use Rattle.coord_world.proofs.release.ReleaseStays as law
use Rattle.coord_world.proofs.laws.release_stays.Goals as goal

pub returns : goal.returns
returns c = law.release_stays
