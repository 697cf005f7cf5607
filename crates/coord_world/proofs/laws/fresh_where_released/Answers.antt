use Rattle.coord_world.proofs.release.ReleaseStays as law
use Rattle.coord_world.proofs.laws.fresh_where_released.Goals as goal

pub returns : goal.returns
returns c = law.fresh_where_released
