use Rattle.coord_world.proofs.release.ReleaseLaw as law
use Rattle.coord_world.proofs.laws.release_law.Goals as goal

pub returns : goal.returns
returns c = law.release_law
