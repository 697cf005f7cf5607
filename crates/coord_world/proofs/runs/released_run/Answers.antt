use Rattle.coord_world.proofs.release.ReleasedRun as law
use Rattle.coord_world.proofs.runs.released_run.Goals as goal

pub returns : goal.returns
returns c = law.released_run
