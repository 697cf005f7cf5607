use Rattle.coord_world.proofs.release.ReleaseLaw as law
use Rattle.coord_world.proofs.laws.resend_law.Goals as goal

pub returns : goal.returns
returns c = law.resend_law
