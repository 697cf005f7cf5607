use Rattle.coord_drill.proofs.course.Settled as law
use Rattle.coord_drill.proofs.laws.printed_survives.Goals as goal

pub returns : goal.returns
returns c = law.printed_survives
