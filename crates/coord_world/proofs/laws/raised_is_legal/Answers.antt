use Rattle.coord_world.proofs.legal.Versions.{raised_is_legal}
use Rattle.coord_world.proofs.laws.raised_is_legal.Goals as goal

pub returns : goal.returns
returns c = raised_is_legal
