use Rattle.coord_config.proofs.ReadBack.{reading-written}
use Rattle.coord_config.proofs.laws.written_is_read.Goals as goal

pub returns : goal.returns
returns c = reading-written
