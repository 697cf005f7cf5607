use Rattle.coord_look.proofs.Worlds.{look_is_shown}
use Rattle.coord_look.proofs.laws.look_is_shown.Goals as goal

pub returns : goal.returns
returns c = look_is_shown
