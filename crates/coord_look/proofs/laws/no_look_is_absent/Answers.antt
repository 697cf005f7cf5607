use Rattle.coord_look.proofs.Worlds.{no_look_is_absent}
use Rattle.coord_look.proofs.laws.no_look_is_absent.Goals as goal

pub returns : goal.returns
returns c = no_look_is_absent
