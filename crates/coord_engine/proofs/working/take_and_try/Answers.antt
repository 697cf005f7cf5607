use Rattle.std.proofs.Common.{refl}
use Rattle.coord_engine.proofs.working.take_and_try.Goals as goal

pub returns : goal.returns
returns g c = (c.take_each.new.share, c.take_each.new.hand, c.try_waiting.new.waiting, c.take_each.ensures, c.try_waiting.ensures, refl)
