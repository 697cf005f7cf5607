use Rattle.coord_engine.proofs.Past.{after_some_is_on_the_way}
use Rattle.coord_engine.proofs.laws.after_some_is_on_the_way.Goals as goal

pub returns : goal.returns
returns c = after_some_is_on_the_way
