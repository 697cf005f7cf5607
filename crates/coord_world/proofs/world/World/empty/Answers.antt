use Rattle.std.proofs.Common.{sym, subst}
use Rattle.coord_world.specs.Facade.{InRange, Legal}
use Rattle.coord_world.proofs.legal.EmptyWorld.{no_world_in_range, no_world_legal}
use Rattle.coord_world.proofs.world.World.empty.Goals as goal

pub invariant_of-result : goal.invariant_of-result
invariant_of-result c = subst InRange (sym c.empty.ensures) (no_world_in_range c.args.version c.number.ensures.least c.number.ensures.greatest)

pub returns-clause-legal : goal.returns-clause-legal
returns-clause-legal c = subst Legal (sym c.empty.ensures) (no_world_legal c.args.version)
