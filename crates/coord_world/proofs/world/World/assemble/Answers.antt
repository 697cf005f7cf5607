use Rattle.std.proofs.Common.{ap, sym, ◌∙◌, subst}
use Rattle.coord_world.specs.Facade.{InRange, listed, rows_of}
use Rattle.coord_world.proofs.listings.Assembled.{assembled_in_range, rows_assembled}
use Rattle.coord_world.proofs.world.World.assemble.Goals as goal

pub invariant_of-result : goal.invariant_of-result
invariant_of-result c = subst InRange (sym c.in_ok-tables.ensures) (assembled_in_range (listed c.args.parts) c.requires)

pub returns-clause-ranges : goal.returns-clause-ranges
returns-clause-ranges c = subst InRange (sym c.in_ok-tables.ensures) (assembled_in_range (listed c.args.parts) c.requires)

pub returns-clause-rows : goal.returns-clause-rows
returns-clause-rows c = ap rows_of c.in_ok-tables.ensures ∙ rows_assembled (listed c.args.parts) c.requires
