use Rattle.std.proofs.Common.{◌≡◌, map, take}
use Rattle.coord_world.specs.code.Assembly.{entry_with, near_in}
use Rattle.coord_world.proofs.rows.assembly.nodes_of.Given as goal

abbrev pub invariant-loop-row : goal.invariant-loop-row
invariant-loop-row l = l.nodes.items ≡ map (entry_with (near_in l.near.sets)) (take l.row-index l.rows)
