use Rattle.std.proofs.Common.{◌≡◌, map, take}
use Rattle.coord_world.specs.protocol.Rows.{node_row}
use Rattle.coord_world.proofs.rows.listing.node_rows.Given as goal

abbrev pub invariant-loop-entry : goal.invariant-loop-entry
invariant-loop-entry l = l.rows.items ≡ map node_row (take l.entry-index l.nodes)
