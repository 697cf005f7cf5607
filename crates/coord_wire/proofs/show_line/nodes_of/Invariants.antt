use Rattle.std.proofs.Common.{◌≡◌, drop}
use Rattle.serde_json.specs.View.{items_view}
use Rattle.coord_wire.specs.ShowLine.{each, node_in}
use Rattle.coord_wire.proofs.Each.{with_all}
use Rattle.coord_wire.proofs.show_line.nodes_of.Given as goal

-- the rows so far, and what the others are
abbrev pub invariant-loop-row : goal.invariant-loop-row
invariant-loop-row l = each node_in (items_view l.rows) ≡ with_all l.nodes.items (each node_in (items_view (drop l.row-index l.rows)))
