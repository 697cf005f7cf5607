use Rattle.std.proofs.Common.{◌≡◌, take, map}
use Rattle.serde_json.specs.View.{view}
use Rattle.coord_admin.specs.Replies.{node_row}
use Rattle.coord_admin.proofs.replies.node_rows.Given as goal

-- the rows made so far
abbrev pub invariant-loop-node : goal.invariant-loop-node
invariant-loop-node l = map view l.rows.items ≡ map node_row (take l.node-index l.nodes)
