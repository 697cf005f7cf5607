use Rattle.std.proofs.Common.{◌≡◌, take, map}
use Rattle.serde_json.specs.View.{view}
use Rattle.coord_admin.specs.Replies.{link_row}
use Rattle.coord_admin.proofs.replies.link_rows.Given as goal

-- the rows made so far
abbrev pub invariant-loop-link : goal.invariant-loop-link
invariant-loop-link l = map view l.rows.items ≡ map link_row (take l.link-index l.links)
