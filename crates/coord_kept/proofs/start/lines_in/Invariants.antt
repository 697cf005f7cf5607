use Rattle.std.proofs.Common.{◌≡◌, drop}
use Rattle.serde_json.specs.View.{items_view}
use Rattle.coord_kept.specs.Start.{lines_in, texts}
use Rattle.coord_kept.proofs.Rows.{with_all}
use Rattle.coord_kept.proofs.start.lines_in.Given as goal

-- the lines so far, and what the others are
abbrev pub invariant-loop-row : goal.invariant-loop-row
invariant-loop-row l = lines_in (items_view l.rows) ≡ with_all (texts l.lines.items) (lines_in (items_view (drop l.row-index l.rows)))
