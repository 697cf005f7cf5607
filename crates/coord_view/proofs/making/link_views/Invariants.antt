use Rattle.std.proofs.Common.{◌≡◌, map, take}
use Rattle.coord_view.specs.Shown.{link_view}
use Rattle.coord_view.proofs.making.link_views.Given as goal

abbrev pub invariant-loop-row : goal.invariant-loop-row
invariant-loop-row l = l.views.items ≡ map link_view (take l.row-index l.rows)
