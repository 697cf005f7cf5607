use Rattle.std.proofs.Common.{◌≡◌}
use Rattle.coord_kept.specs.History.{is_among}
use Rattle.coord_kept.proofs.history.is_among.Given as goal

abbrev pub invariant-loop-place : goal.invariant-loop-place
invariant-loop-place l = l.is ≡ is_among l.history l.line l.place
