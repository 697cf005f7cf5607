use Rattle.std.proofs.Common.{◌≡◌}
use Rattle.coord_kept.specs.History.{are_lines}
use Rattle.coord_kept.proofs.history.are_lines.Given as goal

abbrev pub invariant-loop-place : goal.invariant-loop-place
invariant-loop-place l = l.are ≡ are_lines l.history l.place
