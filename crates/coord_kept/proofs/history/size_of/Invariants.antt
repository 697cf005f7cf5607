use Rattle.std.proofs.Common.{◌≡◌, ◌≤◌, length}
use Rattle.coord_kept.specs.History.{size_in, size_of}
use Rattle.coord_kept.proofs.history.size_of.Given as goal

abbrev pub invariant-loop-size : goal.invariant-loop-size
invariant-loop-size l = (size_in l.history l.size ≡ size_of l.history) × (l.size ≤ length l.history)

abbrev pub decreases-loop-size : goal.decreases-loop-size
decreases-loop-size l = l.size
