use Rattle.std.proofs.Common.{◌≡◌, ◌+◌, length, sum_by}
use Rattle.coord_engine.proofs.guarded.closing.gather.Given as goal

abbrev pub invariant-loop-share : goal.invariant-loop-share
invariant-loop-share g l =
    (l.all.parts + length l.left.items ≡ l.fn.rest.parts + length l.fn.shares.items)
    × (l.all.amount + sum_by (λ notes. length notes) l.left.items ≡ sum_by (λ notes. length notes) l.fn.shares.items)
    × (l.book.total ≡ l.fn.book.total)

abbrev pub decreases-loop-share : goal.decreases-loop-share
decreases-loop-share g l = goal.left-loop-share g l
