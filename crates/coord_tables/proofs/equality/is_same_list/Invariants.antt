use Rattle.std.proofs.Common.{◌≡◌, ◌<◌, ℕ, slice_get}
use Rattle.coord_tables.proofs.equality.is_same_list.Given as goal

abbrev pub invariant-loop-i : goal.invariant-loop-i
invariant-loop-i g l = (k : ℕ) → k < l.i → slice_get l.a k ≡ slice_get l.b k
