use Rattle.std.proofs.Common.{◌≡◌, ◌<◌, ◌≤◌, ◌-◌, ℕ, length, slice_index, false}
use Rattle.coord_kept.specs.Tag.{is_dash}
use Rattle.coord_kept.proofs.tag.dash_in.Given as goal

abbrev pub invariant-loop-place : goal.invariant-loop-place
invariant-loop-place l = ((k : ℕ) → k < l.place → is_dash (slice_index l.tag k) ≡ false) × (l.place ≤ length l.tag)

abbrev pub decreases-loop-place : goal.decreases-loop-place
decreases-loop-place l = length l.tag - l.place
