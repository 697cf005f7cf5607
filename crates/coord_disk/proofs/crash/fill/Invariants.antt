use Rattle.std.proofs.Common.{◌≡◌, ◌<◌, ◌≤◌, ℕ, length, slice_get, if◌then◌else◌, Some}
use Rattle.coord_disk.specs.Disks.Filled.{is_loose, loose_below, repeated}
use Rattle.coord_disk.specs.Disks.History.{past_with, present_after}
use Rattle.coord_disk.proofs.crash.fill.Given as goal

-- the places below this one are filled where they are loose, and the others stay
abbrev pub invariant-loop-place : goal.invariant-loop-place
invariant-loop-place l =
    let disk = present_after (past_with l.fn.read (Some l.history)) in
    record {
      size : length l.read ≡ length l.fn.read;
      filled : l.filled ≡ loose_below disk l.place;
      few : l.filled ≤ l.place;
      below : (i : ℕ) → i < l.place → slice_get l.read i ≡ (if is_loose disk i then Some (repeated l.filler (loose_below disk i)) else slice_get l.fn.read i);
      following : (i : ℕ) → l.place ≤ i → slice_get l.read i ≡ slice_get l.fn.read i;
    }
