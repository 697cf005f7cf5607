use Rattle.std.proofs.Common.{◌≡◌, ◌<◌, ◌≤◌, ℕ, List, length, take, slice_get, false}
use Rattle.coord_disk.specs.Disks.History.{replayed}
use Rattle.coord_disk.specs.Model.Present.{IsImage, is_within, whole}
use Rattle.coord_disk.proofs.history.copy_written.Given as goal

-- the writes from n on, back to the last sync, are copied
abbrev pub invariant-loop-n : goal.invariant-loop-n
invariant-loop-n l = record {
  within : l.n ≤ length l.entries;
  size : length l.synced ≡ length l.read;
  same : (first : List ℕ) → IsImage (record (replayed (whole first) l.entries) { synced = l.fn.synced }) l.read → (i : ℕ) → i < length l.read → is_within (replayed (whole first) (take l.n l.entries)).written i ≡ false → slice_get l.synced i ≡ slice_get l.read i;
}

abbrev pub decreases-loop-n : goal.decreases-loop-n
decreases-loop-n l = l.n
