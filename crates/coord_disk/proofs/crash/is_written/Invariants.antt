use Rattle.std.proofs.Common.{◌≡◌, ◌≤◌, ℕ, List, length, take}
use Rattle.coord_disk.specs.Disks.History.{replayed}
use Rattle.coord_disk.specs.Model.Present.{is_within, whole}
use Rattle.coord_disk.proofs.crash.is_written.Given as goal

-- no call from n on wrote to the place or synced
abbrev pub invariant-loop-n : goal.invariant-loop-n
invariant-loop-n l = record {
  within : l.n ≤ length l.entries;
  before : (first : List ℕ) → is_within (replayed (whole first) (take l.n l.entries)).written l.place ≡ is_within (replayed (whole first) l.entries).written l.place;
}

abbrev pub decreases-loop-n : goal.decreases-loop-n
decreases-loop-n l = l.n
