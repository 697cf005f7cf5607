use Rattle.std.proofs.Common.{◌≡◌, ◌++◌, List, length}
use Rattle.coord_ledger.specs.declared.release.Release.{Release as Row}
use Rattle.coord_ledger.proofs.event_driver.released.push_releases.Given as goal

abbrev pub invariant-loop-release : goal.invariant-loop-release
invariant-loop-release l = (more : List Row) × ((l.initial.releases ≡ more ++ l.releases) × (l.released.items ≡ l.initial.released.items ++ more))

abbrev pub decreases-loop-release : goal.decreases-loop-release
decreases-loop-release l = length l.releases
