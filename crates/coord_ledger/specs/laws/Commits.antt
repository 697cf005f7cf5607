-- The worlds that a commit may leave on the disk.
use Rattle.std.specs.Prelude.{◌≡◌, ℕ, ◌+◌, Some}
use Rattle.coord_ledger.specs.declared.mark.Mark.TheVariants.{New}
use Rattle.coord_ledger.specs.machine.Consistent.{IsConsistent}
use Rattle.coord_ledger.specs.machine.Machine.{Machine}
use Rattle.coord_ledger.specs.promises.Headline.{IsSafe}

-- While a new flight of b steps is out, two worlds are safe: the world after the settled steps, and the world
-- after b more steps.
abbrev pub CommitIsSafe : Type 0
CommitIsSafe = (s : Machine) (b : ℕ) → IsConsistent s → s.flight ≡ Some (record { size = b; mark = New }) → IsSafe s s.log.settled × IsSafe s (s.log.settled + b)
