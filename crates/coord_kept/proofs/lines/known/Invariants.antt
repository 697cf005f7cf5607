use Rattle.std.proofs.Common.{◌≡◌, take}
use Rattle.coord_kept.specs.Lines.{known}
use Rattle.coord_kept.proofs.lines.known.Given as goal

abbrev pub invariant-loop-entry : goal.invariant-loop-entry
invariant-loop-entry l = l.those.items ≡ known l.lines (take l.entry-index l.party)
