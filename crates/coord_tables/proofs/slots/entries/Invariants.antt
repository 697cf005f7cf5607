use Rattle.std.proofs.Common.{◌≡◌, ◌+◌, ◌++◌, drop}
use Rattle.coord_tables.specs.Slots.{slot_entries}
use Rattle.coord_tables.proofs.slots.entries.Given as goal

abbrev pub invariant-loop-at : goal.invariant-loop-at
invariant-loop-at g l = l.entries.items ++ slot_entries (l.at + 1) (drop l.at l.slots) ≡ slot_entries 1 l.slots
