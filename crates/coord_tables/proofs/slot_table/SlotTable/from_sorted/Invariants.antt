use Rattle.std.proofs.Common.{◌≡◌, take}
use Rattle.coord_types.specs.Table as table
use Rattle.coord_tables.proofs.slot_table.SlotTable.from_sorted.Given as goal

abbrev pub invariant-loop-entry : goal.invariant-loop-entry
invariant-loop-entry g l = l.made ≡ table.from_sorted (take l.entry-index l.entries)
