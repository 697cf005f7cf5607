use Rattle.std.proofs.Common.{[], refl, ap, ◌∙◌}
use Rattle.std.specs.Cmp.{nat_cmp_total}
use Rattle.coord_tables.specs.Slots.{slot_table}
use Rattle.coord_tables.proofs.SortedEntries.{from_sorted-none}
use Rattle.coord_tables.proofs.slot_table.SlotTable.new.Goals as goal

pub returns : goal.returns
returns g c = ap slot_table c.new.ensures.items ∙ from_sorted-none nat_cmp_total [] refl
