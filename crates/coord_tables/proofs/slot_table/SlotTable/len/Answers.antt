use Rattle.std.proofs.Common.{length, sym, ap, ◌∙◌}
use Rattle.std.specs.Cmp.{nat_cmp_total}
use Rattle.coord_types.specs.Table as table
use Rattle.coord_types.proofs.Tables.{len-from_sorted}
use Rattle.coord_tables.specs.Slots.{slot_entries}
use Rattle.coord_tables.proofs.SlotTables.{sorted_slots}
use Rattle.coord_tables.proofs.slot_table.SlotTable.len.Goals as goal

pub returns : goal.returns
returns g c =
    c.count.ensures ∙ ap (λ xs. length (slot_entries 1 xs)) c.deref.ensures.value
    ∙ sym (len-from_sorted nat_cmp_total (slot_entries 1 c.self.inside.slots.items) (sorted_slots c.self.inside.slots.items 1)) ∙ ap table.len c.self.view_is
