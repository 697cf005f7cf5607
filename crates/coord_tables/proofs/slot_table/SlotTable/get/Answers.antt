use Rattle.std.proofs.Common.{◌-◌, sym, ap, ◌∙◌}
use Rattle.coord_types.specs.Table as table
use Rattle.coord_tables.specs.Slots.{slot_at}
use Rattle.coord_tables.proofs.SlotTables.{get_slot}
use Rattle.coord_tables.proofs.slot_table.SlotTable.get.Goals as goal

pub returns : goal.returns
returns g c =
    c.value_at.ensures ∙ (λ i. slot_at (c.deref.ensures.value i) (c.number.ensures.value i - 1)) ∙ sym (get_slot c.self.inside.slots.items c.args.key c.number.ensures.least)
    ∙ ap (λ m. table.get m c.args.key) c.self.view_is
