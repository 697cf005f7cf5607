use Rattle.std.proofs.Common.{◌∙◌, arith}
use Rattle.coord_types.specs.Table as table
use Rattle.coord_tables.proofs.SlotTables.{slots_remove}
use Rattle.coord_tables.proofs.slot_table.SlotTable.remove.Goals as goal

pub returns : goal.returns
returns g c =
    slots_remove c.self.inside.slots.items c.take_out.new.slots.items c.number.result (omega (arith, c.number.ensures.least, c.number.ensures.value)) c.take_out.ensures.set
    ∙ (λ i. table.remove (c.self.view_is i) (c.number.ensures.value i))
