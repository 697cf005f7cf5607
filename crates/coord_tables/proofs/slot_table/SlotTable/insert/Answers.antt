use Rattle.std.proofs.Common.{◌∙◌, arith}
use Rattle.coord_types.specs.Table as table
use Rattle.coord_tables.proofs.SlotTables.{slots_insert}
use Rattle.std.proofs.lemmas.Result.{on_ok_weaker}
use Rattle.coord_tables.proofs.slot_table.SlotTable.insert.Goals as goal

pub returns-clause-ok : goal.returns-clause-ok
returns-clause-ok g c =
    on_ok_weaker c.put.result
    (λ is. slots_insert c.self.inside.slots.items c.put.new.slots.items c.number.result c.args.value (omega (arith, c.number.ensures.least, c.number.ensures.value)) is
    ∙ (λ i. table.insert (c.self.view_is i) (c.number.ensures.value i) c.args.value))
    c.put.ensures.ok
