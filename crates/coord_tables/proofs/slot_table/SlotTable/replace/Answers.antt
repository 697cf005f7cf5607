use Rattle.std.proofs.Common.{◌-◌, IsSome, sym, ap, ◌∙◌, subst, arith}
use Rattle.coord_types.specs.Table as table
use Rattle.coord_tables.specs.Slots.{slot_at}
use Rattle.coord_tables.proofs.SlotTables.{get_slot, slots_insert}
use Rattle.coord_tables.proofs.slot_table.SlotTable.replace.Goals as goal

pub replace-requires-clause-there : goal.replace-requires-clause-there
replace-requires-clause-there g c =
    subst IsSome
    (ap (λ m. table.get m c.args.key) (sym c.self.view_is) ∙ get_slot c.self.inside.slots.items c.args.key c.number.ensures.least ∙ ap (λ k. slot_at c.self.inside.slots.items (k - 1)) (sym c.number.ensures.value))
    c.requires

pub returns : goal.returns
returns g c =
    slots_insert c.self.inside.slots.items c.replace.new.slots.items c.number.result c.args.value (omega (arith, c.number.ensures.least, c.number.ensures.value)) c.replace.ensures.set
    ∙ (λ i. table.insert (c.self.view_is i) (c.number.ensures.value i) c.args.value)
