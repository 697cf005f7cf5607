use Rattle.std.proofs.Common.{sym, ap, ◌∙◌}
use Rattle.coord_tables.specs.Slots.{slot_at}
use Rattle.coord_tables.proofs.SlotTables.{slots_same}
use Rattle.coord_tables.proofs.slot_table.SlotTable.is_same.Goals as goal

pub returns : goal.returns
returns g c =
    let same = slots_same c.self.inside.slots.items c.other.inside.slots.items in (
      λ reported. sym c.self.view_is ∙ same.0 (λ i. ap (λ xs. slot_at xs i) (sym c.deref.ensures.value) ∙ c.is_same_slots.ensures.0 reported i ∙ ap (λ xs. slot_at xs i) c.deref-2.ensures.value) ∙ c.other.view_is,
      λ e. c.is_same_slots.ensures.1 (λ i. ap (λ xs. slot_at xs i) c.deref.ensures.value ∙ same.1 (c.self.view_is ∙ e ∙ sym c.other.view_is) i ∙ ap (λ xs. slot_at xs i) (sym c.deref-2.ensures.value)),
    )
