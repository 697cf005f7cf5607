use Rattle.std.proofs.Common.{◌≡◌, sym, ap, ◌∙◌}
use Rattle.std.proofs.lemmas.Result.{IfOk-weaker}
use Rattle.std.specs.Cmp.{nat_cmp_total}
use Rattle.coord_types.specs.Table as table
use Rattle.coord_types.proofs.Tables.{entries-from_sorted}
use Rattle.coord_tables.specs.Slots.{slot_entries}
use Rattle.coord_tables.proofs.SlotTables.{sorted_slots}
use Rattle.coord_tables.proofs.slot_table.SlotTable.entries.Goals as goal

pub returns : goal.returns
returns g c =
    IfOk-weaker c.entries.result (λ es. es.items ≡ slot_entries 1 c.deref.result.now) (λ es. es.items ≡ table.entries c.args.self.now)
    (λ es is. is ∙ ap (slot_entries 1) c.deref.ensures.value ∙ sym (entries-from_sorted nat_cmp_total _ (sorted_slots c.self.inside.slots.items 1)) ∙ ap table.entries c.self.view_is)
    c.entries.ensures
