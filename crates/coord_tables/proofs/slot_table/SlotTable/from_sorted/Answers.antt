use Rattle.std.proofs.Common.{◌≡◌, ◌+◌, ◌<◌, [], suc, Some, length, refl, sym, ap, ◌∙◌, arith, slice_get, take, nat_cmp}
use Rattle.std.proofs.lemmas.Option.{slice_get-get_or}
use Rattle.std.specs.Cmp.{nat_cmp_total}
use Rattle.coord_types.specs.Table as table
use Rattle.coord_tables.proofs.SortedEntries.{put_next, sorted-take, from_sorted-none, from_sorted-put}
use Rattle.coord_tables.proofs.slot_table.SlotTable.from_sorted.Goals as goal

pub loop-entry-init : goal.loop-entry-init
loop-entry-init g c = c.new-made.ensures ∙ sym (from_sorted-none nat_cmp_total [] refl)

pub loop-entry-preserved : goal.loop-entry-preserved
loop-entry-preserved g c =
    let n = c.loop-entry.entry-index in
    let es = c.args.entries.now in
    let e = c.entry-item.result in
    let below : n < length es = c.loop-entry-test.true in
    let here : slice_get es n ≡ Some e = slice_get-get_or es n e below ∙ ap Some (sym c.entry-item.is) in
    let next : suc n ≡ n + 1 = omega arith in
    c.in_ok-insert.ensures.ok ∙ ap (λ m. table.insert m e.0 e.1) c.loop-entry.invariant ∙ sym (from_sorted-put nat_cmp_total (take n es) e.0 e.1 (sorted-take nat_cmp nat_cmp_total n es c.requires))
    ∙ ap table.from_sorted (put_next nat_cmp nat_cmp_total n es e c.requires here ∙ ap (λ k. take k es) next)
