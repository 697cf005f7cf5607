use Rattle.std.proofs.Common.{◌≡◌, refl, ap, ◌∙◌, map, arith, nat_cmp}
use Rattle.std.proofs.lemmas.Result.{IfOk-weaker}
use Rattle.std.specs.Cmp.{nat_cmp_total}
use Rattle.std.specs.FinMap.Entries.{is_sorted}
use Rattle.coord_types.specs.Table.{from_sorted}
use Rattle.coord_tables.proofs.KeyedLists.{sorted-keys}
use Rattle.coord_world.specs.code.Assembly.{entry_with, near_in}
use Rattle.coord_world.proofs.rows.assembly.node_table.Goals as goal

-- the sizes of a number and of a table, and that the entries rise as the rows do
pub from_sorted-requires : goal.from_sorted-requires
from_sorted-requires c =
    let entry = entry_with (near_in c.args.near.now.sets) in
    let rising = ap (is_sorted nat_cmp) (c.deref-2.ensures.value ∙ c.in_ok-nodes.ensures ∙ ap (map entry) c.deref.ensures.value) ∙ sorted-keys nat_cmp entry (λ r. (r.id, r)) (λ _. refl) c.args.rows.items ∙ c.requires in
    (omega arith, (omega arith, rising))

pub returns : goal.returns
returns c =
    let entry = entry_with (near_in c.args.near.now.sets) in
    let is = ap (from_sorted {o = nat_cmp_total}) (c.deref-2.ensures.value ∙ c.in_ok-nodes.ensures ∙ ap (map entry) c.deref.ensures.value) in
    IfOk-weaker c.from_sorted.result (λ made. made ≡ from_sorted {o = nat_cmp_total} c.deref-2.result.now) (λ nodes. nodes ≡ from_sorted {o = nat_cmp_total} (map entry c.args.rows.items)) (λ made made_of. made_of ∙ is) c.from_sorted.ensures
