use Rattle.std.proofs.Common.{◌≡◌, [], ◌∷◌, ◌++◌, refl, ap, ◌∙◌, append_assoc}
use Rattle.std.proofs.lemmas.Result.{on_ok_weaker}
use Rattle.std.specs.Int.{w64, to_be_bytes}
use Rattle.coord_types.specs.Facade.{mask_of, mode_number}
use Rattle.coord_batch.specs.Fields.{at_most, distance, group, node}
use Rattle.coord_codec.specs.Worlds.{mask, mode, most_distance, node_row, parent, parent_number}
use Rattle.coord_codec.proofs.world_writing.put_node_row.Goals as goal

pub returns : goal.returns
unfolding node_row mode parent mask at_most node group
returns c =
    let out = c.args.out.now.items in
    let n = c.args.node.now in
    let front = c.args.number ∷ n.group ∷ mode_number n.mode ∷ parent_number n.parent ∷ [] in
    let pend = to_be_bytes w64 (mask_of n.pend) in
    let epoch = to_be_bytes w64 n.epoch in
    let confirmed = to_be_bytes w64 n.confirmed in
    let last = (distance c.args.version (most_distance n.mode 0)).text n.distance in
    let written : c.put_numbers.new.out.items ≡ (((out ++ front) ++ pend) ++ epoch) ++ confirmed =
    rw (c.in_ok-put_numbers.ensures, c.in_ok-extend_from_slice.ensures.items, c.in_ok-put_node_bytes.ensures, c.to_be_bytes.ensures, c.bits.ensures.value, c.pend.ensures, c.epoch.ensures, c.confirmed.ensures) refl in
    let numbers = written ∙ append_assoc ((out ++ front) ++ pend) epoch confirmed ∙ append_assoc (out ++ front) pend (epoch ++ confirmed) in
    on_ok_weaker c.put_distance.result
    (λ is. is ∙ ap (λ l. l ++ last) numbers ∙ append_assoc (out ++ front) (pend ++ (epoch ++ confirmed)) last ∙ append_assoc out front ((pend ++ (epoch ++ confirmed)) ++ last))
    c.put_distance.ensures
