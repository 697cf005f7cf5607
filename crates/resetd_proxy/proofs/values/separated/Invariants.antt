use Rattle.std.proofs.Common.{◌≡◌, ◌==◌, map, take}
use Rattle.std.specs.List.{flat_map, slice_split}
use Rattle.resetd_proxy.proofs.values.separated.Given as goal

abbrev pub invariant-loop-part : goal.invariant-loop-part
invariant-loop-part l =
    map (λ each. each.now) l.texts.items ≡ flat_map (slice_split (λ byte. byte == 58)) (map (λ each. each.now) (take l.part-index l.part-items))
