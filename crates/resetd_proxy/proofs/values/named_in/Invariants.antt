use Rattle.std.proofs.Common.{◌≡◌, drop, length, map, take, string_bytes}
use Rattle.std.specs.List.{list_all}
use Rattle.resetd_proxy.specs.Arguments.{is_named, named_by}
use Rattle.resetd_proxy.proofs.values.named_in.Given as goal

abbrev pub invariant-loop-text : goal.invariant-loop-text
invariant-loop-text l =
    (length l.named.items ≡ l.text-index)
    × (map (λ each. (string_bytes each.0, string_bytes each.1)) l.named.items ≡ map named_by (map (λ text. text.now) (take l.text-index l.texts)))
    × (list_all is_named (map (λ text. text.now) l.texts) ≡ list_all is_named (map (λ text. text.now) (drop l.text-index l.texts)))
