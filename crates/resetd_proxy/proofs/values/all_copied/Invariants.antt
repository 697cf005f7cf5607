use Rattle.std.proofs.Common.{◌≡◌, length, map, take, string_bytes}
use Rattle.resetd_proxy.proofs.values.all_copied.Given as goal

abbrev pub invariant-loop-text : goal.invariant-loop-text
invariant-loop-text l =
    (length l.copies.items ≡ l.text-index)
    × (map string_bytes l.copies.items ≡ map (λ text. text.now) (take l.text-index l.texts))
