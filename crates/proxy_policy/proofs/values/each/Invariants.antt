use Rattle.std.proofs.Common.{◌≡◌, ◌++◌, drop, option_map}
use Rattle.toml.specs.View.{items_view}
use Rattle.proxy_policy.specs.Values.{each}
use Rattle.proxy_policy.proofs.values.each.Given as goal

-- what all items give is what was read so far before what the items left give
abbrev pub invariant-loop-value : goal.invariant-loop-value
invariant-loop-value g l =
    each g.E.Entry.reads (items_view l.value-items) ≡ option_map (λ xs. l.entries.items ++ xs) (each g.E.Entry.reads (items_view (drop l.value-index l.value-items)))
