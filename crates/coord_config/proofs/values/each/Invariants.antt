use Rattle.std.proofs.Common.{◌≡◌, ◌++◌, drop, option_map}
use Rattle.toml.specs.View.{items_view}
use Rattle.coord_config.specs.Topology.{each}
use Rattle.coord_config.proofs.values.each.Given as goal

-- the result of all items is the values read so far, followed by the result of the remaining items
abbrev pub invariant-loop-value : goal.invariant-loop-value
invariant-loop-value g l =
    each g.E.Entry.reads (items_view l.value-items) ≡ option_map (λ xs. l.entries.items ++ xs) (each g.E.Entry.reads (items_view (drop l.value-index l.value-items)))
