use Rattle.std.proofs.Common.{◌≡◌, drop, map}
use Rattle.toml.specs.View.{items_view}
use Rattle.coord_config.specs.Keys.{items_have_just}
use Rattle.coord_config.proofs.keys.items_have_just.Given as goal

abbrev pub invariant-loop-value : goal.invariant-loop-value
invariant-loop-value l =
    items_have_just (map (λ name. name.now) l.names) (items_view (drop l.value-index l.value-items)) ≡ items_have_just (map (λ name. name.now) l.names) (items_view l.value-items)
