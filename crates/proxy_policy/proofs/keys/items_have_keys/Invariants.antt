use Rattle.std.proofs.Common.{◌≡◌, drop, map}
use Rattle.toml.specs.View.{items_view}
use Rattle.proxy_policy.specs.Keys.{items_have_keys}
use Rattle.proxy_policy.proofs.keys.items_have_keys.Given as goal

abbrev pub invariant-loop-value : goal.invariant-loop-value
invariant-loop-value l =
    items_have_keys (map (λ name. name.now) l.known) (map (λ name. name.now) l.needed) (items_view (drop l.value-index l.value-items)) ≡ items_have_keys (map (λ name. name.now) l.known) (map (λ name. name.now) l.needed) (items_view l.value-items)
