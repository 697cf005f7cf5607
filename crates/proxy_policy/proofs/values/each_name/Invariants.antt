use Rattle.std.proofs.Common.{◌≡◌, ◌++◌, drop, map, option_map}
use Rattle.std.specs.Prelude.{string_bytes}
use Rattle.toml.specs.View.{items_view}
use Rattle.proxy_policy.specs.Values.{each, name_in}
use Rattle.proxy_policy.proofs.values.each_name.Given as goal

abbrev pub invariant-loop-value : goal.invariant-loop-value
invariant-loop-value l =
    each name_in (items_view l.value-items) ≡ option_map (λ xs. map string_bytes l.names.items ++ xs) (each name_in (items_view (drop l.value-index l.value-items)))
