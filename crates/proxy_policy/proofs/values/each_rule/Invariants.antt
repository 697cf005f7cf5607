use Rattle.std.proofs.Common.{◌≡◌, ◌++◌, drop, map, option_map}
use Rattle.toml.specs.View.{items_view}
use Rattle.proxy_policy.specs.Values.{content, each, rule_in}
use Rattle.proxy_policy.proofs.values.each_rule.Given as goal

abbrev pub invariant-loop-value : goal.invariant-loop-value
invariant-loop-value l =
    each rule_in (items_view l.value-items) ≡ option_map (λ xs. map content l.rules.items ++ xs) (each rule_in (items_view (drop l.value-index l.value-items)))
