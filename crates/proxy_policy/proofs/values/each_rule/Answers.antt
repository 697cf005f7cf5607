use Rattle.std.proofs.Common.{◌≡◌, [], ◌∷◌, ◌++◌, refl, arith, rules}
use Rattle.std.proofs.lemmas.Grind.{common_steps}
use Rattle.toml.specs.View.{items_view, view}
use Rattle.proxy_policy.specs.Values.{content, each, rule_in}
use Rattle.proxy_policy.proofs.Entries.{each_next}
use Rattle.proxy_policy.proofs.values.each_rule.Goals as goal

pub loop-value-preserved : goal.loop-value-preserved
loop-value-preserved c =
    let news : c.push.new.self.items ≡ c.loop-value.rules.items ++ c.in_ok-rule_of.field-0 ∷ [] = first_of (search rules, grind (arith, common_steps)) in
    each_next content rule_in view items_view (λ v vs. refl) (each rule_in (items_view c.deref-value-items.result.now)) c.loop-value.rules.items c.push.new.self.items c.in_ok-rule_of.field-0
    c.deref-value-items.result.now c.loop-value.value-index c.value-item.result (omega arith) c.value-item.is news c.in_ok-rule_of.ensures.ok c.loop-value.invariant
