use Rattle.std.proofs.Common.{◌≡◌, [], ◌∷◌, ◌++◌, refl, arith, rules}
use Rattle.std.proofs.lemmas.Grind.{common_steps}
use Rattle.toml.specs.View.{items_view, view}
use Rattle.std.specs.Prelude.{string_bytes}
use Rattle.proxy_policy.specs.Values.{each, name_in}
use Rattle.proxy_policy.proofs.Entries.{each_next}
use Rattle.proxy_policy.proofs.values.each_name.Goals as goal

pub loop-value-preserved : goal.loop-value-preserved
loop-value-preserved c =
    let news : c.push.new.self.items ≡ c.loop-value.names.items ++ c.in_ok-name_of.field-0 ∷ [] = first_of (search rules, grind (arith, common_steps)) in
    each_next string_bytes name_in view items_view (λ v vs. refl) (each name_in (items_view c.deref-value-items.result.now)) c.loop-value.names.items c.push.new.self.items c.in_ok-name_of.field-0
    c.deref-value-items.result.now c.loop-value.value-index c.value-item.result (omega arith) c.value-item.is news c.in_ok-name_of.ensures.ok c.loop-value.invariant
