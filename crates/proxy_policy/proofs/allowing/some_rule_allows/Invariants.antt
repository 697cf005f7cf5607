use Rattle.std.proofs.Common.{◌≡◌, drop}
use Rattle.std.specs.List.{list_any}
use Rattle.proxy_policy.specs.Allowing.{rule_allows}
use Rattle.proxy_policy.proofs.allowing.some_rule_allows.Given as goal

abbrev pub invariant-loop-rule : goal.invariant-loop-rule
invariant-loop-rule l = list_any (λ rule. rule_allows rule l.principal l.request) l.rules ≡ list_any (λ rule. rule_allows rule l.principal l.request) (drop l.rule-index l.rules)
