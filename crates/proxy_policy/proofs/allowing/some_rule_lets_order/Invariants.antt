use Rattle.std.proofs.Common.{◌≡◌, drop}
use Rattle.proxy_policy.specs.Allowing.{may_order}
use Rattle.proxy_policy.proofs.allowing.some_rule_lets_order.Given as goal

abbrev pub invariant-loop-rule : goal.invariant-loop-rule
invariant-loop-rule l = may_order l.rules l.principal ≡ may_order (drop l.rule-index l.rules) l.principal
