use Rattle.std.proofs.Common.{◌≡◌, ◌++◌, take, string_bytes}
use Rattle.std.specs.List.{flat_map}
use Rattle.proxy_policy.specs.Listing.{rule_lines}
use Rattle.proxy_policy.proofs.rule.Policy.print.Given as goal

abbrev pub invariant-loop-rule : goal.invariant-loop-rule
invariant-loop-rule l = string_bytes l.text ≡ string_bytes l.initial.text ++ flat_map rule_lines (take l.rule-index l.self.rules.items)
