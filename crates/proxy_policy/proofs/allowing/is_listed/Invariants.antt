use Rattle.std.proofs.Common.{◌≡◌, drop, ◌==◌}
use Rattle.std.specs.List.{list_any}
use Rattle.proxy_policy.proofs.allowing.is_listed.Given as goal

abbrev pub invariant-loop-each : goal.invariant-loop-each
invariant-loop-each g l = list_any (λ each. each == l.number) l.all ≡ list_any (λ each. each == l.number) (drop l.each-index l.all)
