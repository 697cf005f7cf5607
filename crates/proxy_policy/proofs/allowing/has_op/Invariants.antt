use Rattle.std.proofs.Common.{◌≡◌, drop}
use Rattle.std.specs.List.{list_any}
use Rattle.proxy_request.specs.Ops.{same_op}
use Rattle.proxy_policy.proofs.allowing.has_op.Given as goal

abbrev pub invariant-loop-each : goal.invariant-loop-each
invariant-loop-each l = list_any (λ each. same_op each l.op) l.ops ≡ list_any (λ each. same_op each l.op) (drop l.each-index l.ops)
