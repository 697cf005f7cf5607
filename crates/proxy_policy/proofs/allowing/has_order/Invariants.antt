use Rattle.std.proofs.Common.{◌≡◌, drop}
use Rattle.std.specs.List.{list_any}
use Rattle.proxy_policy.specs.Allowing.{is_order_op}
use Rattle.proxy_policy.proofs.allowing.has_order.Given as goal

abbrev pub invariant-loop-op : goal.invariant-loop-op
invariant-loop-op l = list_any is_order_op l.ops ≡ list_any is_order_op (drop l.op-index l.ops)
