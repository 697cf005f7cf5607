use Rattle.std.proofs.Common.{◌≡◌, ◌++◌, take, string_bytes}
use Rattle.proxy_policy.specs.Listing.{op_texts}
use Rattle.proxy_policy.proofs.listing.print_ops.Given as goal

abbrev pub invariant-loop-op : goal.invariant-loop-op
invariant-loop-op l = string_bytes l.text ≡ string_bytes l.initial.text ++ op_texts (take l.op-index l.ops)
