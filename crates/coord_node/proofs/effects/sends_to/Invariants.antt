use Rattle.std.proofs.Common.{◌≡◌, ◌++◌}
use Rattle.coord_types.specs.NodeSet as set
use Rattle.coord_node.proofs.Sends.{to_each}
use Rattle.coord_node.proofs.effects.sends_to.Given as goal

abbrev pub invariant-loop-id : goal.invariant-loop-id
invariant-loop-id l = l.sends.items ++ to_each l.msg (set.items l.rest) ≡ to_each l.msg (set.items l.fn.to)

abbrev pub decreases-loop-id : goal.decreases-loop-id
decreases-loop-id l = set.len l.rest
