use Rattle.std.proofs.Common.{sym, ap, arith}
use Rattle.coord_types.specs.NodeSet as set
use Rattle.coord_types.proofs.Sets.{len-first}
use Rattle.coord_node.proofs.Sends.{to_first}
use Rattle.coord_node.proofs.effects.sends_to.Goals as goal

pub loop-id-smaller : goal.loop-id-smaller
loop-id-smaller c =
    let shorter = len-first c.loop-id.rest c.in-Some.id (sym c.in-Some.ensures) in
    let rest = ap set.len c.without-rest.ensures in
    omega arith

pub loop-id-preserved : goal.loop-id-preserved
loop-id-preserved c =
    rw (c.in_ok-push.ensures.items, c.without-rest.ensures)
    (to_first c.loop-id.rest c.args.msg c.loop-id.sends.items _ c.in-Some.id (sym c.in-Some.ensures) c.loop-id.invariant)
