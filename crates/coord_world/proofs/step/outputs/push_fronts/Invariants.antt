use Rattle.std.proofs.Common.{◌≡◌, ◌++◌, drop}
use Rattle.coord_world.specs.code.Fronts.{fronts_sent}
use Rattle.coord_world.proofs.step.outputs.push_fronts.Given as goal

abbrev pub invariant-loop-send : goal.invariant-loop-send
invariant-loop-send l = l.outputs.items ++ fronts_sent l.links l.node_transition.id (drop l.send-index l.send-items) ≡ l.fn.outputs.items ++ fronts_sent l.links l.node_transition.id l.send-items
