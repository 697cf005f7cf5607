use Rattle.std.proofs.Common.{◌≡◌, ◌++◌, drop}
use Rattle.coord_world.specs.protocol.Outputs.{all_again}
use Rattle.coord_world.proofs.step.outputs.push_all_again.Given as goal

abbrev pub invariant-loop-entry : goal.invariant-loop-entry
invariant-loop-entry l = l.outputs.items ++ all_again (drop l.entry-index l.entry-items) ≡ l.fn.outputs.items ++ all_again l.entry-items
