use Rattle.std.proofs.Common.{◌≡◌, ◌++◌, map, take}
use Rattle.coord_commands.specs.Founding.{adding}
use Rattle.coord_commands.proofs.founding.add_all.Given as goal

abbrev pub invariant-loop-node : goal.invariant-loop-node
invariant-loop-node l = l.list.items ≡ l.initial.list.items ++ map adding (take l.node-index l.nodes)
