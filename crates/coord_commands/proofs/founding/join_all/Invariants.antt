use Rattle.std.proofs.Common.{◌≡◌, ◌++◌, map, take}
use Rattle.coord_commands.specs.Founding.{joining}
use Rattle.coord_commands.proofs.founding.join_all.Given as goal

abbrev pub invariant-loop-link : goal.invariant-loop-link
invariant-loop-link l = l.list.items ≡ l.initial.list.items ++ map joining (take l.link-index l.links)
