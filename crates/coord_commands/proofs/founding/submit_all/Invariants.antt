use Rattle.std.proofs.Common.{◌≡◌, take}
use Rattle.coord_commands.specs.Founding.{IsUnderWay, numbered}
use Rattle.coord_commands.proofs.founding.submit_all.Given as goal

abbrev pub invariant-loop-command : goal.invariant-loop-command
invariant-loop-command l = (l.founding.steps.items ≡ numbered 1 (take l.command-index l.commands)) × IsUnderWay l.founding
