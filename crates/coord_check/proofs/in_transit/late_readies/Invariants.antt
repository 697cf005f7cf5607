-- No Abort was met.
use Rattle.std.proofs.Common.{◌≡◌, drop}
use Rattle.coord_world.specs.protocol.Links.{readies_after}
use Rattle.coord_check.proofs.in_transit.late_readies.Given as goal

abbrev pub invariant-loop-i : goal.invariant-loop-i
invariant-loop-i l = readies_after (drop l.i l.messages) ≡ readies_after l.messages
