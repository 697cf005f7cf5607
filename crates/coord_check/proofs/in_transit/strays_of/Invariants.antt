-- Those counted and those that are left make up all.
use Rattle.std.proofs.Common.{◌≡◌, ◌+◌, ◌≤◌, drop}
use Rattle.coord_world.specs.protocol.Links.{strays}
use Rattle.coord_check.proofs.in_transit.strays_of.Given as goal

abbrev pub invariant-loop-msg : goal.invariant-loop-msg
invariant-loop-msg l = record { counted : l.many + strays l.carried (drop l.msg-index l.messages) ≡ strays l.carried l.messages; few : l.many ≤ l.msg-index }
