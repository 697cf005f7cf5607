-- Those counted and those that are left make up all.
use Rattle.std.proofs.Common.{◌≡◌, ◌+◌, ◌≤◌, drop}
use Rattle.coord_check.specs.LinkEnds.{count}
use Rattle.coord_check.proofs.in_transit.count_of.Given as goal

abbrev pub invariant-loop-msg : goal.invariant-loop-msg
invariant-loop-msg l = record { counted : l.many + count l.kind (drop l.msg-index l.messages) ≡ count l.kind l.messages; few : l.many ≤ l.msg-index }
