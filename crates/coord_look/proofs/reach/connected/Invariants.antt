use Rattle.coord_look.proofs.Reached.{Reaches, outside}
use Rattle.coord_look.proofs.reach.connected.Given as goal

abbrev pub invariant-loop-link : goal.invariant-loop-link
invariant-loop-link l = Reaches l.links l.fn.node l.reached

abbrev pub decreases-loop-link : goal.decreases-loop-link
decreases-loop-link l = outside l.reached l.links
