use Rattle.std.proofs.Common.{length}
use Rattle.coord_drill.proofs.drill.forget_all.Given as goal

abbrev pub decreases-loop-ticket : goal.decreases-loop-ticket
decreases-loop-ticket l = length l.tickets.items
