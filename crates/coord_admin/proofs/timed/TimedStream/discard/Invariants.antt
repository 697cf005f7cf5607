use Rattle.std.proofs.Common.{◌≡◌}
use Rattle.coord_admin.proofs.timed.TimedStream.discard.Given as goal

abbrev pub invariant-loop : goal.invariant-loop
invariant-loop g l = l.self.timeouts ≡ l.fn.self.timeouts
