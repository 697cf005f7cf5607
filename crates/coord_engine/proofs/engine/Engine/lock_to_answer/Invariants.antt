use Rattle.std.proofs.Common.{◌≡◌}
use Rattle.coord_engine.proofs.engine.Engine.lock_to_answer.Given as goal

abbrev pub invariant-loop : goal.invariant-loop
invariant-loop g l = (goal.iterator-loop g).can_next l.iterator' × (goal.iterator-loop g).is_finite l.iterator' × (l.waiting ≡ l.fn.ticket)
