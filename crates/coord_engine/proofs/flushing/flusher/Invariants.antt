use Rattle.std.proofs.Common.{◌≡◌, ℕ, false}
use Rattle.coord_engine.specs.Flushing.{Flushed}
use Rattle.coord_engine.specs.State.{based_on}
use Rattle.coord_engine.proofs.flushing.flusher.Given as goal

-- no rest is due, and so many flushes so far
abbrev pub invariant-loop : goal.invariant-loop
invariant-loop g l =
    (goal.iterator-loop g).can_next l.iterator' × (goal.iterator-loop g).is_finite l.iterator'
    × (l.pace.rest_is_due ≡ false)
    × ((n : ℕ) × Flushed (based_on g.D.Disk.model g.L.Origin.base g.L.Origin.before) g.P.Port.carried g.P.Port.signalled g.P.Port.handed_on n l.fn.port l.port)
