use Rattle.coord_engine.specs.Facade.{Works, all_packets, based_on}
use Rattle.coord_engine.proofs.working.worker.Given as goal

-- those that came so far were taken
abbrev pub invariant-loop-packets : goal.invariant-loop-packets
invariant-loop-packets g l =
    (goal.iterator-loop-packets g).can_next l.packets-iterator × (goal.iterator-loop-packets g).is_finite l.packets-iterator
    × Works (based_on g.D.Disk.model g.L.Origin.base g.L.Origin.before) l.fn.share l.fn.hand (all_packets l.yielded) l.share l.hand
