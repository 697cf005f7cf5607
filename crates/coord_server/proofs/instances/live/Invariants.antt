use Rattle.std.proofs.Common.{◌≡◌}
use Rattle.coord_server.proofs.Moments.{RestedTo}
use Rattle.coord_server.proofs.instances.live.Given as goal

-- a number of instances have rested, the last one left the store that the next one begins with, and the steps of all are written
abbrev pub invariant-loop : goal.invariant-loop
invariant-loop g l =
    (goal.iterator-loop g).can_next l.iterator' × (goal.iterator-loop g).is_finite l.iterator'
    × (l.start.history ≡ g.O.SignalSource.history) × (l.writer.history ≡ g.O.SignalSource.history)
    × RestedTo g.D.Disk.model g.C.Callers.talked l.fn.setting.instance_steps l.fn.start.over.value l.fn.callers l.start.over.value l.callers l.writer.steps
