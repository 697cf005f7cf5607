use Rattle.std.proofs.Common.{take}
use Rattle.coord_engine.specs.Facade.{Works, based_on}
use Rattle.coord_engine.proofs.working.take_each.Given as goal

-- those before this one were taken
abbrev pub invariant-loop-packet : goal.invariant-loop-packet
invariant-loop-packet g l = Works (based_on g.D.Disk.model g.L.Origin.base g.L.Origin.before) l.fn.share l.fn.hand (take l.packet-index l.packets) l.share l.hand
