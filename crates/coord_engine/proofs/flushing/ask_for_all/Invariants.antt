use Rattle.std.proofs.Common.{◌≡◌, drop, take}
use Rattle.coord_engine.specs.Facade.{AreAsked, MayAskAll, deliveries_of}
use Rattle.coord_engine.proofs.flushing.ask_for_all.Given as goal

-- the port was asked for those that were taken so far, and may be asked for the others by who has read as much
abbrev pub invariant-loop-handed : goal.invariant-loop-handed
invariant-loop-handed g l =
    (l.left ≡ drop l._handed l.fn.releases)
    × AreAsked g.P.Port.carried g.P.Port.signalled l.fn.port (deliveries_of (take l._handed l.fn.releases)) l.port
    × MayAskAll (g.P.Port.may_signal l.fn.reader) l.left × (l.reader ≡ l.fn.reader)
