use Rattle.std.proofs.Common.{◌≡◌, ◌+◌, List, length}
use Rattle.coord_types.specs.declared.packets.Packet.{Packet}
use Rattle.coord_ledger.specs.declared.ticket.Note.{Note}
use Rattle.coord_engine.specs.Facade.{TriesAll, based_on}
use Rattle.coord_engine.proofs.working.try_waiting.Given as goal

-- what becomes of those that are left becomes of them all
abbrev pub invariant-loop-tried : goal.invariant-loop-tried
invariant-loop-tried g l =
    (length l.waiting + l._tried ≡ length l.fn.waiting)
    × ((later : List Note) (left : List Packet)
    → TriesAll (based_on g.D.Disk.model g.L.Origin.base g.L.Origin.before) l.share l.waiting later left
    → TriesAll (based_on g.D.Disk.model g.L.Origin.base g.L.Origin.before) l.fn.share l.fn.waiting later left)
