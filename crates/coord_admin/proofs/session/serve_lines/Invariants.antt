use Rattle.std.proofs.Common.{◌≤◌, ◌<◌, ℕ, List, length}
use Rattle.coord_admin.proofs.SoFar.{SoFar}
use Rattle.coord_admin.proofs.session.serve_lines.Given as goal

-- the input read so far, whose lines have replies or await them
abbrev pub invariant-loop : goal.invariant-loop
invariant-loop g l =
    (0 < length l.buffer)
    × ((seen : List ℕ) × (l.counter ≤ length seen)
    × SoFar g.D.Desk.answers g.D.Desk.posts g.C.Duplex.exchanged l.fn.desk l.fn.connection seen l.line l.queue.posted.items l.desk l.connection)
