use Rattle.coord_admin.specs.Connections.{ServedOpen}
use Rattle.coord_admin.proofs.connections.serve_connections.Given as goal

-- no connection so far has closed the desk
abbrev pub invariant-loop : goal.invariant-loop
invariant-loop g l =
    (goal.iterator-loop g).can_next l.iterator' × (goal.iterator-loop g).is_finite l.iterator'
    × ServedOpen g.D.Desk.answers g.D.Desk.keeps l.fn.most g.C.Callers.talked l.fn.callers l.fn.desk l.callers l.desk
