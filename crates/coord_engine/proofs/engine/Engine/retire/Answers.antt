use Rattle.std.proofs.Common.{subst, sym}
use Rattle.coord_engine.proofs.Releasing.{settled_at_last}
use Rattle.coord_engine.specs.Facade.{AtSomeMoment, HasReadSettled, Retires, based_on}
use Rattle.coord_engine.proofs.engine.Engine.retire.Goals as goal

pub returns-in-Ok-clause-written : goal.returns-in-Ok-clause-written
returns-in-Ok-clause-written g c =
    let left = c.in-Ok.left in
    let is = c.in-Ok.ensures in
    subst (λ steps. HasReadSettled g.L.Origin.history g.L.Origin.earlier steps left.writer) (sym (settled_at_last c.loop.guarded.ledger.log left.closed.base left.closed.trail.items left.closed.settled is.left.0 is.left.1 is.left.2)) is.written

pub returns-in-Ok-clause-left : goal.returns-in-Ok-clause-left
returns-in-Ok-clause-left g c =
    let left = c.in-Ok.left in
    let is = c.in-Ok.ensures in
    subst (λ shares. AtSomeMoment {D = g.row.D.Denot} (based_on g.D.Disk.model g.L.Origin.base g.L.Origin.before) (Retires left.closed.store left.closed.base left.closed.trail.items left.closed.settled left.refused shares c.args.seen.now)) c.loop.invariant.2
    (record { state = c.loop.guarded; held = c.keeps.ensures; so = (is.left, is.closed, is.refused) })
