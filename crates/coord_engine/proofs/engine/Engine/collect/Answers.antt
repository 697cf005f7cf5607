use Rattle.std.proofs.Common.{sym, subst, ◌∙◌}
use Rattle.coord_ledger.specs.Facade.{settled_steps}
use Rattle.coord_engine.specs.Facade.{CanHold, HasReadSettled, IsReturnedToTicket, based_on}
use Rattle.coord_engine.proofs.Moments.{then}
use Rattle.coord_engine.proofs.engine.Engine.collect.Goals as goal

pub returns-clause-answered : goal.returns-clause-answered
returns-clause-answered g c =
    let b = based_on g.D.Disk.model g.L.Origin.base g.L.Origin.before in
    let locked = c.deref_mut.result.now in
    let is = subst (CanHold b) (c.deref.ensures ∙ sym c.deref_mut.ensures.value) c.keeps.ensures in
    then b locked is (λ x. IsReturnedToTicket x.ledger c.args.ticket c.lock_to_answer-guarded.result.1 × HasReadSettled g.L.Origin.history g.L.Origin.earlier (settled_steps x.ledger.log) c.read_on.new.reader) (rw c.deref_mut.ensures.value c.lock_to_answer-guarded.ensures, c.read_on.ensures.read)
