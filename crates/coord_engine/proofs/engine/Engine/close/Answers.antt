use Rattle.std.proofs.Common.{subst, sym}
use Rattle.coord_engine.proofs.Releasing.{settled_at_last}
use Rattle.coord_engine.specs.Facade.{HasReadSettled}
use Rattle.coord_engine.proofs.engine.Engine.close.Goals as goal

pub returns-in-Ok-clause-written : goal.returns-in-Ok-clause-written
returns-in-Ok-clause-written g c =
    let left = c.in-Ok.left in
    let is = c.in-Ok.ensures in
    subst (λ steps. HasReadSettled g.L.Origin.history g.L.Origin.earlier steps left.1) (sym (settled_at_last c.into_inner-guarded.result.ledger.log left.0.base left.0.trail.items left.0.settled is.log.0 is.log.1 is.log.2)) is.written
