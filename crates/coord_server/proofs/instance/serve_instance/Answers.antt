use Rattle.std.proofs.Common.{[], ap, subst}
use Rattle.coord_engine.proofs.Past.{of_itself}
use Rattle.coord_engine.specs.Facade.{past_in}
use Rattle.coord_engine.specs.State.{based_on}
use Rattle.coord_ledger.specs.ledger.State.{LedgerState}
use Rattle.coord_server.specs.Ending.{IsInstance}
use Rattle.coord_server.proofs.Moments.{of_instance}
use Rattle.coord_server.proofs.instance.serve_instance.Goals as goal

pub returns-clause-instance : goal.returns-clause-instance
returns-clause-instance g c =
    let base = ap (λ (l : LedgerState g.row.D.Denot). l.log.base) c.args.start.adopted in
    subst (λ w. IsInstance (based_on g.D.Disk.model w []) g.C.Callers.talked g.C.Callers.failed c.args.setting.now.instance_steps c.args.callers c.serve_ledger.result) base c.serve_ledger.ensures.instance

pub returns-clause-along : goal.returns-clause-along
returns-clause-along g c =
    let m = g.D.Disk.model in
    let l = c.args.start.ledger in
    let is = c.args.start.adopted in
    of_instance m (past_in m l.disk) l.log.base l.disk c.args.start.over.value c.serve_ledger.result.closed (of_itself m l.disk) (ap (λ (x : LedgerState g.row.D.Denot). x.disk) is) (ap (λ (x : LedgerState g.row.D.Denot). x.log.base) is) c.serve_ledger.ensures.along
