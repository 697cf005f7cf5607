use Rattle.std.proofs.Common.{◌≡◌, sym, subst, ◌∙◌}
use Rattle.coord_engine.specs.Facade.{CanHold, GuardedState, HasReadSettled, based_on}
use Rattle.coord_ledger.specs.Facade.{settled_steps}
use Rattle.coord_engine.proofs.Showing.{LedgerShows, returned}
use Rattle.coord_engine.proofs.engine.Engine.show.Goals as goal

pub returns-clause-answered : goal.returns-clause-answered
returns-clause-answered g c =
    let b = based_on g.D.Disk.model g.L.Origin.base g.L.Origin.before in
    let locked = c.deref-2.result.now in
    let same : locked ≡ c.deref_mut.result.now = c.deref-2.ensures ∙ c.read_on.ensures.same in
    let is = subst (CanHold b) (c.deref.ensures ∙ sym c.deref_mut.ensures.value ∙ sym same) c.keeps.ensures in
    let by : LedgerShows locked c.args.seen.now c.show.new.seen c.show.result = record {
      stopped = rw (sym c.ledger.ensures) c.show.ensures.stopped;
      behind = rw (sym c.ledger.ensures) c.show.ensures.behind;
      view = rw (sym c.ledger.ensures) c.show.ensures.shown;
      unseen = c.show.ensures.unseen;
    } in
    let reads = subst (λ (x : GuardedState g.row.D.Denot). HasReadSettled g.L.Origin.history g.L.Origin.earlier (settled_steps x.ledger.log) c.read_on.new.reader) (sym same) c.read_on.ensures.read in
    returned locked c.args.seen.now c.show.new.seen b is g.L.Origin.history g.L.Origin.earlier c.read_on.new.reader reads c.show.result by
