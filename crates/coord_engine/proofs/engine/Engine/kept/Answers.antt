use Rattle.std.proofs.Common.{◌≡◌, length, sym, ap, subst, ◌∙◌}
use Rattle.coord_ledger.specs.ledger.State.{LedgerState}
use Rattle.coord_engine.specs.State.{based_on, CanHold}
use Rattle.coord_engine.proofs.Moments.{then}
use Rattle.coord_engine.proofs.engine.Engine.kept.Goals as goal

pub returns : goal.returns
returns g c =
    let b = based_on g.D.Disk.model g.L.Origin.base g.L.Origin.before in
    let is = subst (CanHold b) (c.deref.ensures ∙ sym c.deref-2.ensures) c.keeps.ensures in
    let same : c.trail.result.now ≡ c.deref-2.result.now.ledger.log.trail = c.trail.ensures ∙ ap (λ (l : LedgerState g.row.D.Denot). l.log.trail) c.ledger.ensures in
    then b c.deref-2.result.now is (λ x. length c.trail.result.now ≡ length x.ledger.log.trail) (ap length same)
