use Rattle.std.proofs.Common.{◌≤◌, ap, subst, sym, arith}
use Rattle.coord_ledger.specs.Facade.{Claim, IsCollectable, LedgerState, Log}
use Rattle.coord_ledger.proofs.follows.Granted.{kept_collectable, old_kept}
use Rattle.coord_ledger.proofs.ledger.Ledger.is_collectable.Goals as goal

pub returns-then-ticket-count : goal.returns-then-ticket-count
returns-then-ticket-count g c =
    let log : Log = record { base = c.self.inside.base; trail = c.self.inside.trail.items; settled = c.self.inside.done; doubt = c.self.inside.doubt } in
    let claim = c.args.ticket.now in
    let step = ap (λ (x : Claim). x.step) c.ticket.view_is in
    let old : claim.step ≤ c.self.inside.base.count = omega (arith, step, c.if-ticket-count.true, c.count.ensures) in
    let P : LedgerState g.row.D.Denot → Type 0 = λ l. IsCollectable l.log claim in (
      λ t. subst P c.self.view_is (kept_collectable log c.self.invariant.consistent claim old (c.is_kept.ensures.0 t)),
      λ ok. c.is_kept.ensures.1 (old_kept log c.self.invariant.consistent claim old (subst P (sym c.self.view_is) ok)),
    )
