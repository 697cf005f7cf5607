use Rattle.std.proofs.Common.{◌≡◌, ◌+◌, ◌-◌, length, slice_get, ap, subst, sym, arith, ◌∙◌}
use Rattle.coord_ledger.specs.Facade.{Claim, IsCollectable, LedgerState, Log}
use Rattle.coord_ledger.proofs.follows.Granted.{StandsAt, collectable_stands, stands_collectable}
use Rattle.coord_ledger.proofs.follows.Kept.{kinds_within}
use Rattle.coord_ledger.proofs.ledger.Ledger.is_settled.Goals as goal

pub stands_at-requires-clause-in_kinds : goal.stands_at-requires-clause-in_kinds
stands_at-requires-clause-in_kinds g c =
    omega (arith, c.if-place-self.false, c.self.invariant.consistent.within, kinds_within _ _ _ _ _ _ _ c.self.invariant, ap length c.deref-2.ensures.value)

pub returns : goal.returns
returns g c =
    let log : Log = record { base = c.self.inside.base; trail = c.self.inside.trail.items; settled = c.self.inside.done; doubt = c.self.inside.doubt } in
    let claim = c.args.ticket.now in
    let place = c.ticket.inside.step - c.count.result - 1 in
    let is = c.self.invariant.consistent in
    let step = ap (λ (x : Claim). x.step) c.ticket.view_is in
    let base = ap (λ (l : LedgerState g.row.D.Denot). l.log.base.count) c.self.view_is in
    let number : claim.step ≡ log.base.count + place + 1 = omega (arith, c.requires, c.count.ensures, step, base) in
    let trail = c.deref.ensures.value in
    let kinds = c.deref-2.ensures.value ∙ c.self.invariant.kinds_are in
    let P : LedgerState g.row.D.Denot → Type 0 = λ l. IsCollectable l.log claim in (
      λ t.
          let there = c.stands_at.ensures.0 t in
          let at : StandsAt log claim place = record {
            number = number;
            settled = c.if-place-self.false;
            there = ap (λ l. slice_get l place) (sym trail) ∙ there.0;
            kind_there = ap (λ l. slice_get l place) (sym kinds) ∙ there.1;
          } in
          subst P c.self.view_is (stands_collectable log is claim place at),
      λ ok.
          let at = collectable_stands log is claim place number (subst P (sym c.self.view_is) ok) in
          c.stands_at.ensures.1 (ap (λ l. slice_get l place) trail ∙ at.there, ap (λ l. slice_get l place) kinds ∙ at.kind_there),
    )
