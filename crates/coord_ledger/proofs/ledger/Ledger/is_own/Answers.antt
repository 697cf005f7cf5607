use Rattle.std.proofs.Common.{◌≡◌, ◌+◌, false, is_some, length, take, unwrap_or, drop, sym, ap, ◌∙◌, subst, rules, arith}
use Rattle.coord_ledger.specs.Facade.{FlightState, IsOut, LedgerState, Log, settled_count}
use Rattle.coord_ledger.proofs.follows.IsOut.{flight_of, ledger_of, own_is, own_steps}
use Rattle.coord_ledger.proofs.ledger.Ledger.is_own.Goals as goal

pub returns : goal.returns
returns g c =
    let log : Log = record { base = c.self.inside.base; trail = c.self.inside.trail.items; settled = c.self.inside.done; doubt = c.self.inside.doubt } in
    let l : LedgerState g.row.D.Denot = ledger_of log c.self.inside.out c.self.inside.store in
    let f : FlightState g.row.D.Denot = flight_of c.flight.inside.first c.flight.inside.steps.items (unwrap_or c.flight.inside.before c.flight.inside.store.world) c.flight.inside.mark c.flight.inside.store in
    let gone : is_some c.self.inside.store ≡ false = search rules in
    let size : length c.flight.inside.steps.items ≡ c.self.inside.out = search rules in
    let same_count = ap (λ (x : LedgerState g.row.D.Denot). settled_count x.log) c.self.view_is in
    let number : c.flight.inside.first ≡ settled_count log + 1 = omega (arith, c.if-flight-settled_count.false, c.settled_count.ensures.value, same_count) in
    let begun : unwrap_or c.flight.inside.before c.flight.inside.store.world ≡ c.args.flight.now.world = ap (λ (x : FlightState g.row.D.Denot). x.world) c.flight.view_is in
    let at : unwrap_or c.flight.inside.before c.flight.inside.store.world ≡ c.self.inside.settled = begun ∙ sym c.world.ensures ∙ (search rules) in
    let next : c.next_steps.result.now ≡ take c.self.inside.out (drop c.self.inside.done c.self.inside.trail.items) = c.next_steps.ensures ∙ ap (λ x. take c.self.inside.out (drop c.self.inside.done x)) c.deref-2.ensures.value in (
      λ t.
          let own = own_is log _ _ _ _ _ _ c.self.invariant _ _ _ c.flight.inside.mark c.flight.inside.store gone size number at (sym c.deref.ensures.value ∙ c.are_same.ensures.0 t ∙ next) in
          rw (sym c.self.view_is) (rw (sym c.flight.view_is) own),
      λ own.
          let parts = subst (λ x. IsOut x f) (sym c.self.view_is) (rw c.flight.view_is own) in
          c.are_same.ensures.1 (c.deref.ensures.value ∙ own_steps log _ _ _ _ _ _ c.self.invariant _ _ _ c.flight.inside.mark c.flight.inside.store size parts ∙ sym next),
    )
