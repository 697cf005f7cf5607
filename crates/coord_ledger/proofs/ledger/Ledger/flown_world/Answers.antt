use Rattle.std.proofs.Common.{IfOk, arith, ap, ◌∙◌, ◌≡◌, length, take, sym, subst}
use Rattle.coord_world.specs.Facade.{Legal, World, fold}
use Rattle.coord_ledger.specs.Facade.{LedgerState, Log, pending, settled_world}
use Rattle.coord_ledger.proofs.follows.Kept.{fresh_next, front_after, legal_settled}
use Rattle.coord_ledger.proofs.ledger.Ledger.flown_world.Goals as goal

pub take_all-requires-clause-legal : goal.take_all-requires-clause-legal
take_all-requires-clause-legal g c = subst Legal (sym c.in_ok-next.ensures) (legal_settled _ _ _ _ _ _ _ c.self.invariant)

pub take_all-requires-clause-fresh : goal.take_all-requires-clause-fresh
take_all-requires-clause-fresh g c =
    let steps = c.args.steps.now in
    let P : LedgerState g.row.D.Denot → Type 0 = λ l. steps ≡ take (length steps) (pending l.log) in
    rw c.in_ok-next.ensures (fresh_next _ _ _ _ _ _ _ steps c.self.invariant (subst P (sym c.self.view_is) c.requires))

pub returns-then-steps-pending : goal.returns-then-steps-pending
returns-then-steps-pending g c =
    let log : Log = record { base = c.self.inside.base; trail = c.self.inside.trail.items; settled = c.self.inside.done; doubt = c.self.inside.doubt } in
    let steps = c.args.steps.now in
    let P : LedgerState g.row.D.Denot → Type 0 = λ l. steps ≡ take (length steps) (pending l.log) in
    let many = ap (λ (l : LedgerState g.row.D.Denot). length (pending l.log)) c.self.view_is in
    let all : length steps ≡ length (pending log) = omega (arith, c.if-steps-pending.true, c.pending.ensures, many) in
    let led = front_after log _ _ _ _ _ _ steps c.self.invariant (subst P (sym c.self.view_is) c.requires) all in
    let Q : World → Type 0 = λ w. IfOk c.copy.result (λ copy. copy ≡ w) in
    subst Q (led ∙ ap (λ (l : LedgerState g.row.D.Denot). fold (settled_world l.log) steps) c.self.view_is) c.copy.ensures
