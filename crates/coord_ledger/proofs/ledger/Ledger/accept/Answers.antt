use Rattle.std.proofs.Common.{◌≡◌, ◌++◌, ◌∷◌, [], Ok, sym, ap, ◌∙◌, subst}
use Rattle.coord_ledger.specs.Facade.{Fresh, LedgerState, verdict}
use Rattle.coord_ledger.specs.code.Holding.{listed}
use Rattle.coord_ledger.proofs.follows.Granted.{listed-push}
use Rattle.coord_ledger.proofs.follows.Kept.{fresh_front, legal_front, took_step}
use Rattle.coord_ledger.proofs.ledger.Ledger.accept.Goals as goal

pub apply-requires-clause-legal : goal.apply-requires-clause-legal
apply-requires-clause-legal g c = legal_front _ _ _ _ _ _ _ c.self.invariant

pub apply-requires-clause-fresh : goal.apply-requires-clause-fresh
apply-requires-clause-fresh g c =
    let P : LedgerState g.row.D.Denot → Type 0 = λ l. verdict l.log c.args.step ≡ Ok (Fresh c.args.kind) in
    fresh_front _ _ _ _ _ _ _ c.args.step c.args.kind c.self.invariant (subst P (sym c.self.view_is) c.requires)

pub invariant_of-self-2 : goal.invariant_of-self-2
invariant_of-self-2 g c =
    let P : LedgerState g.row.D.Denot → Type 0 = λ l. verdict l.log c.args.step ≡ Ok (Fresh c.args.kind) in
    let trail = c.push_reserved.ensures.items ∙ ap (λ l. l ++ c.args.step ∷ []) (c.reserve.ensures.items) in
    let kinds = c.push_reserved-2.ensures.items ∙ ap (λ l. l ++ c.args.kind ∷ []) (c.reserve-2.ensures.items) in
    let given = ap listed (c.push_back_reserved.ensures.items ∙ ap (λ l. l ++ c.in_ok-outcome.outcome.outputs ∷ []) c.reserve-3.ensures.items) ∙ listed-push c.self.inside.given.items c.in_ok-outcome.outcome.outputs ∙ ap (λ l. listed c.self.inside.given.items ++ l ∷ []) c.in_ok-outcome.ensures.outputs in
    took_step _ _ _ _ _ _ _ _ _ _ c.args.step c.args.kind _ _ _ _ c.self.invariant (subst P (sym c.self.view_is) c.requires) c.lemma_in_range.ensures trail kinds given c.in_ok-outcome.ensures.world
