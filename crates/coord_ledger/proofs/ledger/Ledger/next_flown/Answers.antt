use Rattle.std.proofs.Common.{◌≡◌, ℕ, List, length, take, drop, min, ap, ◌∙◌, arith}
use Rattle.std.proofs.lemmas.List.{length-drop, take_min}
use Rattle.coord_types.specs.declared.limits.TheConstants.{MAX_BATCH_STEPS}
use Rattle.coord_ledger.specs.Facade.{LedgerState, Log, Step, pending}
use Rattle.coord_ledger.proofs.ledger.Ledger.next_flown.Goals as goal

-- the steps that go out are the first of those that are pending
module _ (log : Log) (n : ℕ) (items trail : List Step) (size : n ≡ min MAX_BATCH_STEPS (length (pending log))) (there : trail ≡ log.trail) (is : items ≡ take n (drop log.settled trail)) where
  sent : items ≡ take MAX_BATCH_STEPS (pending log)
  sent = is ∙ ap (λ l. take n (drop log.settled l)) there ∙ ap (λ m. take m (pending log)) size ∙ take_min MAX_BATCH_STEPS (pending log)

pub returns-in-Ok-clause-steps : goal.returns-in-Ok-clause-steps
returns-in-Ok-clause-steps g c =
    let log : Log = record { base = c.self.inside.base; trail = c.self.inside.trail.items; settled = c.self.inside.done; doubt = c.self.inside.doubt } in
    let size : c.min-size.result ≡ min MAX_BATCH_STEPS (length (pending log)) = omega (arith, length-drop c.self.inside.done c.self.inside.trail.items) in
    sent log c.min-size.result c.in_ok-steps.steps.items c.deref.result.now size c.deref.ensures.value (c.in_ok-steps.ensures.items ∙ c.next_steps.ensures) ∙ ap (λ (l : LedgerState g.row.D.Denot). take MAX_BATCH_STEPS (pending l.log)) c.self.view_is
