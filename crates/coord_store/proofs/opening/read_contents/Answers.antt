use Rattle.std.proofs.Common.{◌≡◌, Err, ⊎_elim, inl, inr, rules, ap, subst}
use Rattle.coord_journal.specs.Contents.{bodies}
use Rattle.coord_store.specs.Facade.{RefusesReplay, Replays}
use Rattle.coord_store.proofs.opening.read_contents.Goals as goal

pub returns-in-Ok-clause-gives : goal.returns-in-Ok-clause-gives
returns-in-Ok-clause-gives c = record {
  start = c.in_ok-start.start;
  snapshot = c.in_ok-start.ensures.spelled;
  legal = c.in_ok-start.ensures.legal;
  replays = subst (λ l. Replays c.in_ok-start.start l c.in-Ok.world) (ap bodies c.deref.ensures.value) c.in-Ok.ensures.led;
}

pub returns-in_err-start-clause-refused : goal.returns-in_err-start-clause-refused
returns-in_err-start-clause-refused c =
    let is : c.from_residual.result ≡ Err c.in_err-start.field-0.0 = search rules in
    rw is (⊎_elim (λ e. inl e) (λ r. inr (inl r)) c.in_err-start.ensures.refused)

pub returns-in-Err-clause-refused : goal.returns-in-Err-clause-refused
returns-in-Err-clause-refused c =
    ⊎_elim (λ e. inl e)
    (λ r. inr (inr (c.in_ok-start.start, c.in_ok-start.ensures.spelled, c.in_ok-start.ensures.legal, subst (λ l. RefusesReplay c.in_ok-start.start l c.in-Err.fault) (ap bodies c.deref.ensures.value) r)))
    c.in-Err.ensures.refused
