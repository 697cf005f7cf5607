use Rattle.std.proofs.Common.{sym, ap, subst, ◌∙◌}
use Rattle.coord_world.specs.Facade.{IsFresh, World, next}
use Rattle.coord_store.proofs.Freshness.{fold-take, fresh_over_itself}
use Rattle.coord_store.proofs.steps.take_all.Goals as goal

pub apply-requires-clause-fresh : goal.apply-requires-clause-fresh
apply-requires-clause-fresh c =
    let s = c.step-item.result in
    let P : World → Type 0 = λ x. IsFresh x x s in
    subst P (sym c.loop-step.invariant.0) (fresh_over_itself c.args.steps.now c.args.world.now c.args.world.now c.loop-step.step-index s c.loop-step-test.true c.step-item.is c.requires.fresh)

pub loop-step-preserved : goal.loop-step-preserved
loop-step-preserved c =
    let s = c.step-item.result in (
      c.in_ok-apply.ensures.world ∙ ap (λ x. next x s) c.loop-step.invariant.0 ∙ sym (fold-take c.args.steps.now c.args.world.now c.loop-step.step-index s c.loop-step-test.true c.step-item.is),
      c.apply.ensures.legal,
    )
