use Rattle.std.proofs.Common.{take, sym, subst, arith}
use Rattle.std.specs.List.{AllByRecursion}
use Rattle.std.proofs.lemmas.List.{take_all}
use Rattle.coord_world.specs.protocol.Ranges.{StepInRange}
use Rattle.coord_store.proofs.Freshness.{all-push, take-push}
use Rattle.coord_store.proofs.steps.lemma_in_ranges.Goals as goal

pub loop-step-preserved : goal.loop-step-preserved
loop-step-preserved c =
    let s = c.step-item.result in
    let steps = c.args.steps.now in
    let i = c.loop-step.step-index in
    subst (AllByRecursion StepInRange) (sym (take-push steps i s c.loop-step-test.true c.step-item.is)) (all-push StepInRange (take i steps) s c.loop-step.invariant c.lemma_in_range.ensures)

pub returns : goal.returns
returns c =
    let steps = c.args.steps.now in
    subst (AllByRecursion StepInRange) (take_all c.loop-step.step-index steps (omega (arith, c.loop-step-test.false))) c.loop-step.invariant
