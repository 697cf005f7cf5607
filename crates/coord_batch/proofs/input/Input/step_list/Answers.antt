use Rattle.std.proofs.lemmas.Result.{err_from_is_err_and}
use Rattle.coord_batch.specs.Steps.{step}
use Rattle.coord_batch.proofs.Loops.{one_more, cut_short, all_read}
use Rattle.coord_batch.proofs.input.Input.step_list.Goals as goal

pub returns-in_err-step : goal.returns-in_err-step
returns-in_err-step c =
    let p = err_from_is_err_and c.from_residual-in_err-step.result c.from_residual-in_err-step.ensures.1 in
    rw (p.1, p.2) (cut_short (λ _. step c.args.version) _ c.loop.list.items c.args.count c.loop.counter c.loop.self c.in_err-step.field-0.0 c.loop-test.true c.in_err-step.ensures c.loop.invariant)

pub loop-preserved : goal.loop-preserved
loop-preserved c = rw c.in_ok-extend_from_slice.ensures.items (one_more (λ _. step c.args.version) _ c.loop.list.items c.args.count c.loop.counter c.loop.self c.in_ok-step.field-0 c.step.new.self c.loop-test.true c.in_ok-step.ensures c.loop.invariant)

pub returns : goal.returns
returns c = all_read (λ _. step c.args.version) _ c.loop.list.items c.args.count c.loop.counter c.loop.self c.loop-test.false c.loop.invariant
