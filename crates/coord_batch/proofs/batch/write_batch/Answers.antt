use Rattle.std.proofs.Common.{length, take, arith}
use Rattle.std.proofs.lemmas.List.{length-take}
use Rattle.coord_batch.proofs.Lengths.{few_bytes}
use Rattle.coord_batch.proofs.batch.write_batch.Goals as goal

pub returns-clause-len : goal.returns-clause-len
returns-clause-len c =
    let taken = take c.loop-step.step-index c.args.steps.now in
    few_bytes c.args.version c.args.first (length c.args.steps.now) taken c.loop-step.out.items (omega (arith, length-take c.loop-step.step-index c.args.steps.now, c.requires.count.1)) c.loop-step.invariant.1 c.loop-step.invariant.0
