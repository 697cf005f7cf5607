use Rattle.std.proofs.Common.{◌≡◌, ◌∙◌, ap, arith, length, min, take}
use Rattle.std.proofs.lemmas.List.{take_min}
use Rattle.coord_types.specs.declared.limits.TheConstants.{MAX_BATCH_STEPS}
use Rattle.coord_engine.proofs.guarded.pacing.next_steps.Goals as goal

pub returns : goal.returns
returns c =
    let size : c.min.result ≡ min MAX_BATCH_STEPS (length c.args.steps.now) = omega (arith, c.min.ensures) in
    ap (λ n. take n c.args.steps.now) size ∙ take_min MAX_BATCH_STEPS c.args.steps.now
