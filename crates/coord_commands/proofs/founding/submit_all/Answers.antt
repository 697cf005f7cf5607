use Rattle.std.proofs.Common.{◌≡◌, ◌∙◌, ◌+◌, ◌⊎◌, inl, inr, refl, sym, ap, subst, Err, rules, take, length, arith}
use Rattle.std.proofs.lemmas.List.{take_all}
use Rattle.coord_types.specs.declared.steps.Step.TheVariants.{Order}
use Rattle.std.specs.Result.{IfErr}
use Rattle.coord_types.specs.declared.refusals.Refusal.{Refusal}
use Rattle.coord_types.specs.declared.refusals.Refusal.TheVariants.{PendingFull}
use Rattle.coord_commands.specs.declared.fault.Fault.{Fault}
use Rattle.coord_commands.specs.declared.fault.Fault.TheVariants.{OutOfMemory, Refused}
use Rattle.coord_world.specs.Facade.{World, accepts, no_world}
use Rattle.coord_commands.specs.Founding.{RefusesToBegin, founder, numbered}
use Rattle.coord_commands.proofs.Submitted.{refused_next, submitted_push}
use Rattle.coord_commands.proofs.founding.submit_all.Goals as goal

pub returns-in_err-submit-clause-refused : goal.returns-in_err-submit-clause-refused
returns-in_err-submit-clause-refused c =
    let f = c.loop-command.founding in
    let x = c.command-item.result in
    let commands = c.args.commands.now in
    let under_way = c.loop-command.invariant.1 in
    let P : Fault → Type 0 = λ fault. (fault ≡ OutOfMemory) ⊎ ((reason : Refusal) × (fault ≡ Refused reason) × (accepts f.world (no_world 2) (Order founder (length f.steps.items + 1) x) ≡ Err reason)) in
    let Q : Fault → Type 0 = λ fault. (fault ≡ OutOfMemory) ⊎ ((reason : Refusal) × (fault ≡ Refused reason) × RefusesToBegin (numbered 1 commands) reason) in
    let refused : P c.in_err-submit.field-0.0 = subst (λ r. IfErr r P) c.in_err-submit.was c.submit.ensures.refused in
    let answered : Q c.in_err-submit.field-0.0 = elim refused [
      | inl memory ↦ inl memory
      | inr why ↦ inr (
        why.0,
        why.1,
        inl (refused_next commands c.loop-command.command-index x f.steps.items c.loop-command-test.true c.command-item.is c.loop-command.invariant.0 why.0 under_way.fresh
            (subst (λ (w : World). accepts w (no_world 2) (Order founder (length f.steps.items + 1) x) ≡ Err why.0) under_way.world why.2)),
      )
    ] in
    let returned : c.from_residual.result ≡ Err c.in_err-submit.field-0.0 = search rules in
    subst (λ r. IfErr r Q) (sym returned) answered

pub loop-command-preserved : goal.loop-command-preserved
loop-command-preserved c = (
  c.in_ok-submit.ensures.taken
      ∙ submitted_push c.args.commands.now c.loop-command.command-index c.command-item.result c.loop-command.founding.steps.items c.loop-command-test.true c.command-item.is c.loop-command.invariant.0,
  c.in_ok-submit.ensures.under_way,
)

pub returns-then-len-gt-MAX_BATCH_STEPS-clause-refused :
    goal.returns-then-len-gt-MAX_BATCH_STEPS-clause-refused
returns-then-len-gt-MAX_BATCH_STEPS-clause-refused c =
    let i = c.loop-command.command-index in
    let commands = c.args.commands.now in
    let all : take i commands ≡ commands = take_all i commands (omega (arith, c.loop-command-test.false)) in
    let size : length c.loop-command.founding.steps.items ≡ c.len.result = search rules in
    let steps : length c.loop-command.founding.steps.items ≡ length (numbered 1 commands) = ap length (c.loop-command.invariant.0 ∙ ap (numbered 1) all) in
    inr (PendingFull, refl, inr (refl, omega (arith, size, steps, c.if-len-gt-MAX_BATCH_STEPS.true)))
