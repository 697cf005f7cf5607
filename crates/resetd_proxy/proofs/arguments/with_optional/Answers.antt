use Rattle.std.proofs.Common.{ap₂, refl, ◌∙◌}
use Rattle.std.proofs.lemmas.Result.{IfOk-weaker}
use Rattle.clap.specs.Words.{with_rule}
use Rattle.resetd_proxy.proofs.arguments.with_optional.Goals as goal

pub returns : goal.returns
returns c =
    let signals = c.in_ok-with_signals.ensures ∙ ap₂ with_rule c.in_ok-with_certificates.ensures refl in
    let audit = c.in_ok-with_audit.ensures ∙ ap₂ with_rule signals refl in
    let metrics = c.in_ok-with_metrics.ensures ∙ ap₂ with_rule audit refl in
    let timeout = c.in_ok-with_patience.ensures ∙ ap₂ with_rule metrics refl in
    let stuck = c.in_ok-with_stuck.ensures ∙ ap₂ with_rule timeout refl in
    let silent = c.in_ok-with_silent.ensures ∙ ap₂ with_rule stuck refl in
    IfOk-weaker c.with_option-8.result _ _ (λ more is. is ∙ ap₂ with_rule silent refl) c.with_option-8.ensures
