use Rattle.std.proofs.Common.{ap, ◌∙◌}
use Rattle.std.proofs.lemmas.Result.{IfOk-weaker}
use Rattle.clap.specs.Words.{app_of, with_rule}
use Rattle.resetd_proxy.proofs.arguments.with_option.Goals as goal

pub returns : goal.returns
returns c = IfOk-weaker c.arg.result _ _ (λ more adds. adds.shape c.option.ensures.local ∙ ap (with_rule (app_of c.args.command)) c.option.ensures.rule) c.arg.ensures
