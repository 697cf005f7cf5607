use Rattle.std.proofs.Common.{rules, ap, ap₂, ◌||◌, ◌∙◌}
use Rattle.std.proofs.lemmas.Result.{IfOk-weaker}
use Rattle.clap.specs.Words.{App, Shape, app_of, with_rule, with_subcommand}
use Rattle.coord_commands.proofs.arguments.add_of_argument.Goals as goal

pub returns : goal.returns
returns c =
    let top : App → Shape = λ a. a.top in
    let is = c.in_ok-command.ensures.shape (search rules) ∙ ap₂ with_rule c.new.ensures.app c.argument_named.ensures.rule in
    let local = c.in_ok-command.ensures.globals ∙ ap₂ ◌||◌ c.new.ensures.local c.argument_named.ensures.local in
    IfOk-weaker c.subcommand.result _ _ (λ more adds. adds.shape local ∙ ap (λ (s : Shape). with_subcommand (app_of c.args.program) s) (ap top is)) c.subcommand.ensures
