use Rattle.std.proofs.Common.{ap, ap₂, codes, refl, true, ◌∙◌, ◌≡◌}
use Rattle.std.proofs.lemmas.Result.{IfOk-weaker}
use Rattle.clap.specs.Simple.{app_of_fields, on_top}
use Rattle.clap.specs.Words.{App, Shape, app_of, new_app, with_subcommand}
use Rattle.coord_commands.proofs.arguments.program.Goals as goal

pub returns : goal.returns
returns c =
    let top : App → Shape = λ a. a.top in
    let start_is : app_of c.subcommand_required.result ≡ on_top (λ s. record s { subcommand_required = true }) (new_app (codes "resetd")) =
    ap app_of_fields c.subcommand_required.ensures ∙ ap (on_top (λ s. record s { subcommand_required = true })) c.new.ensures.app in
    let one = c.in_ok-with_drill.ensures.shape c.new-2.ensures.local ∙ ap₂ with_subcommand start_is (ap top c.new-2.ensures.app) in
    let two = c.in_ok-with_init.ensures ∙ ap₂ with_subcommand one refl in
    let three = c.in_ok-with_check.ensures ∙ ap₂ with_subcommand two refl in
    let four = c.in_ok-with_show.ensures ∙ ap₂ with_subcommand three refl in
    let five = c.in_ok-with_serve.ensures ∙ ap₂ with_subcommand four refl in
    IfOk-weaker c.add_of_argument-3.result _ _ (λ program is. is ∙ ap₂ with_subcommand five refl) c.add_of_argument-3.ensures
