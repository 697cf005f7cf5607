use Rattle.std.proofs.Common.{◌≡◌, ◌&&◌, ◌∙◌, Bool, ap, ap₂, codes, false, not, refl, rules, sym, true, ◌||◌}
use Rattle.std.proofs.lemmas.Bool.{false≢true}
use Rattle.std.proofs.lemmas.Result.{IfOk-weaker}
use Rattle.clap.specs.Simple.{app_of_fields, on_top}
use Rattle.clap.specs.Words.{App, Shape, app_of, new_app, rule_of, with_rule, with_subcommand}
use Rattle.resetd_proxy.specs.Arguments.{file_rule}
use Rattle.resetd_proxy.proofs.arguments.program.Goals as goal

-- a plain command has no global argument
third_fails : (a b c d : Bool) → (a && (not b && (not c && d))) ≡ true → c ≡ false
third_fails a b false d is = refl
third_fails false b true d is = absurd (false≢true is)
third_fails true true true d is = absurd (false≢true is)
third_fails true false true d is = absurd (false≢true is)

pub returns : goal.returns
returns c =
    let top : App → Shape = λ a. a.top in
    let file_is : rule_of c.action-file.result ≡ file_rule = search rules in
    let file_local : c.action-file.result.global ≡ false = search rules in
    let check_is = c.in_ok-check.ensures.shape file_local ∙ ap₂ with_rule c.new-2.ensures.app file_is in
    let check_local = c.in_ok-check.ensures.globals ∙ ap₂ ◌||◌ c.new-2.ensures.local file_local in
    let serve_local = third_fails _ _ _ _ (ap (λ (a : App). a.top.is_plain) c.in_ok-serve.ensures) in
    let start_is : app_of c.subcommand_required.result ≡ on_top (λ s. record s { subcommand_required = true }) (new_app (codes "resetd-proxy")) =
    ap app_of_fields c.subcommand_required.ensures ∙ ap (on_top (λ s. record s { subcommand_required = true })) c.new-3.ensures.app in
    let one = c.in_ok-with_serve.ensures.shape serve_local ∙ ap₂ with_subcommand start_is (ap top c.in_ok-serve.ensures) in
    IfOk-weaker c.subcommand-2.result _ _ (λ program adds. adds.shape check_local ∙ ap₂ with_subcommand one (ap top check_is)) c.subcommand-2.ensures
