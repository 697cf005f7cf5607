use Rattle.std.proofs.Common.{◌≡◌, ◌∙◌, ap, ap₂, codes, false, refl, rules, true}
use Rattle.std.specs.Prelude.{drop}
use Rattle.std.proofs.lemmas.Result.{IfOk-weaker}
use Rattle.clap.specs.Words.{App, rule_of, with_rule}
use Rattle.resetd_proxy.specs.Arguments.{option_rule, repeated_rule, serve_options, with_options}
use Rattle.resetd_proxy.proofs.arguments.serve_command.Goals as goal

pub returns : goal.returns
returns c =
    let server_is : rule_of c.required-server.result ≡ record (repeated_rule (codes "server")) { required = true } = search rules in
    let server_local : c.required-server.result.global ≡ false = search rules in
    let policy_is : rule_of c.required-policy.result ≡ record (option_rule (codes "policy")) { required = true } = search rules in
    let policy_local : c.required-policy.result.global ≡ false = search rules in
    let server = c.in_ok-with_server.ensures.shape server_local ∙ ap₂ with_rule c.new.ensures.app server_is in
    let listen = c.in_ok-with_listen.ensures.shape c.repeated-2.ensures.local ∙ ap₂ with_rule server c.repeated-2.ensures.rule in
    let passed = c.in_ok-with_passed.ensures ∙ ap₂ with_rule listen refl in
    let policy = c.in_ok-with_policy.ensures.shape policy_local ∙ ap₂ with_rule passed policy_is in
    IfOk-weaker c.with_optional.result _ _ (λ serve is. is ∙ ap (λ (app : App). with_options app (drop 4 serve_options)) policy) c.with_optional.ensures
