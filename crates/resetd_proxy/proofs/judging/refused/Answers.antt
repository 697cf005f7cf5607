use Rattle.std.proofs.Common.{◌≡◌, rules}
use Rattle.serde_json.specs.View.{view}
use Rattle.serde_json.specs.declared.value.Value.{the_lemmas}
use Rattle.serde_json.proofs.OnLiterals.{serde_json_on_literals}
use Rattle.coord_admin.specs.Replies.{reply}
use Rattle.coord_admin.specs.declared.answer.Answer.TheVariants as answer
use Rattle.resetd_proxy.proofs.judging.refused.Goals as goal

pub returns : goal.returns
unfolding serde_json_on_literals
returns c =
    let built : view c.in_ok-json.field-0 ≡ reply (answer.Refused c.args.refusal) = search (rules, the_lemmas) in
    search rules
