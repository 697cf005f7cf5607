use Rattle.std.proofs.Common.{ap, ◌++◌, ◌∙◌, codes}
use Rattle.std.proofs.lemmas.Result.{IfOk-weaker}
use Rattle.serde_json.specs.Written.{compact_text, has_float}
use Rattle.coord_admin.proofs.NoFloats.{no_float-shown}
use Rattle.coord_admin.proofs.replies.shown.Goals as goal

pub line_of-requires : goal.line_of-requires
line_of-requires c = ap has_float c.in_ok-shown_value.ensures ∙ no_float-shown c.args.world.now

pub returns : goal.returns
returns c = IfOk-weaker c.line_of.result _ _ (λ line e. e ∙ ap (λ v. compact_text v ++ codes "\n") c.in_ok-shown_value.ensures) c.line_of.ensures
