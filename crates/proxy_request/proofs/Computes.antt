-- The worked lines and the answers, computed through the definitions.
use Rattle.std.proofs.Common.{refl, arith}
use Rattle.serde_json.proofs.OnLiterals.{serde_json_on_literals}
use Rattle.std.specs.Str.{is_utf8, chars}
use Rattle.std.specs.Fmt.{digits}
use Rattle.proxy_request.specs.Answers.{AnswersAreClassified}
use Rattle.proxy_request.specs.Requests.{asked_in}
use Rattle.proxy_request.specs.WorkedLines.{WorkedLines}

pub lines_compute : WorkedLines
unfolding serde_json_on_literals asked_in is_utf8 chars
lines_compute = grind arith

pub answers_are_classified : AnswersAreClassified
unfolding serde_json_on_literals digits
answers_are_classified = record {
  replies = (λ step. refl, (λ step. refl, (λ step. refl, (λ step. refl, tt))));
  refusals = grind arith;
}
