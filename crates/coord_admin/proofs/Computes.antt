-- Reply lines, requests and replies computed through the definitions.
use Rattle.std.proofs.Common.{refl, arith}
use Rattle.serde_json.proofs.OnLiterals.{serde_json_on_literals}
use Rattle.std.specs.Str.{is_utf8, chars}
use Rattle.std.specs.Fmt.{digits}
use Rattle.coord_admin.specs.Requests.{asked_in}
use Rattle.coord_admin.specs.WorkedLines.{WorkedRequests, WorkedReplies}

pub requests_compute : WorkedRequests
unfolding serde_json_on_literals asked_in is_utf8 chars
requests_compute = grind arith

pub replies_compute : WorkedReplies
unfolding serde_json_on_literals digits
replies_compute = record { replied = refl; refused = refl; shown = refl; resent = refl; closed = refl; unfinished = refl }
