use Rattle.std.proofs.Common.{rules}
use Rattle.serde_json.proofs.OnLiterals.{serde_json_on_literals}
use Rattle.coord_admin.proofs.fault.LineFault.line.Goals as goal

pub returns-in-Unfinished : goal.returns-in-Unfinished
unfolding serde_json_on_literals
returns-in-Unfinished c = search rules

pub returns-in-TooLong : goal.returns-in-TooLong
unfolding serde_json_on_literals
returns-in-TooLong c = search rules

pub returns-in-BadText : goal.returns-in-BadText
unfolding serde_json_on_literals
returns-in-BadText c = search rules

pub returns-in-BadJson : goal.returns-in-BadJson
unfolding serde_json_on_literals
returns-in-BadJson c = search rules

pub returns-in-BadRequest : goal.returns-in-BadRequest
unfolding serde_json_on_literals
returns-in-BadRequest c = search rules

pub returns-in-UnknownOp : goal.returns-in-UnknownOp
unfolding serde_json_on_literals
returns-in-UnknownOp c = search rules

pub returns-in-OutOfMemory : goal.returns-in-OutOfMemory
unfolding serde_json_on_literals
returns-in-OutOfMemory c = search rules
