-- The lines that a drill prints, each with a line feed. coord_view has the lines of a view.
use Rattle.std.specs.Prelude.{ℕ, ◌==◌, List, ◌++◌, codes, decimal, Option, Some, None, if◌then◌else◌}
use Rattle.std.specs.List.{flat_map}
use Rattle.coord_types.specs.Names.{kind_name, msg_name, refusal_text}
use Rattle.coord_types.specs.declared.messages.Msg.{Msg}
use Rattle.coord_types.specs.declared.messages.Msg.TheVariants.{Abort}
use Rattle.coord_types.specs.declared.steps.Reply.{Reply}
use Rattle.coord_types.specs.declared.refusals.Refusal.{Refusal}
use Rattle.coord_types.specs.declared.outputs.Output.{Output}
use Rattle.coord_types.specs.declared.outputs.Output.TheVariants.{Receipted, Signalled, Sent}
use Rattle.coord_check.specs.Names.{violation_text}
use Rattle.coord_check.specs.declared.violation.Violation.{Violation}
use Rattle.coord_store.specs.Faults.{commit_name, commit_number}
use Rattle.coord_store.specs.declared.faults.CommitFault.{CommitFault}
use Rattle.coord_world.specs.protocol.Outputs.{StepOutcome}

abbrev pub bad_line : ℕ → List ℕ
bad_line n = codes "bad line " ++ (decimal n ++ codes "\n")

abbrev pub reply_line : Reply → List ℕ
reply_line r = kind_name r.kind ++ (codes " " ++ (decimal r.step ++ codes "\n"))

abbrev pub pending_line : ℕ → List ℕ
pending_line step = codes "pending " ++ (decimal step ++ codes "\n")

abbrev pub refusal_line : Refusal → List ℕ
refusal_line r = codes "no " ++ (refusal_text r ++ codes "\n")

abbrev pub idle_line : List ℕ
idle_line = codes "idle\n"

-- the text of a message; in version 2 an Abort has its distance
abbrev pub message_text : ℕ → Msg → List ℕ
message_text version (Abort k) = if version == 2 then codes "abort " ++ decimal k else codes "abort"
message_text version m = msg_name m

abbrev pub output_line : ℕ → Output → List ℕ
output_line version (Receipted p) = codes "receipt " ++ (decimal p.from ++ (codes " " ++ (decimal p.to ++ (codes " " ++ (decimal p.number ++ codes "\n")))))
output_line version (Signalled u e) = codes "signal " ++ (decimal u ++ (codes " " ++ (decimal e ++ codes "\n")))
output_line version (Sent p) = codes "data " ++ (decimal p.from ++ (codes " " ++ (decimal p.to ++ (codes " " ++ (decimal p.number ++ (codes " " ++ (message_text version p.msg ++ codes "\n")))))))

abbrev pub output_lines : ℕ → List Output → List ℕ
output_lines version os = flat_map (output_line version) os

-- the lines of settled steps, in order: the reply to each step, then the outputs of that step
abbrev pub settled_lines : ℕ → List StepOutcome → List ℕ
settled_lines version outcomes = flat_map (λ o. reply_line o.reply ++ output_lines version o.outputs) outcomes

abbrev pub commit_line : CommitFault → List ℕ
commit_line fault = codes "commit " ++ (decimal (commit_number fault) ++ (codes " " ++ (commit_name fault ++ codes "\n")))

abbrev pub count_line : ℕ → List ℕ
count_line settled = codes "settled " ++ (decimal settled ++ codes "\n")

abbrev pub opened_line : ℕ → List ℕ
opened_line count = codes "opened " ++ (decimal count ++ codes "\n")

abbrev pub fault_line : Option Violation → List ℕ
fault_line None = codes "legal\n"
fault_line (Some v) = codes "violated " ++ (violation_text v ++ codes "\n")
