-- The reply lines. Each is JSON without spaces, with its members in alphabetical order.
use Rattle.std.specs.Prelude.{ℕ, List, [], ◌∷◌, ◌++◌, map, codes, Option, Some, None, Result, Ok, Err, String, string_bytes}
use Rattle.std.specs.declared.alloc.Global.{Global}
use Rattle.std.specs.List.{flat_map}
use Rattle.serde_json.specs.Data.{Data, number, unsigned, string, array, object, no_members, member}
use Rattle.serde_json.specs.View.{items_of}
use Rattle.serde_json.specs.Written.{compact_text}
use Rattle.coord_types.specs.Names.{kind_name, mode_name, refusal_name, refusal_number}
use Rattle.coord_types.specs.declared.steps.Reply.{Reply}
use Rattle.coord_types.specs.declared.refusals.Refusal.{Refusal}
use Rattle.coord_types.specs.declared.refusals.Refusal.TheVariants as refusal
use Rattle.coord_admin.specs.declared.answer.Answer.{Answer}
use Rattle.coord_admin.specs.declared.answer.Answer.TheVariants.{Replied, Refused, Shown, Resent, Closed, Faulted}
use Rattle.coord_admin.specs.declared.fault.LineFault.TheVariants.{OutOfMemory}
use Rattle.coord_view.specs.declared.view.NodeView.{NodeView}
use Rattle.coord_view.specs.declared.view.LinkView.{LinkView}
use Rattle.coord_admin.specs.declared.writing.ReplyLine.{ReplyLine}
use Rattle.coord_admin.specs.declared.writing.ReplyLine.TheVariants as ready
use Rattle.coord_admin.specs.Faults.{line_fault_name}
use Rattle.coord_view.specs.Shown as shown

-- the answer for a refusal by the desk; if the desk ran out of memory, the answer is a fault of the
-- line
abbrev pub refused : Refusal → Answer
refused refusal.OutOfMemory = Faulted OutOfMemory
refused r = Refused r

abbrev pub order_answer : Result Reply Refusal → Answer
order_answer (Ok r) = Replied r
order_answer (Err r) = refused r

abbrev pub show_answer : Result shown.Shown Refusal → Answer
show_answer (Ok v) = Shown v
show_answer (Err r) = refused r

abbrev pub resend_answer : Result ℕ Refusal → Answer
resend_answer (Ok n) = Resent n
resend_answer (Err r) = refused r

abbrev pub num : ℕ → Data
num n = number (unsigned n)

abbrev pub parent_number : Option ℕ → ℕ
parent_number None = 0
parent_number (Some u) = u

-- the row of a node: id, group, mode, parent (0 for none), epoch, confirmed
abbrev pub node_row : NodeView → Data
node_row v = array (items_of (num v.node ∷ num v.group ∷ string (mode_name v.mode) ∷ num (parent_number v.parent) ∷ num v.epoch ∷ num v.confirmed ∷ []))

abbrev pub link_row : LinkView → Data
link_row l = array (items_of (num l.a ∷ num l.b ∷ num l.inc ∷ []))

abbrev pub rows : {X : Type 0} → (X → Data) → List X → Data
rows row xs = array (items_of (map row xs))

abbrev pub reply : Answer → Data
reply (Replied r) = object (member (codes "kind") (string (kind_name r.kind)) (member (codes "step") (num r.step) no_members))
reply (Refused r) = object (member (codes "name") (string (refusal_name r)) (member (codes "refused") (num (refusal_number r)) no_members))
reply (Shown v) =
    object
    (member (codes "accepted") (num v.accepted)
    (member (codes "links") (rows link_row v.links)
    (member (codes "nodes") (rows node_row v.nodes)
    (member (codes "settled") (num v.settled) no_members))))
reply (Resent n) = object (member (codes "count") (num n) (member (codes "kind") (string (codes "resent")) no_members))
reply Closed = object (member (codes "kind") (string (codes "closed")) no_members)
reply (Faulted f) = object (member (codes "fault") (string (line_fault_name f)) no_members)

abbrev pub reply_line : Answer → List ℕ
reply_line a = compact_text (reply a) ++ codes "\n"

abbrev pub reply_lines : List Answer → List ℕ
reply_lines answers = flat_map reply_line answers

-- the bytes of a finished reply line
abbrev pub line_bytes : ReplyLine → List ℕ
line_bytes (ready.Fixed text) = text.now
line_bytes (ready.Made text) = string_bytes text

-- the bytes of a line or, if the line could not be made, of the line that reports out of memory
abbrev pub made_bytes : {E : Type 0} → Result (String Global) E → List ℕ
made_bytes (Ok text) = string_bytes text
made_bytes (Err e) = reply_line (Faulted OutOfMemory)
