-- The action that a view requires of a node's member, and the texts to store in the member's files.
use Rattle.std.specs.Prelude.{◌≡◌, ◌<◌, ℕ, ◌==◌, ◌++◌, false, List, [], length, take, Option, Some, None, Result, Ok, Err, if◌then◌else◌, find, is_some, String, string_bytes}
use Rattle.std.specs.declared.alloc.Global.{Global}
use Rattle.std.specs.Option.{option_map}
use Rattle.std.specs.Str.{IsUtf8}
use Rattle.std.specs.declared.vec.Vec.{Vec}
use Rattle.coord_types.specs.declared.limits.TheConstants.{MAX_NODES}
use Rattle.coord_view.specs.Shown.{Shown}
use Rattle.coord_view.specs.declared.view.NodeView.{NodeView}
use Rattle.coord_member.specs.declared.view.Entry.{Entry}
use Rattle.coord_member.specs.declared.view.Row.{Row}
use Rattle.coord_member.specs.declared.rule.Change.{Change}
use Rattle.coord_member.specs.declared.rule.Change.TheVariants.{Keeps, Drops, NotesAlone, NotesFirst}
use Rattle.coord_member.specs.Rule.{change_of, due_of}
use Rattle.coord_look.specs.Reading.{IsReadOf, is_of}
use Rattle.coord_wire.specs.ShowLine.{from_1_to, shown_in}
use Rattle.coord_wire.specs.declared.answer_line.ReadFault.TheVariants.{NoAnswer}
use Rattle.coord_kept.specs.Lines.{AreLinesOf, known}
use Rattle.coord_kept.specs.Digest.{history_line, tag_of}
use Rattle.coord_kept.specs.History.{is_history, looked_up}
use Rattle.coord_kept.specs.Start.{seen, seen_in, start_text}
use Rattle.coord_kept.specs.declared.history.Found.{Found}
use Rattle.coord_kept.specs.declared.start.Start.{Start}
use Rattle.resetd_member.specs.declared.judge.Judgement.{Judgement}
use Rattle.resetd_member.specs.declared.judge.Sight.{Sight}
use Rattle.resetd_member.specs.declared.judge.Judged.{Judged}
use Rattle.resetd_member.specs.declared.status.Fault.{Fault}
use Rattle.resetd_member.specs.declared.status.Fault.TheVariants.{OutOfMemory, NoRoom, BadLine, NoNode, BadStart, BadHistory, BadNumber, InHand, NoText}
use Rattle.resetd_member.specs.Status.{due_number}

-- ---- the shown view

-- the line is an answer to `show`, and shows this row, party and number of settled steps to the node's member
pub record IsShown (show : List ℕ) (node : ℕ) (row : Row) (party : List Entry) (settled : ℕ) : Type 0 where
  pub view : Shown
  pub own : NodeView
  pub shown : shown_in show ≡ Ok view
  pub there : find (is_of node) view.nodes ≡ Some own
  pub read : IsReadOf view node own row party
  pub settled_is : settled ≡ view.settled

-- the line is an answer to `show`, but does not have the node
pub record IsAbsent (show : List ℕ) (node : ℕ) : Type 0 where
  pub view : Shown
  pub shown : shown_in show ≡ Ok view
  pub absent : find (is_of node) view.nodes ≡ None

-- why a line shows no view to the node's member
abbrev pub IsUnseen : List ℕ → ℕ → Fault → Type 0
IsUnseen show node OutOfMemory = Unit {0}
IsUnseen show node BadLine = shown_in show ≡ Err NoAnswer
IsUnseen show node NoNode = IsAbsent show node
IsUnseen show node NoRoom = ⊥
IsUnseen show node BadStart = ⊥
IsUnseen show node BadHistory = ⊥
IsUnseen show node BadNumber = ⊥
IsUnseen show node InHand = ⊥
IsUnseen show node NoText = ⊥

abbrev pub IsLooked : List ℕ → ℕ → Result Sight Fault → Type 0
IsLooked show node (Ok sight) = IsShown show node sight.look.row sight.look.party.items sight.settled
IsLooked show node (Err fault) = IsUnseen show node fault

-- ---- the due action

-- the epoch of the present work, if the start's file states the same epoch
abbrev pub begun_at : Option ℕ → Option ℕ → Option ℕ
begun_at None work = None
begun_at (Some epoch) None = None
begun_at (Some epoch) (Some e) = if epoch == e then Some epoch else None

-- the entries of the shown party that are also in the party with which the start first talked; None if the start has not talked
abbrev pub first_known : Start → List Entry → Option (List Entry)
first_known kept party = option_map (λ lines. known lines.items party) kept.party

-- the text that the start's file must have after this change; empty if the file does not change
abbrev pub start_after : ℕ → Option ℕ → List (String Global) → ℕ → Change → List ℕ
start_after node begun lines settled Keeps = []
start_after node begun lines settled Drops = start_text node None None None
start_after node begun lines settled NotesAlone = start_text node begun (Some lines) (Some settled)
start_after node begun lines settled NotesFirst = start_text node begun (Some lines) (Some settled)

-- the line to add to the history with this change, or an empty line; `line` is the line of the shown party
abbrev pub line_of_change : List ℕ → Change → List ℕ
line_of_change line Keeps = []
line_of_change line Drops = []
line_of_change line NotesAlone = []
line_of_change line NotesFirst = line

-- the judgement for this view, given the stored start and the result of looking up the shown party in the history
pub record IsDueBy (node : ℕ) (row : Row) (party : List Entry) (lines : List (String Global)) (settled : ℕ) (shown_line : List ℕ) (kept : Start) (found : Found) (work : Option ℕ) (j : Judgement) : Type 0 where
  pub due : j.due ≡ due_of (begun_at kept.begun work) (first_known kept party) found.has row party
  pub epoch : j.epoch ≡ row.epoch
  pub start : string_bytes j.start ≡ start_after node (begun_at kept.begun work) lines settled (change_of j.due (is_some kept.party) party)
  pub line : string_bytes j.line ≡ line_of_change shown_line (change_of j.due (is_some kept.party) party)
  pub size : j.history_size ≡ found.size

-- the judgement for this view, given the texts of both files
pub record IsDueOf (node : ℕ) (row : Row) (party : List Entry) (lines : List (String Global)) (settled : ℕ) (file history : List ℕ) (work : Option ℕ) (j : Judgement) : Type 0 where
  pub kept : Start
  pub found : Found
  pub kept_is : seen_in node file ≡ Some (seen kept)
  pub found_is : looked_up history (history_line lines) ≡ Some found
  pub is : IsDueBy node row party lines settled (history_line lines) kept found work j

-- why a file cannot be read
abbrev pub IsUnread : ℕ → List ℕ → List ℕ → Fault → Type 0
IsUnread node file history OutOfMemory = Unit {0}
IsUnread node file history BadStart = seen_in node file ≡ None
IsUnread node file history BadHistory = is_history history ≡ false
IsUnread node file history BadLine = ⊥
IsUnread node file history NoNode = ⊥
IsUnread node file history NoRoom = ⊥
IsUnread node file history BadNumber = ⊥
IsUnread node file history InHand = ⊥
IsUnread node file history NoText = ⊥

abbrev pub IsJudgedWith : ℕ → Row → List Entry → List (String Global) → ℕ → List ℕ → List ℕ → Option ℕ → Result Judgement Fault → Type 0
IsJudgedWith node row party lines settled file history work (Ok j) = IsDueOf node row party lines settled file history work j
IsJudgedWith node row party lines settled file history work (Err fault) = IsUnread node file history fault

abbrev pub IsRead : ℕ → List ℕ → Result Start Fault → Type 0
IsRead node file (Ok kept) = seen_in node file ≡ Some (seen kept)
IsRead node file (Err OutOfMemory) = Unit {0}
IsRead node file (Err BadStart) = seen_in node file ≡ None
IsRead node file (Err _) = ⊥

pub record IsJudgement (show : List ℕ) (node : ℕ) (file history : List ℕ) (work : Option ℕ) (j : Judgement) : Type 0 where
  pub row : Row
  pub party : List Entry
  pub lines : List (String Global)
  pub settled : ℕ
  pub shown : IsShown show node row party settled
  pub lines_are : AreLinesOf party lines
  pub is : IsDueOf node row party lines settled file history work j

-- why there is no judgement
abbrev pub IsUnjudged : List ℕ → ℕ → List ℕ → List ℕ → Fault → Type 0
IsUnjudged show node file history OutOfMemory = Unit {0}
IsUnjudged show node file history BadLine = shown_in show ≡ Err NoAnswer
IsUnjudged show node file history NoNode = IsAbsent show node
IsUnjudged show node file history BadStart = seen_in node file ≡ None
IsUnjudged show node file history BadHistory = is_history history ≡ false
IsUnjudged show node file history NoRoom = ⊥
IsUnjudged show node file history BadNumber = from_1_to MAX_NODES node ≡ None
IsUnjudged show node file history InHand = ⊥
IsUnjudged show node file history NoText = ¬ (IsUtf8 show × IsUtf8 file)

abbrev pub IsJudged : List ℕ → ℕ → List ℕ → List ℕ → Option ℕ → Result Judgement Fault → Type 0
IsJudged show node file history work (Ok j) = IsJudgement show node file history work j
IsJudged show node file history work (Err fault) = IsUnjudged show node file history fault

-- ---- the tag of a start

abbrev pub tag_with : List ℕ → Option (Vec (String Global) Global) → List (String Global) → List ℕ
tag_with word None shown = []
tag_with word (Some first) shown = tag_of word first.items shown

pub record IsTagOf (show : List ℕ) (node : ℕ) (file word : List ℕ) (tag : List ℕ) : Type 0 where
  pub row : Row
  pub party : List Entry
  pub lines : List (String Global)
  pub settled : ℕ
  pub kept : Start
  pub shown : IsShown show node row party settled
  pub lines_are : AreLinesOf party lines
  pub kept_is : seen_in node file ≡ Some (seen kept)
  pub tag_is : tag ≡ tag_with word kept.party lines

abbrev pub IsTagged : List ℕ → ℕ → List ℕ → List ℕ → Result (String Global) Fault → Type 0
IsTagged show node file word (Ok tag) = IsTagOf show node file word (string_bytes tag)
IsTagged show node file word (Err OutOfMemory) = Unit {0}
IsTagged show node file word (Err BadLine) = shown_in show ≡ Err NoAnswer
IsTagged show node file word (Err NoNode) = IsAbsent show node
IsTagged show node file word (Err BadStart) = seen_in node file ≡ None
IsTagged show node file word (Err BadNumber) = from_1_to MAX_NODES node ≡ None
IsTagged show node file word (Err NoText) = ¬ (IsUtf8 show × IsUtf8 file × IsUtf8 word)
IsTagged show node file word (Err _) = ⊥

-- ---- the judgement as C receives it

-- the text in the caller's buffer: the text for the file of the start, followed by the line for the history
abbrev pub out_of : Judgement → List ℕ
out_of j = string_bytes j.start ++ string_bytes j.line

pub record IsOut (j : Judgement) (room : List ℕ) (judged : Judged) : Type 0 where
  pub text : take (length (out_of j)) room ≡ out_of j
  pub due : judged.due ≡ due_number j.due
  pub epoch : judged.epoch ≡ j.epoch
  pub start_length : judged.start_length ≡ length (string_bytes j.start)
  pub line_length : judged.line_length ≡ length (string_bytes j.line)
  pub history_size : judged.history_size ≡ j.history_size

abbrev pub IsPutOf : Judgement → List ℕ → Result Judged Fault → Type 0
IsPutOf j room (Ok judged) = IsOut j room judged
IsPutOf j room (Err OutOfMemory) = Unit {0}
IsPutOf j room (Err NoRoom) = length room < length (out_of j)
IsPutOf j room (Err fault) = ⊥

pub record IsJudgedInto (show : List ℕ) (node : ℕ) (file history : List ℕ) (work : Option ℕ) (room : List ℕ) (judged : Judged) : Type 0 where
  pub judgement : Judgement
  pub is : IsJudgement show node file history work judgement
  pub out : IsOut judgement room judged

-- the caller's buffer is too small for the texts of the judgement
pub record IsTooLong (show : List ℕ) (node : ℕ) (file history : List ℕ) (work : Option ℕ) (room : List ℕ) : Type 0 where
  pub judgement : Judgement
  pub is : IsJudgement show node file history work judgement
  pub too_long : length room < length (out_of judgement)

abbrev pub IsGivenTo : List ℕ → ℕ → List ℕ → List ℕ → Option ℕ → List ℕ → Result Judged Fault → Type 0
IsGivenTo show node file history work room (Ok judged) = IsJudgedInto show node file history work room judged
IsGivenTo show node file history work room (Err NoRoom) = IsTooLong show node file history work room
IsGivenTo show node file history work room (Err fault) = IsUnjudged show node file history fault
