-- The members' rule: the due action after a look, and the change that is stored first.
use Rattle.std.specs.Prelude.{ℕ, ◌==◌, ◌&&◌, not, nat_lt, Bool, true, false, List, [], ◌∷◌, ◌++◌, Option, Some, None, if◌then◌else◌, unwrap_or}
use Rattle.std.specs.List.{list_all, list_any}
use Rattle.coord_member.specs.declared.view.Entry.{Entry}
use Rattle.coord_member.specs.declared.view.Entry.TheVariants.{Node, Link}
use Rattle.coord_member.specs.declared.view.Row.{Row}
use Rattle.coord_member.specs.declared.rule.Due.{Due}
use Rattle.coord_member.specs.declared.rule.Due.TheVariants.{Talk, Wait, Begin, Reset}
use Rattle.coord_member.specs.declared.rule.Change.{Change}
use Rattle.coord_member.specs.declared.rule.Change.TheVariants.{Keeps, Drops, NotesAlone, NotesFirst}

-- the state that a member keeps on disk
pub record Kept : Type 0 where
  pub begun : Option ℕ  -- the epoch of the present work
  pub party : Option (List Entry)  -- the party with which the present start first talked
  pub history : List (List Entry)  -- the parties with which the starts of this member first talked

abbrev pub new_kept : Kept
new_kept = record { begun = None; party = None; history = [] }

-- ---- parties, as lists in an order that all members share

abbrev pub same_entry : Entry → Entry → Bool
same_entry (Node n e) (Node m f) = (n == m) && (e == f)
same_entry (Link a b i) (Link c d j) = (a == c) && (b == d) && (i == j)
same_entry _ _ = false

abbrev pub is_within : List Entry → List Entry → Bool
is_within now party = list_all (λ e. list_any (same_entry e) party) now

abbrev pub same_party : List Entry → List Entry → Bool
same_party [] [] = true
same_party (x ∷ xs) (y ∷ ys) = same_entry x y && same_party xs ys
same_party _ _ = false

-- whether a start of this member talked with exactly this party
abbrev pub was_before : List Entry → List (List Entry) → Bool
was_before now history = list_any (same_party now) history

-- whether the party is a single node
abbrev pub is_alone : List Entry → Bool
is_alone (Node n e ∷ []) = true
is_alone _ = false

-- ---- the due action

abbrev pub is_at : ℕ → Option ℕ → Bool
is_at epoch None = false
is_at epoch (Some e) = e == epoch

-- whether the present work belongs to the shown epoch, and that epoch is confirmed
abbrev pub is_begun : Option ℕ → Row → Bool
is_begun begun row = (row.epoch == row.confirmed) && is_at row.epoch begun

-- A start that has talked may continue if no node or link was added to its party. A start that has not talked may talk if no
-- earlier start talked with exactly this party
abbrev pub admits : Option (List Entry) → Bool → List Entry → Bool
admits None was now = not was
admits (Some party) was now = is_within now party

-- the due action; `was` says whether a start of the node has talked with exactly the shown party
abbrev pub due_of : Option ℕ → Option (List Entry) → Bool → Row → List Entry → Due
due_of begun party was row now =
    if nat_lt row.confirmed row.epoch && not was then Begin
    else (if is_begun begun row && not row.through then Wait
    else (if is_begun begun row && admits party was now then Talk
    else (if row.quiet then Reset else Wait)))

abbrev pub due : Kept → Row → List Entry → Due
due kept row now = due_of kept.begun kept.party (was_before now kept.history) row now

-- ---- the change that is stored before the action

abbrev pub history_with : Option (List Entry) → List (List Entry) → List Entry → List (List Entry)
history_with None history now = if is_alone now then history else history ++ (now ∷ [])
history_with (Some party) history now = history

-- if the start has no party, the shown party becomes its party, and is added to the history unless it is a single node
abbrev pub with_party : Kept → List Entry → Kept
with_party kept now = record kept { party = Some (unwrap_or kept.party now); history = history_with kept.party kept.history now }

abbrev pub kept_for : Kept → List Entry → Due → Kept
kept_for kept now Begin = record kept { party = None; begun = None }
kept_for kept now Talk = with_party kept now
kept_for kept now Wait = kept
kept_for kept now Reset = kept

abbrev pub kept_after : Kept → Row → List Entry → Kept
kept_after kept row now = kept_for kept now (due kept row now)

-- the change that is stored before this action
abbrev pub change_of : Due → Bool → List Entry → Change
change_of Begin has_party now = Drops
change_of Talk has_party now = if has_party then Keeps else (if is_alone now then NotesAlone else NotesFirst)
change_of Wait has_party now = Keeps
change_of Reset has_party now = Keeps

abbrev pub changed : Kept → List Entry → Change → Kept
changed kept now Keeps = kept
changed kept now Drops = record kept { party = None; begun = None }
changed kept now NotesAlone = record kept { party = Some now }
changed kept now NotesFirst = record kept { party = Some now; history = kept.history ++ (now ∷ []) }

-- the stored values once the common start for an epoch is loaded
abbrev pub begun_with : Kept → ℕ → Kept
begun_with kept epoch = record kept { begun = Some epoch }

-- the stored values when the work is lost
abbrev pub without_work : Kept → Kept
without_work kept = record kept { begun = None }

-- ---- the tag

-- the party that names a start's run: the party with which the start first talked; None if the start has not talked, or was alone
-- then
abbrev pub run_of : Option (List Entry) → Option (List Entry)
run_of None = None
run_of (Some party) = if is_alone party then None else Some party

-- the party that names the run in which the member may talk, if talking is due
abbrev pub tag_for : Kept → Due → Option (List Entry)
tag_for kept Talk = run_of kept.party
tag_for kept Wait = None
tag_for kept Begin = None
tag_for kept Reset = None

-- the due action after the member rejected a message and looked again
abbrev pub due_when_refused : Due → Bool → Bool → Due
due_when_refused Talk is_same_tag is_same_view = if not is_same_tag && is_same_view then Reset else Talk
due_when_refused Wait is_same_tag is_same_view = Wait
due_when_refused Begin is_same_tag is_same_view = Begin
due_when_refused Reset is_same_tag is_same_view = Reset
