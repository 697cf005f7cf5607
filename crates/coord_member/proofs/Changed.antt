-- The stored values for the due action are a change of the values before.
use Rattle.std.proofs.Common.{◌≡◌, ℕ, Bool, true, false, List, [], ◌∷◌, ◌++◌, Option, Some, None, refl, is_some, if◌then◌else◌}
use Rattle.coord_member.specs.declared.view.Entry.{Entry}
use Rattle.coord_member.specs.declared.rule.Change.TheVariants.{NotesAlone, NotesFirst}
use Rattle.coord_member.specs.declared.rule.Due.{Due}
use Rattle.coord_member.specs.declared.rule.Due.TheVariants.{Talk, Wait, Begin, Reset}
use Rattle.coord_member.specs.Rule.{Kept, change_of, changed, is_alone, kept_for}

-- the first talk of a start, alone or not
first : (kept : Kept) (now : List Entry) (b : Bool) → changed kept now (if b then NotesAlone else NotesFirst) ≡ record kept { party = Some now; history = if b then kept.history else kept.history ++ (now ∷ []) }
first kept now true = refl
first kept now false = refl

talks : (begun : Option ℕ) (party : Option (List Entry)) (history : List (List Entry)) (now : List Entry) →
    changed (record { begun = begun; party = party; history = history }) now (change_of Talk (is_some party) now) ≡ kept_for (record { begun = begun; party = party; history = history }) now Talk
talks begun None history now = first (record { begun = begun; party = None; history = history }) now (is_alone now)
talks begun (Some party) history now = refl

pub changed_is : (kept : Kept) (now : List Entry) (d : Due) → changed kept now (change_of d (is_some kept.party) now) ≡ kept_for kept now d
changed_is kept now Begin = refl
changed_is kept now Wait = refl
changed_is kept now Reset = refl
changed_is kept now Talk = talks kept.begun kept.party kept.history now
