-- What must be on disk before a member sends a message.
--
-- Before the first message of a start, the party that the start talks with must be in the history, and the history synced. The
-- start's file need not be synced. But from the first message on, a power cut must not leave a version of that file which says
-- that the start's epoch is begun with another party, or with no party yet. So the text "begun, and has talked with no other
-- member" is written in a form that a power cut invalidates, or is replaced on disk before the first message. Before work is
-- replaced in parts, the disk must say that nothing is begun. A process that starts syncs the files that it reads before it
-- relies on them: the previous process may have been killed before its own sync, and a power cut would then bring back the
-- earlier text.
use Rattle.std.specs.Prelude.{◌≡◌, ◌⊎◌, List, None}
use Rattle.coord_member.specs.declared.view.Entry.{Entry}
use Rattle.coord_member.specs.declared.view.Row.{Row}
use Rattle.coord_member.specs.Rule.{Kept, due, without_work}
use Rattle.coord_member.specs.NoMix.{IsOneOf}
use Rattle.coord_member.specs.Cautious.{due_with}

-- what may be read back after a kill or a power cut: the history still has all its parties, and either the start is unchanged or
-- nothing is begun
pub record IsLeftOf (kept read : Kept) : Type 0 where
  pub history : (party : List Entry) → IsOneOf party kept.history → IsOneOf party read.history
  pub start : (read.begun ≡ None) ⊎ ((read.begun ≡ kept.begun) × (read.party ≡ kept.party))

-- A member that reads back such a state continues like a member that has crashed or lost its work, and whose history has more
-- parties
abbrev pub LeftIsEnough : Type 0
LeftIsEnough =
    (kept read : Kept) (row : Row) (now : List Entry) → IsLeftOf kept read →
    (due read row now ≡ due_with read.history kept row now) ⊎ (due read row now ≡ due_with read.history (without_work kept) row now)
