-- The content of a disk in memory, computed from its writes and syncs.
use Rattle.std.specs.Prelude.{◌≡◌, ℕ, ◌≤◌, List, [], ◌∷◌, ◌++◌, length, take, true, Option, Some, None}
use Rattle.coord_disk.specs.Model.DiskModel.{DiskModel}
use Rattle.coord_disk.specs.Model.Present.{Present, IsImage, whole, written_at}
use Rattle.coord_disk.specs.declared.history.Entry.{Entry}
use Rattle.coord_disk.specs.declared.history.Entry.TheVariants.{Wrote, Synced}
use Rattle.coord_disk.specs.declared.history.History.{History}

-- the content after one write or sync
abbrev pub after : Present → Entry → Present
after disk (Wrote at bytes) = written_at at bytes.items disk
after disk Synced = whole disk.read

-- the content after all of these writes and syncs, in order
abbrev pub replayed : Present → List Entry → Present
replayed disk [] = disk
replayed disk (entry ∷ entries) = replayed (after disk entry) entries

-- the initial bytes of a disk, and the writes and syncs since
pub record Past : Type 0 where
  pub first : List ℕ
  pub entries : List Entry

abbrev pub present_after : Past → Present
present_after past = replayed (whole past.first) past.entries

-- A crash after the first t writes and syncs, or after more of them, could have left these bytes.
abbrev pub LeftSince : Past → ℕ → List ℕ → Type 0
LeftSince past t image = (k : ℕ) × (t ≤ k) × (k ≤ length past.entries) × IsImage (replayed (whole past.first) (take k past.entries)) image

-- The model of a disk with such a history. Its clock is the number of writes and syncs.
abbrev pub recorded : {D : Type 0} → (D → Past) → (D → ℕ) → DiskModel D
recorded past failures = record {
  keeps_model = λ _. true;
  present = λ d. present_after (past d);
  clock = λ d. length (past d).entries;
  left_since = λ d. LeftSince (past d);
  failures = failures;
}

-- the past of a disk whose reads give these bytes; without a history there were no writes and syncs
abbrev pub past_with : List ℕ → Option History → Past
past_with read None = record { first = read; entries = [] }
past_with read (Some history) = record { first = history.first.items; entries = history.entries.items }

-- replaying the history gives the bytes that a read gives, and the synced bytes
pub record LedTo (history : History) (read : List ℕ) : Type 0 where
  pub reads : (present_after (past_with read (Some history))).read ≡ read
  pub syncs : (present_after (past_with read (Some history))).synced ≡ history.synced.items
  pub image : IsImage (present_after (past_with read (Some history))) read

-- the new past has one more write or sync, which gives the content `now`
pub record Adds (old new : Past) (now : Present) : Type 0 where
  pub added : Entry
  pub first : new.first ≡ old.first
  pub entries : new.entries ≡ old.entries ++ added ∷ []
  pub present : present_after new ≡ now
