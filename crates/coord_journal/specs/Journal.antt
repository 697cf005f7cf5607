-- An open journal.
use Rattle.std.specs.Prelude.{◌≡◌, ℕ, ◌+◌, ◌≤◌, Bool, true, false}
use Rattle.coord_disk.specs.Model.DiskModel.{DiskModel}
use Rattle.coord_disk.specs.Model.Present.{whole}
use Rattle.coord_journal.specs.Half.{half_number}
use Rattle.coord_journal.specs.Text.{Content, IsTextAt, used_by}
use Rattle.coord_journal.specs.declared.journal.Journal.{Journal}

abbrev pub disk_of : {D : Type 0} → Journal D → D
disk_of journal = journal.disk

-- the size of a half, in bytes
abbrev pub half_size_of : {D : Type 0} → Journal D → ℕ
half_size_of journal = journal.half_size

-- the selected half, 0 or 1
abbrev pub half_of : {D : Type 0} → Journal D → ℕ
half_of journal = half_number journal.half

-- the number of bytes used in the selected half, including its closed gate
abbrev pub used_of : {D : Type 0} → Journal D → ℕ
used_of journal = journal.used

-- whether the device has failed in an append or a replace
abbrev pub has_stopped : {D : Type 0} → Journal D → Bool
has_stopped journal = journal.stopped

-- a batch with a body of this many bytes fits after the used bytes
abbrev pub HasRoomFor : {D : Type 0} → Journal D → ℕ → Type 0
HasRoomFor journal len = used_of journal + 5 + len ≤ half_size_of journal

-- The journal has not stopped. Its disk keeps the model and holds the text of this content, all of it synced.
pub record IsReady {D : Type 0} (m : DiskModel D) (journal : Journal D) (content : Content) : Type 0 where
  pub keeps : m.keeps_model (disk_of journal) ≡ true
  pub synced : m.present (disk_of journal) ≡ whole (m.present (disk_of journal)).read
  pub text : IsTextAt (m.present (disk_of journal)).read content (half_size_of journal) (half_of journal) (used_of journal)
  pub used : used_of journal ≡ used_by content
  pub going : has_stopped journal ≡ false
