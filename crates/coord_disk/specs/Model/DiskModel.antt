-- The model of a disk, as one value.
use Rattle.std.specs.Prelude.{◌≡◌, ℕ, ◌≤◌, Bool, true, List}
use Rattle.coord_disk.specs.Model.Present.{Present, IsImage}

-- The model of the disks of a type D, as their users see them. A contract about a disk mentions only this value.
pub record DiskModel (D : Type 0) : Type 1 where
  -- Whether a disk keeps the model. Only then do its calls promise anything about bytes, time and crashes. A disk that
  -- claims no model returns false.
  pub keeps_model : D → Bool
  -- the synced bytes, the bytes that a read gives, and the places written since the last sync
  pub present : D → Present
  -- the moment, as a number that never decreases
  pub clock : D → ℕ
  -- whether a crash at some moment from this one until now, during a call or between two calls, might have left these
  -- bytes
  pub left_since : D → ℕ → List ℕ → Type 0
  -- the number of calls that failed
  pub failures : D → ℕ

-- `left_since` agrees with the images of the present content.
pub record IsModel {D : Type 0} (m : DiskModel D) : Type 0 where
  -- each image that a crash may leave now counts as an image that a crash might have left since any earlier
  -- moment
  pub counts_now : (disk : D) (t : ℕ) (image : List ℕ) → m.keeps_model disk ≡ true → t ≤ m.clock disk → IsImage (m.present disk) image → m.left_since disk t image
  -- each image that a crash might have left since the present moment is an image that a crash may leave now
  pub only_now : (disk : D) (image : List ℕ) → m.keeps_model disk ≡ true → m.left_since disk (m.clock disk) image → IsImage (m.present disk) image
  -- the bytes that a read gives are one of the disk's images
  pub reads_image : (disk : D) → m.keeps_model disk ≡ true → IsImage (m.present disk) (m.present disk).read

-- The model of a disk built over another one: it has the content of the disk inside, but counts failures in its own
-- way.
abbrev pub seen_through : {D E : Type 0} → DiskModel D → (E → D) → (E → ℕ) → DiskModel E
seen_through m inner failures = record {
  keeps_model = λ e. m.keeps_model (inner e);
  present = λ e. m.present (inner e);
  clock = λ e. m.clock (inner e);
  left_since = λ e. m.left_since (inner e);
  failures = failures;
}

pub seen_through_is_model : {D E : Type 0} (m : DiskModel D) (inner : E → D) (failures : E → ℕ) → IsModel m → IsModel (seen_through m inner failures)
seen_through_is_model m inner failures laws = record {
  counts_now = λ e t image. laws.counts_now (inner e) t image;
  only_now = λ e image. laws.only_now (inner e) image;
  reads_image = λ e. laws.reads_image (inner e);
}
