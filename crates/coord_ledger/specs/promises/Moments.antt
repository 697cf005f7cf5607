-- The effect of an event on the disk, and what a crash during the event may leave.
use Rattle.std.specs.Prelude.{◌≡◌, ℕ, List, Bool, true, false}
use Rattle.coord_disk.specs.Model.Moments.{LeavesOnly}
use Rattle.coord_disk.specs.Model.Present.{IsImage, whole}
use Rattle.coord_disk.specs.Model.DiskModel.{DiskModel}
use Rattle.coord_store.specs.declared.faults.CommitFault.TheVariants as fault
use Rattle.coord_ledger.specs.declared.events.Answer.{Answer}
use Rattle.coord_ledger.specs.declared.events.Answer.TheVariants.{Committed, Failed}
use Rattle.coord_ledger.specs.declared.events.Event.{Event}
use Rattle.coord_ledger.specs.declared.events.Event.TheVariants.{Commit, Crash}

-- whether an event with this answer touches the disk: only an attempted commit and a crash do
abbrev pub touches_disk : Event → Answer → Bool
touches_disk Commit Committed = true
touches_disk Commit (Failed fault.Device) = true
touches_disk Commit (Failed fault.OutOfMemory) = true
touches_disk Crash answer = true
touches_disk event answer = false

-- A crash has chosen one of the disk's images. At each moment of the opening that follows, another crash would
-- leave only images of the chosen one. P holds for all these images.
pub record Reopens {D : Type 0} (model : DiskModel D) (crashes : D → D → Type 0) (P : List ℕ → Type 0) (old new : D) : Type 0 where
  pub taken : D
  pub crash : crashes old taken
  pub image : IsImage (model.present old) (model.present taken).read
  pub synced : model.present taken ≡ whole (model.present taken).read
  pub opening : LeavesOnly model taken new (IsImage (model.present taken))
  pub each : (bytes : List ℕ) → IsImage (model.present taken) bytes → P bytes

-- At each moment of the event, a crash would leave only images for which P holds.
abbrev pub LeavesWithin : {D : Type 0} → DiskModel D → (D → D → Type 0) → Event → (List ℕ → Type 0) → D → D → Type 0
LeavesWithin model crashes Crash P old new = Reopens model crashes P old new
LeavesWithin model crashes event P old new = LeavesOnly model old new P
