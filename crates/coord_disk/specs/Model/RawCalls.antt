-- The calls of a raw file, and the promises of the calls that a disk does not have.
use Rattle.std.specs.Prelude.{◌≡◌, ℕ, Bool, true, List, Result, OnOk}
use Rattle.coord_disk.specs.Model.Calls.{Calls}
use Rattle.coord_disk.specs.Model.DiskModel.{DiskModel}
use Rattle.coord_disk.specs.Model.Present.{Present, FitsNoMore, whole}

pub data RawCall : Type 0 where
  Len : RawCall
  -- a read from this place on, of this many bytes
  Read : ℕ → ℕ → RawCall
  -- a write of these bytes at this place
  Write : ℕ → List ℕ → RawCall
  SyncData : RawCall
  SyncAll : RawCall
  SyncFolder : RawCall

-- the call does not change whether the file's entry in its folder is synced
abbrev pub StaysEntered : {F : Type 0} → DiskModel F → (F → Bool) → F → F → Type 0
StaysEntered m is_entered old new = m.keeps_model old ≡ true → is_entered new ≡ is_entered old

-- If `Reaches` holds, a crash after a successful sync leaves the bytes that a read gives. After any sync, a
-- crash can leave only bytes that it could have left before.
pub record BytesSynced {T E : Type 0} (Reaches : Type 0) (result : Result T E) (old new : Present) : Type 0 where
  pub durable : Reaches → OnOk result (new ≡ whole old.read)
  pub crash : FitsNoMore old new

abbrev pub SyncsBytes : {F T E : Type 0} → DiskModel F → Type 0 → F → F → Result T E → Type 0
SyncsBytes m Reaches old new result = Calls m old new (BytesSynced Reaches result)

-- After a successful call, the file's entry in its folder is synced. The call does not change the bytes.
pub record Enters {F T E : Type 0} (m : DiskModel F) (is_entered : F → Bool) (old new : F) (result : Result T E) : Type 0 where
  pub acts : Calls m old new (λ before now. now ≡ before)
  pub enters : m.keeps_model old ≡ true → OnOk result (is_entered new ≡ true)
