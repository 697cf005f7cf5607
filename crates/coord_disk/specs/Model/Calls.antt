-- The promise of each call on a disk: a record of the call's effect on the content, and a record of the rules that
-- every call follows.
use Rattle.std.specs.Prelude.{◌≡◌, ℕ, ◌+◌, ◌≤◌, Bool, true, List, length, take, drop, Result, IfOk, OnOk, OnErr}
use Rattle.coord_disk.specs.Model.DiskModel.{DiskModel}
use Rattle.coord_disk.specs.Model.Moments.{Passes}
use Rattle.coord_disk.specs.Model.Present.{Present, IsImage, FitsNoMore, WritesWithin, whole, written_at}

-- The rules that every call follows. A disk that keeps the model continues to keep it, at most one moment passes, and
-- the content changes as this call promises. A disk that does not keep the model continues not to keep it, and nothing
-- else is promised.
pub record Acts (keeps keeps_on : Bool) (Time Change : Type 0) : Type 0 where
  pub model : keeps_on ≡ keeps
  pub time : keeps ≡ true → Time
  pub change : keeps ≡ true → Change

abbrev pub Calls : {D : Type 0} → DiskModel D → D → D → (Present → Present → Type 0) → Type 0
Calls m old new Changes = Acts (m.keeps_model old) (m.keeps_model new) (Passes m old new) (Changes (m.present old) (m.present new))

-- the call returns the number of bytes and changes nothing
pub record Measured {E : Type 0} (result : Result ℕ E) (old new : Present) : Type 0 where
  pub value : IfOk result (λ n. n ≡ length old.read)
  pub same : new ≡ old

-- the call fills a buffer with the bytes from place `at` on, and changes nothing
pub record HasRead {T E : Type 0} (at : ℕ) (buffer filled : List ℕ) (result : Result T E) (old new : Present) : Type 0 where
  pub value : OnOk result (filled ≡ take (length buffer) (drop at old.read))
  pub same : new ≡ old

-- The call writes bytes at place `at`. Until the next sync, a crash may leave any bytes there, even if the
-- write failed.
pub record Written {T E : Type 0} (at : ℕ) (bytes : List ℕ) (result : Result T E) (old new : Present) : Type 0 where
  pub written : OnOk result (new ≡ written_at at bytes old)
  pub crash : WritesWithin at bytes old new

-- After a successful sync, a crash leaves the bytes that a read gives. After a failed sync, a crash can leave only
-- bytes that it could have left before.
pub record Synced {T E : Type 0} (result : Result T E) (old new : Present) : Type 0 where
  pub durable : OnOk result (new ≡ whole old.read)
  pub crash : FitsNoMore old new

-- ---- the calls

abbrev pub Measures : {D E : Type 0} → DiskModel D → D → D → Result ℕ E → Type 0
Measures m old new result = Calls m old new (Measured result)

abbrev pub Reads : {D T E : Type 0} → DiskModel D → ℕ → List ℕ → List ℕ → D → D → Result T E → Type 0
Reads m at buffer filled old new result = Calls m old new (HasRead at buffer filled result)

abbrev pub Writes : {D T E : Type 0} → DiskModel D → ℕ → List ℕ → D → D → Result T E → Type 0
Writes m at bytes old new result = Calls m old new (Written at bytes result)

abbrev pub Syncs : {D T E : Type 0} → DiskModel D → D → D → Result T E → Type 0
Syncs m old new result = Calls m old new (Synced result)

-- if the disk keeps the model, `count` bytes can be read from place `at` on
abbrev pub HasBytes : {D : Type 0} → DiskModel D → D → ℕ → ℕ → Type 0
HasBytes m disk at count = m.keeps_model disk ≡ true → at + count ≤ length (m.present disk).read

-- A crash leaves one of the disk's images, and all of it is synced.
pub record Crashes {D : Type 0} (m : DiskModel D) (old new : D) : Type 0 where
  pub model : m.keeps_model new ≡ m.keeps_model old
  pub image : m.keeps_model old ≡ true → IsImage (m.present old) (m.present new).read
  pub synced : m.keeps_model old ≡ true → m.present new ≡ whole (m.present new).read
  pub failures : m.failures new ≡ m.failures old

-- the count of failures rises by one if a call fails, and is unchanged otherwise
pub record HasCause {T E : Type 0} (before now : ℕ) (result : Result T E) : Type 0 where
  pub failed : OnErr result (now ≡ before + 1)
  pub unfailed : OnOk result (now ≡ before)
