-- Statements about each moment of a call, and of a list of calls.
use Rattle.std.specs.Prelude.{◌≡◌, ◌⊎◌, ℕ, ◌+◌, ◌≤◌, List, true, Result, Ok, Err}
use Rattle.coord_disk.specs.Model.DiskModel.{DiskModel}
use Rattle.coord_disk.specs.Model.Present.{IsImage}

-- Time advances. A crash since moment t might have left the bytes that a crash might have left before, and
-- possibly the bytes that a crash may leave now.
pub record Elapses (before now : ℕ) (past since : ℕ → List ℕ → Type 0) (may_leave : List ℕ → Type 0) : Type 0 where
  pub later : before ≤ now
  -- a call takes at most one moment
  pub soon : now ≤ before + 1
  pub nothing_else : (t : ℕ) (image : List ℕ) → t ≤ before → since t image → past t image ⊎ may_leave image
  pub keeps : (t : ℕ) (image : List ℕ) → t ≤ before → past t image → since t image

-- the disk changes from `old` to `new` in one call
abbrev pub Passes : {D : Type 0} → DiskModel D → D → D → Type 0
Passes m old new = Elapses (m.clock old) (m.clock new) (m.left_since old) (m.left_since new) (IsImage (m.present new))

-- A crash at any moment from `old` until `new` leaves only bytes with property P.
pub record LeavesOnly {D : Type 0} (m : DiskModel D) (old new : D) (P : List ℕ → Type 0) : Type 0 where
  pub later : m.clock old ≤ m.clock new
  pub each : (image : List ℕ) → m.left_since new (m.clock old) image → P image
  -- since an earlier moment t, a crash can have left only bytes that it could have left up to `old`, or bytes
  -- with property P
  pub before : (t : ℕ) (image : List ℕ) → t ≤ m.clock old → m.left_since new t image → m.left_since old t image ⊎ P image

-- A crash at any moment from `old` until `new` leaves only bytes that it could have left at `old`.
abbrev pub AddsNothing : {D : Type 0} → DiskModel D → D → D → Type 0
AddsNothing m old new = m.keeps_model old ≡ true → LeavesOnly m old new (IsImage (m.present old))

-- A list of calls leaves the content unchanged. A crash at any moment of these calls leaves only bytes that a
-- crash could have left before them.
pub record IsUntouched {D : Type 0} (m : DiskModel D) (old new : D) : Type 0 where
  pub same : m.present new ≡ m.present old
  pub any_moment : LeavesOnly m old new (IsImage (m.present old))

-- The rules that every list of calls follows: a disk that keeps the model continues to keep it, `failed` calls failed,
-- and at most `most` moments passed.
pub record Runs {D : Type 0} (m : DiskModel D) (old new : D) (most failed : ℕ) : Type 0 where
  pub model : m.keeps_model new ≡ m.keeps_model old
  pub failures : m.failures new ≡ m.failures old + failed
  pub calls : m.keeps_model old ≡ true → m.clock new ≤ m.clock old + most

-- the number of failures in a list of calls that ends with its first failure
abbrev pub failures_of : {T E : Type 0} → Result T E → ℕ
failures_of (Ok value) = 0
failures_of (Err fault) = 1
