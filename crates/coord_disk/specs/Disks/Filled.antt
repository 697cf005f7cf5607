-- The bytes after a crash if a test chose the bytes at the unsynced places.
use Rattle.std.specs.Prelude.{◌≡◌, ℕ, zero, suc, ◌+◌, ◌<◌, ◌%◌, Bool, ◌||◌, nat_le, if◌then◌else◌, List, [], ◌∷◌, length, Some, slice_get, slice_index}
use Rattle.coord_disk.specs.Model.Present.{Present, is_within}

-- whether this place is unsynced, so a crash may leave any byte there
abbrev pub is_loose : Present → ℕ → Bool
is_loose disk i = is_within disk.written i || nat_le (length disk.synced) i

-- the number of unsynced places below this one
abbrev pub loose_below : Present → ℕ → ℕ
loose_below disk zero = 0
loose_below disk (suc i) = loose_below disk i + (if is_loose disk i then 1 else 0)

-- the n-th byte of the endless repetition of a list; an empty list counts as a single 0
abbrev pub repeated : List ℕ → ℕ → ℕ
repeated [] n = 0
repeated (byte ∷ bytes) n = slice_index (byte ∷ bytes) (n % length (byte ∷ bytes))

-- `image` is the bytes that a read gives, with the unsynced places filled from `filler` in ascending order
pub record IsFilled (disk : Present) (filler image : List ℕ) : Type 0 where
  pub size : length image ≡ length disk.read
  pub each : (i : ℕ) → i < length disk.read → slice_get image i ≡ (if is_loose disk i then Some (repeated filler (loose_below disk i)) else slice_get disk.read i)
