-- The content of a disk at a moment, the bytes that a crash may leave then, and the effects of the calls.
use Rattle.std.specs.Prelude.{◌≡◌, ◌⊎◌, ℕ, ◌+◌, ◌<◌, ◌≤◌, ◌-◌, Bool, false, ◌&&◌, ◌||◌, nat_le, nat_lt, List, [], ◌∷◌, ◌++◌, length, take, drop, slice_get, replicate}

-- the places from `start` on, below `stop`
pub record Range : Type 0 where
  pub start : ℕ
  pub stop : ℕ

pub record Present : Type 0 where
  pub synced : List ℕ  -- the bytes after the last successful sync
  pub read : List ℕ  -- the bytes that a read gives
  pub written : List Range  -- the ranges written since, including failed writes

-- whether the place is in one of the ranges
abbrev pub is_within : List Range → ℕ → Bool
is_within [] i = false
is_within (range ∷ ranges) i = nat_le range.start i && nat_lt i range.stop || is_within ranges i

-- A crash may leave these bytes: synced bytes stay, except at the places written since, which may hold anything.
pub record IsImage (disk : Present) (image : List ℕ) : Type 0 where
  pub no_shorter : length disk.synced ≤ length image
  pub no_longer : length image ≤ length disk.read
  pub kept : (i : ℕ) → i < length disk.synced → is_within disk.written i ≡ false → slice_get image i ≡ slice_get disk.synced i

-- a disk with these bytes, all of them synced
abbrev pub whole : List ℕ → Present
whole bytes = record { synced = bytes; read = bytes; written = [] }

-- the old bytes, overwritten with these bytes at this place; if the place is past the end, zeros fill the gap
abbrev pub overwritten : List ℕ → ℕ → List ℕ → List ℕ
overwritten old at [] = old
overwritten old at (byte ∷ bytes) = take at old ++ (replicate (at - length old) 0 ++ (byte ∷ bytes ++ drop (at + length (byte ∷ bytes)) old))

-- the range that these bytes cover if written at this place
abbrev pub range_of : ℕ → List ℕ → Range
range_of at bytes = record { start = at; stop = at + length bytes }

-- the content after these bytes are written at this place
abbrev pub written_at : ℕ → List ℕ → Present → Present
written_at at bytes disk = record { synced = disk.synced; read = overwritten disk.read at bytes; written = range_of at bytes ∷ disk.written }

-- The effect of a write, whether it succeeds or fails: no byte outside the write's range changes. If the range
-- begins past the end, zeros fill the gap.
pub record WritesWithin (at : ℕ) (bytes : List ℕ) (old new : Present) : Type 0 where
  pub synced : new.synced ≡ old.synced
  pub written : (i : ℕ) → is_within (range_of at bytes ∷ old.written) i ≡ false → is_within new.written i ≡ false
  pub no_shorter : length old.read ≤ length new.read
  pub no_longer : length new.read ≤ length (overwritten old.read at bytes)
  pub elsewhere : (i : ℕ) → i < length old.read → (i < at) ⊎ (at + length bytes ≤ i) → slice_get new.read i ≡ slice_get old.read i

-- every image that a crash of `new` may leave is an image that a crash of `old` may leave
abbrev pub FitsNoMore : Present → Present → Type 0
FitsNoMore old new = (image : List ℕ) → IsImage new image → IsImage old image

-- The bytes that a crash may leave while `new` is written at this place over synced bytes.
abbrev pub Torn : List ℕ → ℕ → List ℕ → List ℕ → Type 0
Torn bytes at new = IsImage (written_at at new (whole bytes))
