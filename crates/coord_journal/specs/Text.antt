-- The text of a journal: a header, and a half that ends at its first closed gate.
use Rattle.std.specs.Prelude.{◌≡◌, ◌≢◌, ◌⊎◌, ℕ, ◌+◌, ◌*◌, ◌%◌, ◌≤◌, List, [], ◌∷◌, ◌++◌, length}
use Rattle.std.specs.Int.{w32, w64, to_be_bytes}
use Rattle.coord_disk.specs.Model.Present.{overwritten}
use Rattle.coord_journal.specs.declared.layout.TheConstants.{MIN_HALF, MAX_HALF, MAX_SNAPSHOT, MAX_BODY}

pub record Content : Type 0 where
  pub version : ℕ
  pub snapshot : List ℕ
  pub batches : List (List ℕ)

-- the length of these bytes as a four-byte number, followed by the bytes
abbrev pub sized : List ℕ → List ℕ
sized bytes = to_be_bytes w32 (length bytes) ++ bytes

-- the bytes are the byte `first`, then a sized body of at most `limit` bytes, and then the bytes `following`
abbrev pub BeginsWithBody : ℕ → ℕ → List ℕ → List ℕ → List ℕ → Type 0
BeginsWithBody limit first body following bytes = (length body ≤ limit) × (bytes ≡ first ∷ (sized body ++ following))

-- the bytes are batches, each after an open gate (any byte but 0)
abbrev pub IsOpened : List (List ℕ) → List ℕ → Type 0
IsOpened [] bytes = bytes ≡ []
IsOpened (batch ∷ batches) bytes = (gate : ℕ) × (rest : List ℕ) × (gate ≢ 0) × BeginsWithBody MAX_BODY gate batch rest bytes × IsOpened batches rest

-- the bytes begin with these batches, each after an open gate and `size` bytes in all; then comes a closed
-- gate
abbrev pub ReadsAs : List (List ℕ) → ℕ → List ℕ → Type 0
ReadsAs batches size bytes = (opened : List ℕ) × (following : List ℕ) × (bytes ≡ opened ++ 0 ∷ following) × IsOpened batches opened × (length opened ≡ size)

-- the bytes of a half before its first closed gate
abbrev pub half_front : ℕ → List ℕ → List ℕ → List ℕ
half_front version snapshot opened = version ∷ (sized snapshot ++ opened)

-- These bytes are a half with this content. The first `used` bytes are in use, including the closed gate; the
-- bytes after the gate are not read.
pub record IsHalf (bytes : List ℕ) (content : Content) (used : ℕ) : Type 0 where
  pub opened : List ℕ
  pub following : List ℕ
  pub spelled : bytes ≡ half_front content.version content.snapshot opened ++ 0 ∷ following
  pub snapshot : length content.snapshot ≤ MAX_SNAPSHOT
  pub batches : IsOpened content.batches opened
  pub used_is : length (half_front content.version content.snapshot opened) + 1 ≡ used

-- the ASCII codes of "ACRRESET"
abbrev pub magic : List ℕ
magic = 65 ∷ 67 ∷ 82 ∷ 82 ∷ 69 ∷ 83 ∷ 69 ∷ 84 ∷ []

-- a half may have this size, in bytes
pub record IsHalfSize (half_size : ℕ) : Type 0 where
  pub smallest : MIN_HALF ≤ half_size
  pub greatest : half_size ≤ MAX_HALF

-- the bytes begin with a header, which holds this selector and this half size, and go on with `rest`
pub record HasHeader (bytes : List ℕ) (selector half_size : ℕ) (rest : List ℕ) : Type 0 where
  pub spelled : bytes ≡ (selector ∷ magic) ++ (to_be_bytes w64 half_size ++ rest)
  pub size : IsHalfSize half_size

-- the offset of a half after the header, in bytes; the halves have the numbers 0 and 1
abbrev pub half_start : ℕ → ℕ → ℕ
half_start half half_size = half * half_size

-- These bytes are the text of this content: a header, the bytes before the selected half, and the selected
-- half. An even selector selects half 0, an odd selector half 1. The selected half uses `used` bytes,
-- including its closed gate.
pub record IsTextAt (bytes : List ℕ) (content : Content) (half_size half used : ℕ) : Type 0 where
  pub selector : ℕ
  pub skipped : List ℕ
  pub half_bytes : List ℕ
  pub header : HasHeader bytes selector half_size (skipped ++ half_bytes)
  pub selected : selector % 2 ≡ half
  pub skips : length skipped ≡ half_start half half_size
  pub holds : IsHalf half_bytes content used
  pub fits : used ≤ half_size

-- the offset of the closed gate on the device, in bytes
abbrev pub gate_place : ℕ → ℕ → ℕ → ℕ
gate_place half_size half used = 16 + half_start half half_size + used

abbrev pub IsText : Content → List ℕ → Type 0
IsText content bytes = (half_size half used : ℕ) × IsTextAt bytes content half_size half used

-- these bytes are the text of some content, with this half selected
abbrev pub IsTextIn : ℕ → List ℕ → Type 0
IsTextIn half bytes = (content : Content) × (half_size : ℕ) × (used : ℕ) × IsTextAt bytes content half_size half used

-- these bytes are the text of some content, with this half selected, and a body of `len` bytes still fits into
-- the half
abbrev pub HasPlaceIn : ℕ → ℕ → List ℕ → Type 0
HasPlaceIn half len bytes = (content : Content) × (half_size : ℕ) × (used : ℕ) × IsTextAt bytes content half_size half used × (used + 5 + len ≤ half_size)

-- the content with this snapshot and no batch
abbrev pub without_batch : ℕ → List ℕ → Content
without_batch version snapshot = record { version = version; snapshot = snapshot; batches = [] }

abbrev pub with_batch : Content → List ℕ → Content
with_batch content batch = record { version = content.version; snapshot = content.snapshot; batches = content.batches ++ batch ∷ [] }

-- these bytes are the text of one of the two contents
abbrev pub IsEitherText : Content → Content → List ℕ → Type 0
IsEitherText one other bytes = IsText one bytes ⊎ IsText other bytes

-- the bytes of a newly formatted journal: half 0 is selected, and its closed gate is the last byte
abbrev pub formatted : ℕ → ℕ → List ℕ → List ℕ
formatted half_size version snapshot = (0 ∷ magic) ++ (to_be_bytes w64 half_size ++ (half_front version snapshot [] ++ 0 ∷ []))

-- The bytes after an append, with the closed gate at the offset `gate`: first the body and a new closed gate
-- are written after this gate, and then this gate is opened by a 1.
abbrev pub with_body_at : ℕ → List ℕ → List ℕ → List ℕ
with_body_at gate body bytes = overwritten (overwritten bytes (gate + 1) (sized body ++ 0 ∷ [])) gate (1 ∷ [])

-- The bytes after a replace: first a snapshot without a batch is written to the other half, and then the
-- number of that half is written as the selector.
abbrev pub with_half : ℕ → ℕ → ℕ → List ℕ → List ℕ → List ℕ
with_half half half_size version snapshot bytes = overwritten (overwritten bytes (17 + half_start half half_size) (half_front version snapshot [] ++ 0 ∷ [])) 0 (half ∷ [])

-- the number of bytes that these batches take
abbrev pub size_of : List (List ℕ) → ℕ
size_of [] = 0
size_of (batch ∷ batches) = 5 + length batch + size_of batches

-- the number of bytes that this content uses in its half, including the closed gate
abbrev pub used_by : Content → ℕ
used_by content = 6 + length content.snapshot + size_of content.batches
