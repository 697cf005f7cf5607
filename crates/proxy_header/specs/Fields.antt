-- Fields that consist of a type, a length and a value.
use Rattle.std.specs.Prelude.{◌≡◌, ℕ, ◌+◌, ◌*◌, ◌==◌, if◌then◌else◌, List, [], ◌∷◌, ◌++◌, length}

pub record Field : Type 0 where
  pub kind : ℕ
  pub value : List ℕ

-- a length in two bytes, the high byte first
abbrev pub length_in : ℕ → ℕ → ℕ
length_in high low = high * 256 + low

-- These bytes begin with this field: one byte for its type, two for the length of its value, and the value.
-- `rest` is the bytes after it.
pub record IsField (bytes : List ℕ) (f : Field) (rest : List ℕ) : Type 0 where
  pub high : ℕ
  pub low : ℕ
  pub bytes_are : bytes ≡ f.kind ∷ high ∷ low ∷ (f.value ++ rest)
  pub length_is : length f.value ≡ length_in high low

-- These bytes consist of exactly these fields, in order.
abbrev pub AreFields : List ℕ → List Field → Type 0
AreFields bytes [] = bytes ≡ []
AreFields bytes (f ∷ fields) = (rest : List ℕ) × IsField bytes f rest × AreFields rest fields

-- the values of the fields of one type, in order
abbrev pub values_of : ℕ → List Field → List (List ℕ)
values_of kind [] = []
values_of kind (f ∷ fields) = if f.kind == kind then f.value ∷ values_of kind fields else values_of kind fields

-- The bytes consist of whole fields, exactly one of which has this type, and it has this value.
pub record HasOne (kind : ℕ) (value bytes : List ℕ) : Type 0 where
  pub fields : List Field
  pub are : AreFields bytes fields
  pub one : values_of kind fields ≡ value ∷ []
