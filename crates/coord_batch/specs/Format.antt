-- Formats. A format describes how values are encoded: it gives the encoding, the decoding from the left, and the values
-- that have an encoding.
use Rattle.std.specs.Prelude.{◌≡◌, ℕ, zero, suc, ◌^◌, ◌<◌, ◌==◌, nat_lt, Bool, true, List, [], ◌∷◌, ◌++◌, length, take, drop, Result, Ok, Err, if◌then◌else◌}
use Rattle.std.specs.List.{flat_map}
use Rattle.std.specs.Int.{Width, w16, w64, byte_len, from_be_bytes, to_be_bytes}
use Rattle.coord_batch.specs.declared.fault.Flaw.{Flaw}
use Rattle.coord_batch.specs.declared.fault.Flaw.TheVariants.{Short, BadByte, Extra}

-- the result of reading from the left: the value and the remaining bytes, or the first flaw
abbrev pub Read : Type 0 → Type 0
Read A = Result (A × List ℕ) Flaw

pub record Format (A : Type 0) : Type 1 where
  pub text : A → List ℕ
  pub read : List ℕ → Read A
  pub Fits : A → Type 0

infixl 10 ◌>>=◌
abbrev pub ◌>>=◌ : {A B : Type 0} → Result A Flaw → (A → Result B Flaw) → Result B Flaw
(Ok x) >>= f = f x
(Err e) >>= f = Err e

-- ---- fields

abbrev pub first_byte : List ℕ → Read ℕ
first_byte [] = Err Short
first_byte (b ∷ rest) = Ok (b, rest)

abbrev pub byte : Format ℕ
byte = record { text = λ n. n ∷ []; read = first_byte; Fits = λ n. n < 256 }

-- reads a number of the given width, most significant byte first
abbrev pub number_at : Width → List ℕ → Read ℕ
number_at w bytes = if nat_lt (length bytes) (byte_len w) then Err Short else Ok (from_be_bytes w (take (byte_len w) bytes), drop (byte_len w) bytes)

abbrev pub u16 : Format ℕ
u16 = record { text = to_be_bytes w16; read = number_at w16; Fits = λ n. n < 2 ^ 16 }

abbrev pub u64 : Format ℕ
u64 = record { text = to_be_bytes w64; read = number_at w64; Fits = λ n. n < 2 ^ 64 }

-- a field of no bytes, with the value 0
abbrev pub nothing : Format ℕ
nothing = record { text = λ n. []; read = λ bytes. Ok (0, bytes); Fits = λ n. n ≡ 0 }

-- ---- combinations of formats

-- the values that pass a test; if a value fails the test, the flaw is at the value's first byte
abbrev pub such_that : {A : Type 0} → (A → Bool) → Format A → Format A
such_that test f = record {
  text = f.text;
  read = λ bytes. f.read bytes >>= λ x. if test x.0 then Ok x else Err (BadByte (length bytes));
  Fits = λ x. f.Fits x × (test x ≡ true);
}

-- one format followed by another format, which may depend on the first value
abbrev pub followed : {A B : Type 0} → Format A → (A → Format B) → Format (A × B)
followed f g = record {
  text = λ p. f.text p.0 ++ (g p.0).text p.1;
  read = λ bytes. f.read bytes >>= λ x. (g x.0).read x.1 >>= λ y. Ok ((x.0, y.0), y.1);
  Fits = λ p. f.Fits p.0 × (g p.0).Fits p.1;
}

infixr 20 ◌&◌
abbrev pub ◌&◌ : {A B : Type 0} → Format A → Format B → Format (A × B)
f & g = followed f (λ _. g)

-- the format of a value that is made from parts: `make` makes the value, and `parts` takes it apart
abbrev pub made : {A B : Type 0} → (A → B) → (B → A) → Format A → Format B
made make parts f = record {
  text = λ y. f.text (parts y);
  read = λ bytes. f.read bytes >>= λ x. Ok (make x.0, x.1);
  Fits = λ y. (x : _) × f.Fits x × (y ≡ make x);
}

-- a byte that names the case, and then the value in the format of that case
abbrev pub cases : {A : Type 0} → ℕ → (A → ℕ) → (ℕ → Format A) → Format A
cases how_many which case = made (λ p. p.1) (λ x. (which x, x)) (followed (such_that (λ t. nat_lt t how_many) byte) case)

-- reads n more items; `front` is the items read so far, and the format of the next item may depend on them
unfoldable pub items_at : {A : Type 0} → (List A → Format A) → ℕ → List A → List ℕ → Read (List A)
items_at item zero front bytes = Ok (front, bytes)
items_at item (suc n) front bytes = (item front).read bytes >>= λ x. items_at item n (front ++ x.0 ∷ []) x.1

unfoldable pub FitAfter : {A : Type 0} → (List A → Format A) → List A → List A → Type 0
FitAfter item front [] = Unit {0}
FitAfter item front (x ∷ xs) = (item front).Fits x × FitAfter item (front ++ x ∷ []) xs

-- The number of items, and then the items. Whether an item is valid may depend on the items before it, but its encoding
-- does not.
abbrev pub counted : {A : Type 0} → Format ℕ → (List A → Format A) → Format (List A)
counted count item = record {
  text = λ xs. count.text (length xs) ++ flat_map (item []).text xs;
  read = λ bytes. count.read bytes >>= λ n. items_at item n.0 [] n.1;
  Fits = λ xs. count.Fits (length xs) × FitAfter item [] xs;
}

-- the value that was read, if no bytes remain
abbrev pub ended : {A : Type 0} → A × List ℕ → Result A Flaw
ended x = if length x.1 == 0 then Ok x.0 else Err (Extra (length x.1))

abbrev pub whole : {A : Type 0} → Format A → List ℕ → Result A Flaw
whole f bytes = f.read bytes >>= ended
