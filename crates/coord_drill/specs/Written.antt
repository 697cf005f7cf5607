-- The bytes that a drill reads and writes.
use Rattle.std.specs.Prelude.{◌≡◌, ℕ, ◌≤◌, List, ◌++◌, length, Option}
use Rattle.std.specs.Io.KnownBytes.{Appends, Consumes}

-- a proper prefix of a text
abbrev pub IsShortPart : List ℕ → List ℕ → Type 0
IsShortPart part text = (rest : List ℕ) × (text ≡ part ++ rest) × (1 ≤ length rest)

-- The writer got a text that satisfies P, and nothing else.
abbrev pub WritesPart : Option (List ℕ) → Option (List ℕ) → (List ℕ → Type 0) → Type 0
WritesPart old new P = (part : List ℕ) × Appends old new part × P part

-- The writer got a proper prefix of this text, and nothing else.
abbrev pub WritesShort : Option (List ℕ) → Option (List ℕ) → List ℕ → Type 0
WritesShort old new text = WritesPart old new (λ part. IsShortPart part text)

-- what is known about a reader and a writer at one moment
pub record InOut : Type 0 where
  pub unread : Option (List ℕ)
  pub written : Option (List ℕ)

-- The reader returned bytes, the writer got a text, and P holds for the two.
abbrev pub Exchanges : InOut → InOut → (List ℕ → List ℕ → Type 0) → Type 0
Exchanges old new P = (seen : List ℕ) × Consumes old.unread new.unread seen × WritesPart old.written new.written (P seen)
