-- A text of which only a prefix was written.
use Rattle.std.specs.Prelude.{◌≡◌, ℕ, List, ◌++◌, Option}
use Rattle.std.specs.Io.KnownBytes.{Appends}

-- `part` is a prefix of the text
abbrev pub IsFirstPart : List ℕ → List ℕ → Type 0
IsFirstPart part text = (rest : List ℕ) × (text ≡ part ++ rest)

-- a prefix of the text was appended to the writer's content, and nothing else
abbrev pub WritesFirstPart : Option (List ℕ) → Option (List ℕ) → List ℕ → Type 0
WritesFirstPart old new text = (part : List ℕ) × Appends old new part × IsFirstPart part text
