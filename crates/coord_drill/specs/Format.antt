-- Formats of word lists. One description states how a value is written as words and how it is read again.
use Rattle.std.specs.Prelude.{◌≡◌, ℕ, List, [], ◌∷◌, ◌++◌, bytes_eq, Option, Some, None, option_and_then, if◌then◌else◌}

infixl 10 ◌>>=◌
abbrev pub ◌>>=◌ : {A B : Type 0} → Option A → (A → Option B) → Option B
o >>= f = option_and_then f o

abbrev pub Word : Type 0
Word = List ℕ

-- the result of reading: a value and the remaining words, or None
abbrev pub Read : Type 0 → Type 0
Read A = Option (A × List Word)

-- a format; writing returns None for a value that it can't write
pub record Format (A : Type 0) : Type 0 where
  pub spell : A → Option (List Word)
  pub read : List Word → Read A

-- reads one word
abbrev pub read_word : {A : Type 0} → (Word → Option A) → List Word → Read A
read_word of_word [] = None
read_word of_word (w ∷ ws) = of_word w >>= λ x. Some (x, ws)

abbrev pub field : {A : Type 0} → (A → Option Word) → (Word → Option A) → Format A
field word_of of_word = record { spell = λ x. word_of x >>= λ w. Some (w ∷ []); read = read_word of_word }

-- the format that has no words
abbrev pub nothing : Format (Unit {0})
nothing = record { spell = λ _. Some []; read = λ ws. Some (tt, ws) }

-- one format followed by another
infixr 20 ◌&◌
abbrev pub ◌&◌ : {A B : Type 0} → Format A → Format B → Format (A × B)
f & g = record {
  spell = λ p. f.spell p.0 >>= λ ws. g.spell p.1 >>= λ vs. Some (ws ++ vs);
  read = λ ws. f.read ws >>= λ x. g.read x.1 >>= λ y. Some ((x.0, y.0), y.1);
}

-- the format of a value with parts: `make` builds the value from its parts, and `parts` takes the value
-- apart
abbrev pub made : {A B : Type 0} → (A → B) → (B → Option A) → Format A → Format B
made make parts f = record {
  spell = λ y. parts y >>= f.spell;
  read = λ ws. f.read ws >>= λ x. Some (make x.0, x.1);
}

-- a row of a table: a verb, and the format of its fields
pub record Row (A : Type 0) : Type 0 where
  pub verb : Word
  pub fields : Format A

abbrev pub spell_row : {A : Type 0} → Row A → A → Option (List Word)
spell_row row x = row.fields.spell x >>= λ ws. Some (row.verb ∷ ws)

abbrev pub or_else : {A : Type 0} → Option A → Option A → Option A
or_else None other = other
or_else (Some x) other = Some x

abbrev pub spell_by : {A : Type 0} → List (Row A) → A → Option (List Word)
spell_by [] x = None
spell_by (row ∷ rows) x = or_else (spell_row row x) (spell_by rows x)

-- reads the fields after this verb in the format of the verb's row; None if no row has the verb
abbrev pub read_by : {A : Type 0} → List (Row A) → Word → List Word → Read A
read_by [] verb ws = None
read_by (row ∷ rows) verb ws = if bytes_eq verb row.verb then row.fields.read ws else read_by rows verb ws

abbrev pub read_first : {A : Type 0} → List (Row A) → List Word → Read A
read_first rows [] = None
read_first rows (verb ∷ ws) = read_by rows verb ws

-- the format of a table: a value is written and read in the format of one row
abbrev pub one_of : {A : Type 0} → List (Row A) → Format A
one_of rows = record { spell = spell_by rows; read = read_first rows }

-- A parser in the code returns this value and leaves these words unread, in accordance with `read`.
abbrev pub ReadsWords : {A : Type 0} → Read A → Option A → List Word → Type 0
ReadsWords read None left = read ≡ None
ReadsWords read (Some x) left = read ≡ Some (x, left)
