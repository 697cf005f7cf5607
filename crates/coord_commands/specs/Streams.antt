-- The streams of a run: its input, its output, and standard error.
use Rattle.std.specs.Prelude.{ℕ, List, ◌∷◌, Option, option_map}

-- the unread rest of the input, and the contents of the output and of standard error, each if it is
-- known
pub record Streams : Type 0 where
  pub input : Option (List ℕ)
  pub output : Option (List ℕ)
  pub errors : Option (List ℕ)

-- the known content of a lent output, preceded by the number that identifies the output
abbrev pub known_as : ℕ → Option (List ℕ) → Option (List ℕ)
known_as number bytes = option_map (λ known. number ∷ known) bytes

-- the streams themselves, and their known contents
pub record StreamsState (R W E : Type 0) : Type 0 where
  pub input : R
  pub output : W
  pub errors : E
  pub known : Streams
