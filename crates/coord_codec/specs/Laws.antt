-- The laws of the encodings of worlds.
use Rattle.std.specs.Prelude.{◌≡◌, ℕ, List, ◌∷◌, ◌++◌, length, Err}
use Rattle.coord_world.specs.Facade.{InRange, World, rows_of}
use Rattle.coord_batch.specs.Decoding.{decoded, fault_at}
use Rattle.coord_batch.specs.declared.fault.FaultKind.TheVariants.{Short, Extra}
use Rattle.coord_codec.specs.Worlds.{world}

-- no encoding is a prefix of another encoding: bytes that begin with an encoding determine the
-- world
abbrev pub WorldsArePrefixFree : Type 0
WorldsArePrefixFree = (v w : World) (rest more : List ℕ) → InRange v → InRange w → v.version ≡ w.version → (world v.version).text (rows_of v) ++ rest ≡ (world v.version).text (rows_of w) ++ more → (v ≡ w) × (rest ≡ more)

-- a proper prefix of an encoding is refused as Short, at its own length
abbrev pub CutWorldsAreShort : Type 0
CutWorldsAreShort = (w : World) (front rest : List ℕ) (b : ℕ) → InRange w → (world w.version).text (rows_of w) ≡ front ++ b ∷ rest → decoded world w.version front ≡ Err (fault_at Short (length front))

-- an encoding followed by at least one byte is refused as Extra, at the length of the encoding
abbrev pub BytesAfterWorldsAreExtra : Type 0
BytesAfterWorldsAreExtra = (w : World) (rest : List ℕ) (b : ℕ) → InRange w →
    decoded world w.version ((world w.version).text (rows_of w) ++ b ∷ rest) ≡ Err (fault_at Extra (length ((world w.version).text (rows_of w))))
