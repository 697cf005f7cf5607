-- A growing history, and the prefixes of the history that tokens have read.
use Rattle.std.specs.Prelude.{◌≡◌, ℕ, List, [], ◌++◌}
use mathlib.Core.Option.{some}
use lib.ListN.{get_elem?}
use Rattle.atomic_table.specs.Seated.{TableId}
use Rattle.atomic_table.specs.Table.{Me, Step as TableStep}
use Rattle.coord_types.specs.declared.steps.Step.{Step}
use Rattle.coord_engine.specs.declared.history.Known.{Known}

-- The first list begins with the second list.
abbrev pub StartsWith : List Step → List Step → Type 0
StartsWith steps first = (others : List Step) × (steps ≡ first ++ others)

-- a prefix of a history: the identity of the history, and its first steps
pub record Beginning : Type 0 where
  pub history : TableId
  pub steps : List Step

abbrev pub knows : List Step → List Step → Known
knows read returned = record { read = read; returned = returned }

-- The prefixes that a token knows are prefixes of the history. The first token, with number 0, has read the
-- whole history.
pub record Fits (history : List Step) (token : ℕ) (v : Known) : Type 0 where
  pub read : StartsWith history v.read
  pub returned : StartsWith history v.returned
  pub whole : token ≡ 0 → v.read ≡ history

-- All tokens know prefixes of one history.
abbrev pub KnowOneHistory : List Known → Type 0
KnowOneHistory views = (history : List Step) × ((token : ℕ) (v : Known) → get_elem? views token ≡ some v → Fits history token v)

-- The token has now read exactly these steps.
abbrev pub IsWrittenOn : List Step → TableStep (Unit {0}) → Me (Unit {0}) Known → ℕ → Me (Unit {0}) Known → Type 0
IsWrittenOn steps s before found after = after ≡ (knows steps before.0.returned, before.1)

-- The update changes nothing. It shows that the compared prefix (`returned`) is a prefix of what the first
-- token has read.
abbrev pub IsCompared : TableStep (Unit {0}) → Me (Unit {0}) Known → ℕ → Me (Unit {0}) Known → Type 0
IsCompared s before found after = (after ≡ before) × StartsWith before.0.read before.0.returned

-- The token's new prefix extends both its old prefix and the other token's prefix (`returned`).
abbrev pub HasReadOn : TableStep (Unit {0}) → Me (Unit {0}) Known → ℕ → Me (Unit {0}) Known → Type 0
HasReadOn s before found after = StartsWith after.0.read before.0.read × StartsWith after.0.read before.0.returned × (after.1 ≡ before.1)

-- an identity that belongs to no history
abbrev pub no_history : TableId
no_history = record { words = 0; slots = 0; views_name = 0; atom = 0; block = 0; offset = 0; slot_names = [] }
