-- Chains of parents have no cycle: this is the purpose of distances.
use Rattle.std.specs.Prelude.{◌≡◌, ℕ, false, List, [], ◌∷◌, Some}
use Rattle.coord_world.specs.protocol.Legal.{Legal}
use Rattle.coord_world.specs.protocol.Links.{is_ready, readies}
use Rattle.coord_world.specs.protocol.NumberedWorld.{World, state, view}
use Rattle.coord_world.specs.protocol.Ranges.{InRange}

-- u is v's parent, both are in a reset, and no Ready is in transit from u to v
pub record IsAbove (w : World) (u v : ℕ) : Type 0 where
  pub above : is_ready (state w u).mode ≡ false
  pub below : is_ready (state w v).mode ≡ false
  pub parent : (state w v).parent ≡ Some u
  pub unreleased : readies ((view w).in_transit u v) ≡ 0

-- a path from u to v in which each node is above the next one, in the sense of `IsAbove`
abbrev pub IsChain : World → ℕ → List ℕ → ℕ → Type 0
IsChain w u [] v = u ≡ v
IsChain w u (x ∷ path) v = IsAbove w u x × IsChain w x path v

-- in a legal world of version 2, no chain of parents returns to its first node
abbrev pub NoParentCycle : Type 0
NoParentCycle = (w : World) (u : ℕ) (path : List ℕ) → InRange w → Legal w → w.version ≡ 2 → IsChain w u path u → path ≡ []
