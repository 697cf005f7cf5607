-- The history of a store: the steps that its world takes, and its migration to version 2.
use Rattle.std.specs.Prelude.{◌≡◌, ℕ, zero, suc, ◌+◌, ◌==◌, List, [], ◌∷◌, if◌then◌else◌}
use Rattle.coord_types.specs.declared.steps.Command.TheVariants.{Add}
use Rattle.coord_types.specs.declared.steps.Step.{Step}
use Rattle.coord_types.specs.declared.steps.Step.TheVariants.{Order}
use Rattle.coord_world.specs.Facade.{IsFresh, StepInRange, World, next}
use Rattle.coord_world.specs.laws.Raised.{raised}
use Rattle.coord_world.specs.laws.Waves.{AllReady}

pub data Turn : Type 0 where
  Takes : Step → Turn
  Raises : Turn

abbrev pub turned : World → Turn → World
turned w (Takes s) = next w s
turned w Raises = raised w

-- a turn of a world: a step that the world accepts, or the migration of a world of version 1 in which no node is in a reset
abbrev pub IsTurn : World → Turn → Type 0
IsTurn w (Takes s) = IsFresh w w s × StepInRange s
IsTurn w Raises = (w.version ≡ 1) × AllReady w

abbrev pub IsHistory : World → List Turn → Type 0
IsHistory w [] = Unit {0}
IsHistory w (t ∷ turns) = IsTurn w t × IsHistory (turned w t) turns

-- the world after the first k turns, or after all turns if there are fewer
abbrev pub world_at : World → ℕ → List Turn → World
world_at w zero turns = w
world_at w (suc k) [] = w
world_at w (suc k) (t ∷ turns) = world_at (turned w t) k turns

-- ---- the lives of a node

-- 1 if the turn adds node u, otherwise 0
abbrev pub adds : ℕ → Turn → ℕ
adds u (Takes (Order c n (Add v g))) = if v == u then 1 else 0
adds u t = 0

-- the life of node u after the first k turns: the number of times that it was added
abbrev pub life_at : ℕ → List Turn → ℕ → ℕ
life_at zero turns u = 0
life_at (suc k) [] u = 0
life_at (suc k) (t ∷ turns) u = adds u t + life_at k turns u
