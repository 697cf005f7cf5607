-- Trails: lists of steps that a world accepts one after another.
use Rattle.std.specs.Prelude.{◌≡◌, ℕ, ◌+◌, List, [], ◌∷◌, ◌++◌, length, take, drop, All}
use Rattle.coord_types.specs.declared.steps.Step.{Step}
use Rattle.coord_world.specs.protocol.Acceptance.{IsFresh}
use Rattle.coord_world.specs.protocol.Legal.{Legal}
use Rattle.coord_world.specs.protocol.Next.{fold}
use Rattle.coord_world.specs.protocol.NumberedWorld.{World}
use Rattle.coord_world.specs.protocol.Outputs.{outs}
use Rattle.coord_world.specs.protocol.Ranges.{InRange, StepInRange}
use Rattle.coord_world.specs.protocol.InTurn.{InTurn}

-- a legal world within its ranges
pub record IsSound (w : World) : Type 0 where
  pub in_range : InRange w
  pub legal : Legal w

-- a trail: steps in turn, each in its ranges, from a sound base
pub record IsTrail (base : World) (trail : List Step) : Type 0 where
  pub sound : IsSound base
  pub in_turn : InTurn base trail
  pub named : All StepInRange trail

-- the world after the first n steps of a trail is legal and in its ranges
abbrev pub TrailKeepsWorlds : Type 0
TrailKeepsWorlds = (base : World) (trail : List Step) (n : ℕ) → IsTrail base trail → IsSound (fold base (take n trail))

-- The first n steps of a trail are a trail, and the remaining steps are a trail from the world after them. Together they lead to
-- the same world, with the same outputs, as the whole trail
pub record IsCut (base : World) (trail : List Step) (n : ℕ) : Type 0 where
  pub first : IsTrail base (take n trail)
  pub others : IsTrail (fold base (take n trail)) (drop n trail)
  pub whole : fold (fold base (take n trail)) (drop n trail) ≡ fold base trail
  pub outputs : outs base (take n trail) ++ outs (fold base (take n trail)) (drop n trail) ≡ outs base trail

abbrev pub TrailIsCut : Type 0
TrailIsCut = (base : World) (trail : List Step) (n : ℕ) → IsTrail base trail → IsCut base trail n

-- a trail followed by a step is a trail, if the step is fresh over the trail's world, with the world after the first d steps as
-- the settled world
abbrev pub TrailGoesOn : Type 0
TrailGoesOn = (base : World) (trail : List Step) (d : ℕ) (s : Step) → IsTrail base trail → StepInRange s → IsFresh (fold base trail) (fold base (take d trail)) s → IsTrail base (trail ++ s ∷ [])

-- each step adds one to the count
abbrev pub FoldCounts : Type 0
FoldCounts = (base : World) (steps : List Step) → (fold base steps).count ≡ base.count + length steps
