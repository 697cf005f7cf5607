-- Steps that a world accepts one after another.
use Rattle.std.specs.Prelude.{◌≡◌, List, ◌∷◌, ◌++◌}
use Rattle.coord_types.specs.declared.steps.Step.{Step}
use Rattle.coord_world.specs.protocol.NumberedWorld.{World}
use Rattle.coord_world.specs.protocol.Next.{fold}
use Rattle.coord_world.specs.protocol.Acceptance.{IsFresh}

-- Each step is fresh over the world after all steps before it, if the settled world is the world after some prefix of those steps
abbrev pub InTurn : World → List Step → Type 0
InTurn w steps =
    (before rest : List Step) (s : Step) → steps ≡ before ++ s ∷ rest →
    (settled : List Step) × ((pending : List Step) × ((before ≡ settled ++ pending) × IsFresh (fold w before) (fold w settled) s))
