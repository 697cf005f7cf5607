-- The precondition for carrying out a step.
use Rattle.coord_types.specs.declared.steps.Step.{Step}
use Rattle.coord_world.specs.protocol.NumberedWorld.{World}
use Rattle.coord_world.specs.protocol.Acceptance.{IsFresh}
use Rattle.coord_world.specs.protocol.Legal.{Legal}
use Rattle.coord_world.specs.protocol.Ranges.{InRange, StepInRange}

-- the world is legal and in its ranges, and the step is fresh and in its ranges
pub record IsReadyFor (w : World) (s : Step) : Type 0 where
  pub ranges : InRange w
  pub legal : Legal w
  pub fresh : IsFresh w w s
  pub named : StepInRange s
