use Rattle.std.proofs.Common.{take}
use Rattle.std.specs.List.{AllByRecursion}
use Rattle.coord_world.specs.protocol.Ranges.{StepInRange}
use Rattle.coord_store.proofs.steps.lemma_in_ranges.Given as goal

abbrev pub invariant-loop-step : goal.invariant-loop-step
invariant-loop-step l = AllByRecursion StepInRange (take l.step-index l.steps)
