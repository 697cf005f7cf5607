use Rattle.std.proofs.Common.{◌≡◌, ◌++◌, length, take}
use Rattle.std.specs.List.{flat_map, AllByRecursion}
use Rattle.std.specs.Int.{w16, w64, to_be_bytes}
use Rattle.coord_batch.specs.Facade.{StepFits, step}
use Rattle.coord_batch.proofs.batch.write_batch.Given as goal

abbrev pub invariant-loop-step : goal.invariant-loop-step
invariant-loop-step l = (l.out.items ≡ (to_be_bytes w64 l.first ++ to_be_bytes w16 (length l.steps)) ++ flat_map (step l.version).text (take l.step-index l.steps)) × AllByRecursion (StepFits l.version) (take l.step-index l.steps)
