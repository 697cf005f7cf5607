use Rattle.std.proofs.Common.{◌≡◌, take}
use Rattle.coord_world.specs.Facade.{Legal, fold}
use Rattle.coord_store.proofs.steps.take_all.Given as goal

abbrev pub invariant-loop-step : goal.invariant-loop-step
invariant-loop-step l = (l.world ≡ fold l.initial.world (take l.step-index l.steps)) × Legal l.world
