use Rattle.std.proofs.Common.{◌≡◌, ◌≤◌, take}
use Rattle.coord_world.specs.Facade.{Legal, fold}
use Rattle.coord_store.specs.Facade.{AllFresh, how_many_out}
use Rattle.coord_store.proofs.steps.judge_all.Given as goal

abbrev pub invariant-loop-index : goal.invariant-loop-index
invariant-loop-index l = (l.world ≡ fold l.initial.world (take l.index l.steps)) × AllFresh l.initial.world l.initial.world (take l.index l.steps) × Legal l.world × (l.index ≤ how_many_out l.initial.world l.steps)
