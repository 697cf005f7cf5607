use Rattle.std.proofs.Common.{◌≡◌, ◌+◌, drop}
use Rattle.coord_store.specs.Facade.{how_many_out}
use Rattle.coord_store.proofs.steps.how_many_out.Given as goal

-- the rest to be counted
abbrev pub invariant-loop-index : goal.invariant-loop-index
invariant-loop-index l = how_many_out l.settled l.steps ≡ l.index + how_many_out l.settled (drop l.index l.steps)
