use Rattle.std.proofs.Common.{◌≡◌, ◌-◌, []}
use Rattle.coord_batch.specs.Facade.{items_at, step}
use Rattle.coord_batch.proofs.input.Input.step_list.Given as goal

abbrev pub invariant-loop : goal.invariant-loop
invariant-loop l = items_at (λ _. step l.version) (l.count - l.counter) l.list.items l.self ≡ items_at (λ _. step l.version) l.count [] l.fn.self
