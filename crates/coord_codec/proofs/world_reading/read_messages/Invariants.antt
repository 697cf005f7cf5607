use Rattle.std.proofs.Common.{◌≡◌, ◌≤◌, ◌-◌, [], length}
use Rattle.coord_batch.specs.Facade.{items_at, message}
use Rattle.coord_codec.proofs.world_reading.read_messages.Given as goal

abbrev pub invariant-loop : goal.invariant-loop
invariant-loop l = record {
  read : items_at (λ _. message l.version l.most) (l.count - l.counter) l.lane.queue l.input ≡ items_at (λ _. message l.version l.most) l.count [] l.fn.input;
  few : length l.lane.queue ≤ l.counter;
  inc : l.lane.inc ≡ l.fn.lane.inc;
  base : l.lane.base ≡ l.fn.lane.base;
  got : l.lane.got ≡ l.fn.lane.got;
}
