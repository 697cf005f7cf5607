use Rattle.std.proofs.Common.{◌≡◌, ◌≤◌, ◌+◌, ◌++◌, length, drop, deque_capacity}
use Rattle.proxy_core.specs.Machine.{left, picked}
use Rattle.proxy_core.proofs.choice.take_out.Given as goal

abbrev pub invariant-loop-i : goal.invariant-loop-i
invariant-loop-i l = record {
  out : l.flight.items ++ picked (drop l.i l.picks) l.waiting.items ≡ picked l.picks l.fn.waiting.items;
  stays : l.kept.items ++ left (drop l.i l.picks) l.waiting.items ≡ left l.picks l.fn.waiting.items;
  rest : length l.waiting.items + l.i ≡ length l.picks;
  few_out : length l.flight.items ≤ l.i;
  few_kept : length l.kept.items ≤ l.i;
  room_out : length l.picks ≤ deque_capacity l.flight;
  room_kept : length l.picks ≤ deque_capacity l.kept;
}
