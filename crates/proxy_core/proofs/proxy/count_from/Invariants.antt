use Rattle.std.proofs.Common.{◌≡◌, ◌≤◌, count_by, take}
use Rattle.proxy_core.specs.Pending.{is_from}
use Rattle.proxy_core.proofs.proxy.count_from.Given as goal

abbrev pub invariant-loop-i : goal.invariant-loop-i
invariant-loop-i l = record { counted : l.count ≡ count_by (is_from l.connection) (take l.i l.lines.items); few : l.count ≤ l.i }
