use Rattle.std.proofs.Common.{◌≡◌, drop}
use Rattle.coord_ledger.proofs.settling.drop_first.Given as goal

abbrev pub invariant-loop-place : goal.invariant-loop-place
invariant-loop-place l = l.given.items ≡ drop l._place l.initial.given.items
