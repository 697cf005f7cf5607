use Rattle.std.proofs.Common.{◌≡◌, take}
use Rattle.coord_ledger.specs.code.Holding.{listed, released_from}
use Rattle.coord_ledger.proofs.settling.released.Given as goal

abbrev pub invariant-loop-place : goal.invariant-loop-place
invariant-loop-place l = l.rows.items ≡ released_from l.first (take l.place (listed l.given.items))
