use Rattle.std.proofs.Common.{◌≡◌, ◌++◌, map, take}
use Rattle.coord_ledger.specs.machine.After.{release_of}
use Rattle.coord_ledger.proofs.settling.push_all.Given as goal

abbrev pub invariant-loop-output : goal.invariant-loop-output
invariant-loop-output l = l.rows.items ≡ l.initial.rows.items ++ map (release_of l.step) (take l.output-index l.outputs)
