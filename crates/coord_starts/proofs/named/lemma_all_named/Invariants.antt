use Rattle.std.proofs.Common.{take}
use Rattle.std.specs.List.{AllByRecursion}
use Rattle.coord_ledger.specs.machine.Consistent.{EventInRange}
use Rattle.coord_starts.proofs.named.lemma_all_named.Given as goal

abbrev pub invariant-loop-event : goal.invariant-loop-event
invariant-loop-event l = AllByRecursion EventInRange (take l.event-index l.events)
