-- The reasons why a run ends early, and the number of device failures in the run.
use Rattle.std.specs.Prelude.{ℕ, ◌+◌, List, [], ◌∷◌}
use Rattle.coord_store.specs.Faults.{failed_in as failed_in_commit}
use Rattle.coord_store.specs.Refused.{failed_in as failed_in_opening}
use Rattle.coord_ledger.specs.declared.events.Answer.{Answer}
use Rattle.coord_ledger.specs.declared.events.Answer.TheVariants.{Failed}
use Rattle.coord_ledger.specs.declared.events.Event.{Event}
use Rattle.coord_ledger.specs.declared.events.Event.TheVariants.{Commit}
use Rattle.coord_ledger.specs.declared.trace.RunFaultKind.{RunFaultKind}
use Rattle.coord_ledger.specs.declared.trace.RunFaultKind.TheVariants.{OutOfMemory, Store}

abbrev pub run_fault_number : RunFaultKind → ℕ
run_fault_number OutOfMemory = 1
run_fault_number (Store fault) = 2

-- the number of device failures in the failed opening that ended a run with this fault; 0 if the run ended
-- because memory ran out
abbrev pub failed_in_run : RunFaultKind → ℕ
failed_in_run OutOfMemory = 0
failed_in_run (Store fault) = failed_in_opening fault

-- the number of device failures in an event with this answer; only the answer to a commit reports one
abbrev pub failed_at : Event → Answer → ℕ
failed_at Commit (Failed fault) = failed_in_commit fault
failed_at event answer = 0

-- the number of device failures in events with these answers
abbrev pub failed_until : List Event → List Answer → ℕ
failed_until [] given = 0
failed_until (e ∷ es) [] = 0
failed_until (e ∷ es) (a ∷ given) = failed_at e a + failed_until es given
