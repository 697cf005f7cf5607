-- How a refused store is reported.
use Rattle.std.proofs.Common.{◌≡◌, Bool, true, Option, Some, refl, ap, inl, inr}
use Rattle.coord_store.specs.Refused.{IsPassing as IsStorePassing, failed_in as failed_in_store}
use Rattle.coord_store.specs.declared.faults.StoreFault.{StoreFault}
use Rattle.coord_store.specs.declared.faults.StoreFault.TheVariants as store
use Rattle.coord_ledger.specs.declared.events.Event.TheVariants.{Crash}
use Rattle.coord_ledger.specs.declared.trace.RunFaultKind.{RunFaultKind}
use Rattle.coord_ledger.specs.declared.trace.RunFaultKind.TheVariants as of_run
use Rattle.coord_ledger.specs.Facade.{IsEventFault, failed_in_run}
use Rattle.coord_drill.specs.Facade.{IsPassingFault, failed_by, reopen_fault, store_fault}

pub reported_failures : (why : StoreFault) → failed_by (store_fault why) ≡ failed_in_store why
reported_failures store.OutOfMemory = refl
reported_failures why = refl

-- out of memory, or a failure of the device
pub reported_passing : (why : StoreFault) → IsStorePassing why → IsPassingFault (store_fault why)
reported_passing why (inl memory) = inl (ap store_fault memory)
reported_passing why (inr device) = inr (ap store_fault device)

pub crash_failed : (kind : RunFaultKind) → failed_by (reopen_fault kind) ≡ failed_in_run kind
crash_failed of_run.OutOfMemory = refl
crash_failed (of_run.Store why) = reported_failures why

pub crash_cause : (model : Option Bool) (kind : RunFaultKind) → IsEventFault model Crash kind → model ≡ Some true → IsPassingFault (reopen_fault kind)
crash_cause model of_run.OutOfMemory cause on = inl refl
crash_cause model (of_run.Store why) cause on = reported_passing why (cause.2 on)
