-- A run that ends early: its answers and releases up to the end, the disk that is returned, and the reason.
--
-- A run ends early if an event is cut short; if the flight that is out can't be taken back after the last
-- event; or before the first event. The answers and releases are kept, and everything else is dropped. The
-- disk is returned as the last complete event left it. If the run ends in a crash, the disk is returned as it
-- is after one of its images was chosen.
use Rattle.std.specs.Prelude.{◌≡◌, ◌⊎◌, ℕ, ◌≤◌, Bool, true, false, List, [], ◌++◌, length, take, slice_get, Option, Some, None}
use Rattle.coord_disk.specs.Model.DiskModel.{DiskModel}
use Rattle.coord_store.specs.Facade.{IsOpenFault, IsPassing}
use Rattle.coord_ledger.specs.declared.events.Answer.{Answer}
use Rattle.coord_ledger.specs.declared.events.Event.{Event}
use Rattle.coord_ledger.specs.declared.events.Event.TheVariants.{Submit, Finish, Resend, Crash}
use Rattle.coord_ledger.specs.declared.mark.Mark.TheVariants.{Good}
use Rattle.coord_ledger.specs.declared.release.Release.{Release}
use Rattle.coord_ledger.specs.declared.trace.RunFaultKind.{RunFaultKind}
use Rattle.coord_ledger.specs.declared.trace.RunFaultKind.TheVariants.{OutOfMemory, Store}
use Rattle.coord_ledger.specs.machine.After.{after}
use Rattle.coord_ledger.specs.machine.Answers.{IsOneOf, answers}
use Rattle.coord_ledger.specs.machine.Machine.{FlightOut, Machine}
use Rattle.coord_ledger.specs.machine.Runs.{Answered, run}
use Rattle.coord_ledger.specs.promises.Headline.{EachMoment, Survives}
use Rattle.coord_ledger.specs.promises.Moments.{Reopens}

-- ---- an event that is cut short

-- Memory ran out while the releases of an event were appended to the list. The list got a prefix of the
-- releases that one of the possible answers has.
pub record IsLeftOut (before : Machine) (e : Event) (released : List Release) : Type 0 where
  pub answer : Answer
  pub allowed : IsOneOf answer (answers before e)
  pub more : List Release
  pub rest : List Release
  pub begins : released ≡ before.released ++ more
  pub ends : (after before e answer).released ≡ released ++ rest
  pub some : 1 ≤ length rest

-- The releases when an event is cut short, because memory runs out for a ticket, for a release or for the
-- ledger after a crash, or because the store is not opened after the crash.
abbrev pub IsCutShort : Machine → Event → RunFaultKind → List Release → Type 0
IsCutShort before (Submit step) OutOfMemory released = released ≡ before.released
IsCutShort before Finish OutOfMemory released = IsLeftOut before Finish released
IsCutShort before Resend OutOfMemory released = IsLeftOut before Resend released
IsCutShort before Crash kind released = released ≡ before.released
IsCutShort before event kind released = ⊥

-- A run ends in a crash, for which one of the disk's images was chosen. If memory for the ledger ran out, the
-- store had been opened.
pub record IsLostInCrash {D : Type 0} (model : DiskModel D) (crashes : D → D → Type 0) (before : Machine) (kind : RunFaultKind) (disk lost : D) : Type 0 where
  pub reopens : Reopens model crashes (Survives before) disk lost
  pub opened : kind ≡ OutOfMemory → Survives before (model.present lost).read

-- the disk that is returned when an event is cut short
abbrev pub IsGivenBack : {D : Type 0} → DiskModel D → (D → D → Type 0) → Bool → Machine → Event → RunFaultKind → D → D → Type 0
IsGivenBack model crashes keeps_model before Crash kind disk lost = keeps_model ≡ true → IsLostInCrash model crashes before kind disk lost
IsGivenBack model crashes keeps_model before event kind disk lost = lost ≡ disk

-- ---- a run

-- The run ended because memory ran out: nothing more was released, and the disk is returned unchanged.
pub record IsGivenUp {D : Type 0} (before : Machine) (kind : RunFaultKind) (released : List Release) (disk lost : D) : Type 0 where
  pub memory : kind ≡ OutOfMemory
  pub released_is : released ≡ before.released
  pub same : lost ≡ disk

-- A good flight is out: its steps were committed.
abbrev pub IsCommitted : Option FlightOut → Type 0
IsCommitted flight = (size : ℕ) × (flight ≡ Some (record { size = size; mark = Good }))

-- The reasons why a run ends at this event or, without an event, after the last event.
abbrev pub EndsAt : {D : Type 0} → DiskModel D → (D → D → Type 0) → Bool → Machine → Option Event → RunFaultKind → List Release → D → D → Type 0
EndsAt model crashes keeps_model before None kind released disk lost = IsGivenUp before kind released disk lost × IsCommitted before.flight
EndsAt model crashes keeps_model before (Some event) kind released disk lost = IsCutShort before event kind released × IsGivenBack model crashes keeps_model before event kind disk lost

-- A run that ended early, with the answers to the events before its end. The headline holds at each moment of
-- the run, even inside the event that was cut short. `run_events` ensures this when it returns a fault.
pub record EndedEarly {D : Type 0} (model : DiskModel D) (crashes : D → D → Type 0) (start : Machine) (events : List Event) (at : ℕ) (given : List Answer) (released : List Release) (kind : RunFaultKind) (keeps_model : Bool) (first lost : D) : Type 0 where
  pub within : at ≤ length events
  pub answered : Answered start (take at events) given
  pub disk : D  -- the disk as the last complete event left it
  pub moments : EachMoment model crashes keeps_model start (take at events) given first disk
  -- The run ran out of memory for the list of answers before the first event, or it ended at an event or after
  -- the last event.
  pub why : ((at ≡ 0) × IsGivenUp (run start (take at events) given) kind released disk lost) ⊎ EndsAt model crashes keeps_model (run start (take at events) given) (slice_get events at) kind released disk lost

-- ---- on any disk

-- whether an event allocates: it makes one of the run's lists grow, or creates the ledger again
abbrev pub wants_memory : Event → Bool
wants_memory (Submit step) = true
wants_memory Finish = true
wants_memory Resend = true
wants_memory Crash = true
wants_memory event = false

-- When a run may end early. `OutOfMemory`: at the start, for the list of answers; in an event for which
-- `wants_memory` is true; or at the end, when the flight is taken back. `Store`: only in a crash; if the disk
-- keeps the model, the fault is `OutOfMemory` or a failure of the device.
abbrev pub HasCauseToEnd : Bool → List Event → ℕ → List Release → RunFaultKind → Type 0
HasCauseToEnd keeps_model events at released OutOfMemory = ((at ≡ 0) × (released ≡ [])) ⊎ ((at ≡ length events) ⊎ ((e : Event) × ((slice_get events at ≡ Some e) × (wants_memory e ≡ true))))
HasCauseToEnd keeps_model events at released (Store fault) = (slice_get events at ≡ Some Crash) × IsOpenFault fault × (keeps_model ≡ true → IsPassing fault)
