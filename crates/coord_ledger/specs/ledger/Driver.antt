-- A driver's disk, which is held by its ledger or by its flight, and how calls change the driver.
use Rattle.std.specs.Prelude.{◌≡◌, ◌⊎◌, ℕ, List, [], Bool, true, false, Option, Some, None, length}
use Rattle.std.specs.Option.{option_map}
use Rattle.coord_disk.specs.Model.Present.{Present, IsImage}
use Rattle.coord_disk.specs.Model.DiskModel.{DiskModel}
use Rattle.coord_store.specs.Facade.{IsOpenFault, IsPassing, Recovered, RefusesOpen}
use Rattle.coord_store.specs.declared.faults.StoreFault.{StoreFault}
use Rattle.coord_world.specs.protocol.NumberedWorld.{World}
use Rattle.coord_ledger.specs.declared.events.Answer.{Answer}
use Rattle.coord_ledger.specs.declared.events.Event.{Event}
use Rattle.coord_ledger.specs.declared.events.Event.TheVariants.{Crash}
use Rattle.coord_ledger.specs.declared.trace.RunFaultKind.{RunFaultKind}
use Rattle.coord_ledger.specs.declared.trace.RunFaultKind.TheVariants.{OutOfMemory, Store}
use Rattle.coord_ledger.specs.ledger.Calls.{taken_back}
use Rattle.coord_ledger.specs.ledger.DriverState.{DriverState, disk_held}
use Rattle.coord_ledger.specs.ledger.Simulates.{Represents}
use Rattle.coord_ledger.specs.ledger.State.{FlightState, LedgerState, ledger_over, started}
use Rattle.coord_ledger.specs.machine.Consistent.{IsConsistent}
use Rattle.coord_ledger.specs.machine.Machine.{Machine}
use Rattle.coord_ledger.specs.machine.Runs.{Answered, run}
use Rattle.coord_ledger.specs.promises.Broken.{IsGivenBack, wants_memory}
use Rattle.coord_ledger.specs.promises.Headline.{CrashPrefix, EachMoment, Touches, is_crash}
use Rattle.coord_ledger.specs.promises.Moments.{Reopens}

-- The device has failed this many times.
abbrev pub HasFailed : {D : Type 0} → (D → ℕ) → Option D → ℕ → Type 0
HasFailed failures disk n = option_map failures disk ≡ Some n

-- a ledger after its flight, if one was out, was taken back
abbrev pub brought_home : {D : Type 0} → LedgerState D → Option (FlightState D) → LedgerState D
brought_home l None = l
brought_home l (Some f) = taken_back l (length f.steps) f.mark f.disk

-- When the driver is proved to follow the machine: at every event if the disk keeps the model, otherwise at
-- every event except a crash.
abbrev pub IsPromised : Option Bool → Event → Type 0
IsPromised model e = (model ≡ Some true) ⊎ (is_crash e ≡ false)

-- Some crash image of this disk gives this world.
pub record AnImageGives (present : Present) (world : World) : Type 0 where
  pub image : List ℕ
  pub allowed : IsImage present image
  pub recovered : Recovered image world

-- A ledger was created after a crash of the disk `before`. Its world is given by one of that disk's images.
pub record IsReopened {D : Type 0} (model : DiskModel D) (crashes : D → D → Type 0) (before : D) (l : LedgerState D) : Type 0 where
  pub world : World
  pub disk : D
  pub is : l ≡ ledger_over world disk
  pub same_model : model.keeps_model disk ≡ model.keeps_model before
  pub from : model.keeps_model before ≡ true → AnImageGives (model.present before) world
  pub moments : model.keeps_model before ≡ true → Reopens model crashes (IsImage (model.present before)) before disk

-- Some crash image of this disk is refused with this fault.
pub record AnImageIsRefused (present : Present) (fault : StoreFault) : Type 0 where
  pub image : List ℕ
  pub allowed : IsImage present image
  pub refused : RefusesOpen image fault

-- The returned disk reads as one of the crash images of the disk before the crash, and its bytes give a world.
pub record IsOpenedOnce (present lost : Present) : Type 0 where
  pub allowed : IsImage present lost.read
  pub world : World
  pub recovered : Recovered lost.read world

-- The reasons why no ledger was created after a crash of this disk. `OutOfMemory`: the store was opened, but
-- memory for the ledger ran out. `Store`: the store was not opened, for this reason.
abbrev pub IsReopenFault : Bool → Present → Present → RunFaultKind → Type 0
IsReopenFault keeps_model present lost OutOfMemory = keeps_model ≡ true → IsOpenedOnce present lost
IsReopenFault keeps_model present lost (Store fault) = IsOpenFault fault × (keeps_model ≡ true → AnImageIsRefused present fault)

-- the reasons why an event was not answered
abbrev pub IsEventFault : Option Bool → Event → RunFaultKind → Type 0
IsEventFault model e OutOfMemory = wants_memory e ≡ true
IsEventFault model e (Store fault) = (e ≡ Crash) × IsOpenFault fault × (model ≡ Some true → IsPassing fault)

-- The event led from the driver's old disk to a new disk, which the driver now holds.
pub record DiskAfter {D : Type 0} (model : DiskModel D) (crashes : D → D → Type 0) (found : Machine) (touches : Bool) (e : Event) (old : D) (now : Option D) : Type 0 where
  pub new : D
  pub holds : now ≡ Some new
  pub touched : Touches model crashes (model.keeps_model old) found touches e old new

-- The effect of an event on the driver's disk, if a crash inside the event finds the machine `found`. `model`
-- has the ghost members of the disk's type, which say what its disks may hold. `crashes` says which disks a
-- crash may leave.
abbrev pub DiskEffect : {D : Type 0} → DiskModel D → (D → D → Type 0) → Machine → Bool → Event → Option D → Option D → Type 0
DiskEffect {D} model crashes found touches e was now =
    (old : D) → was ≡ Some old → DiskAfter model crashes found touches e old now

-- An event was cut short, and the disk `lost` was returned.
abbrev pub IsLost : {D : Type 0} → DiskModel D → (D → D → Type 0) → Machine → Event → RunFaultKind → Option D → D → Type 0
IsLost {D} model crashes s e kind was lost =
    (old : D) → was ≡ Some old → IsGivenBack model crashes (model.keeps_model old) s e kind old lost

-- Whatever a crash between two events may leave on the driver's disk survives.
abbrev pub DiskSurvives : {D : Type 0} → DiskModel D → Option D → Machine → Type 0
DiskSurvives {D} model held s = (disk : D) → held ≡ Some disk → CrashPrefix s (model.keeps_model disk) (model.present disk)

-- The driver's state after events with these answers, if the first event began with the disk `first`.
pub record RunSoFar {D : Type 0} (model : DiskModel D) (crashes : D → D → Type 0) (keeps_model : Bool) (first : D) (start : LedgerState D) (events : List Event) (given : List Answer) (d : DriverState D) : Type 0 where
  pub answered : Answered (started start) events given
  pub consistent : IsConsistent (run (started start) events given)
  pub represents : Represents d (run (started start) events given)
  pub disk : D
  pub holds : disk_held d ≡ Some disk
  pub moments : EachMoment model crashes keeps_model (started start) events given first disk

-- A run of events may begin at this driver: the driver is the result of a run without events from its ledger's
-- disk.
pub record MayBegin {D : Type 0} (model : DiskModel D) (crashes : D → D → Type 0) (d : DriverState D) : Type 0 where
  pub first : D
  pub home : d.ledger.disk ≡ Some first
  pub so_far : RunSoFar model crashes (model.keeps_model first) first d.ledger [] [] d
