-- The effect of a line on the drill's disk at each moment, in terms of the functions of the code.
--
-- The events of a line lead from one driver to another, whatever machine the first driver represents. The
-- line's text and the drill's new state depend on the same answers to these events. The machine may give these
-- answers, the second driver represents the machine after them, and the headline's chain of moments
-- (`EachMoment`) leads from the disk before the line to the disk after it.
use Rattle.std.specs.Prelude.{◌≡◌, ◌≢◌, ◌⊎◌, ℕ, ◌+◌, List, [], ◌∷◌, length, take, false, true, Option, Some, Result}
use Rattle.std.specs.List.{AllByRecursion}
use Rattle.coord_disk.specs.Model.Moments.{LeavesOnly}
use Rattle.coord_disk.specs.Model.DiskModel.{DiskModel}
use Rattle.coord_store.specs.Facade.{GivesEither}
use Rattle.coord_store.specs.Migrating.{risen}
use Rattle.coord_store.specs.Kept.{made}
use Rattle.coord_types.specs.declared.refusals.Refusal.{Refusal}
use Rattle.coord_types.specs.declared.refusals.Refusal.TheVariants.{OutOfMemory}
use Rattle.coord_types.specs.declared.steps.Reply.{Reply}
use Rattle.coord_types.specs.declared.steps.Step.{Step}
use Rattle.coord_world.specs.Facade.{no_world}
use Rattle.coord_ledger.specs.declared.events.Answer.{Answer}
use Rattle.coord_ledger.specs.declared.events.Answer.TheVariants.{Refused}
use Rattle.coord_ledger.specs.declared.events.Event.{Event}
use Rattle.coord_ledger.specs.declared.events.Event.TheVariants.{Submit}
use Rattle.coord_ledger.specs.declared.handed.Handed.{Handed}
use Rattle.coord_ledger.specs.Facade.{Answered, CrashPrefix, DriverState, EachMoment, EventInRange, HandedTo, HasFailed, IsConsistent, LedgerState, Machine, MayBegin, Reopens, Represents, Survives, answer_to, disk_held, failed_until, has_stopped, ledger_over, model_held, run, settled_world, started}
use Rattle.coord_drill.specs.Answered.{IsAnswered, flight_lines}
use Rattle.coord_drill.specs.Course.{IsSettled, Place, start}
use Rattle.coord_drill.specs.Drill.{flight_events, line_events, machine_of, seen_as}
use Rattle.coord_drill.specs.Faults.{IsOfMemory, IsPassingFault, failed_by}
use Rattle.coord_drill.specs.Holding.{IsEmptyLog, state_of}
use Rattle.coord_drill.specs.declared.asked.Asked.{Asked}
use Rattle.coord_drill.specs.declared.asked.Asked.TheVariants.{Crash, Version2}
use Rattle.coord_drill.specs.declared.drill.Drill.{Drill}
use Rattle.coord_drill.specs.declared.drill.TheConstants.{HALF_SIZE}
use Rattle.coord_drill.specs.declared.fault.Fault.{Fault}

-- ---- events

-- These events have led from one driver to another. The first driver represents this machine.
pub record Led {D : Type 0} (disk : DiskModel D) (crashes : D → D → Type 0) (s : Machine) (events : List Event) (given : List Answer) (d new : DriverState D) : Type 0 where
  pub in_range : AllByRecursion EventInRange events
  pub answered : Answered s events given
  pub consistent : IsConsistent (run s events given)
  pub represents : Represents new (run s events given)
  pub moments : (old : D) → disk_held d ≡ Some old → disk.keeps_model old ≡ true → (now : D) × (disk_held new ≡ Some now) × (disk.keeps_model now ≡ true) × EachMoment disk crashes true s events given old now
  pub failed : (n : ℕ) → HasFailed disk.failures (disk_held d) n → HasFailed disk.failures (disk_held new) (n + failed_until events given)

-- These events lead from one driver to another, whatever machine the first driver represents.
abbrev pub Leads : {D : Type 0} → DiskModel D → (D → D → Type 0) → DriverState D → List Event → List Answer → DriverState D → Type 0
Leads disk crashes d events given new = (s : Machine) → IsConsistent s → Represents d s → Led disk crashes s events given d new

-- A driver represents the machine over its own log.
pub record Begins {D : Type 0} (d : DriverState D) : Type 0 where
  pub consistent : IsConsistent (started d.ledger)
  pub represents : Represents d (started d.ledger)

-- The events of a flight with these answers lead from one driver to another.
abbrev pub GoesBy : {D : Type 0} → DiskModel D → (D → D → Type 0) → DriverState D → List Answer → DriverState D → Type 0
GoesBy disk crashes d given new = Leads disk crashes d (flight_events given) given new

-- A prefix of these events was answered, and then the drill returned its disk.
pub record LeadsPart {D : Type 0} (disk : DiskModel D) (crashes : D → D → Type 0) (d : DriverState D) (events : List Answer → List Event) (lost : D) : Type 0 where
  pub given : List Answer
  pub mid : DriverState D
  pub moments : Leads disk crashes d (take (length given) (events given)) given mid
  pub left : disk_held mid ≡ Some lost

-- A step was submitted to a driver.
pub record Hands {D : Type 0} (disk : DiskModel D) (crashes : D → D → Type 0) (d : DriverState D) (x : Step) (answer : Result Handed Refusal) (new : DriverState D) : Type 0 where
  pub handed : HandedTo d.ledger x answer new.ledger
  pub flight : new.flight ≡ d.flight
  pub stays : disk_held new ≡ disk_held d
  pub moments : Leads disk crashes d (Submit x ∷ []) (answer_to answer ∷ []) new

-- ---- the line `version 2`

-- These bytes give the settled world, in its own version or in version 2.
abbrev pub GivesRaised : {D : Type 0} → DriverState D → List ℕ → Type 0
GivesRaised d = GivesEither (settled_world d.ledger.log) (risen (settled_world d.ledger.log))

-- The ledger's store was migrated, and is the store of the new ledger. If the old ledger had not stopped, its
-- disk gave the settled world at each moment, in its own version or in version 2.
pub record RaisesTo {D : Type 0} (disk : DiskModel D) (crashes : D → D → Type 0) (d new : DriverState D) : Type 0 where
  pub begins : MayBegin disk crashes new
  pub old : D
  pub there : disk_held d ≡ Some old
  pub raised : D
  pub is : new.ledger ≡ ledger_over (risen (settled_world d.ledger.log)) raised
  pub now : disk_held new ≡ Some raised
  pub keeps : disk.keeps_model old ≡ true → disk.keeps_model raised ≡ true
  pub failed : disk.failures raised ≡ disk.failures old
  pub moments : has_stopped d.ledger.log ≡ false → disk.keeps_model old ≡ true → LeavesOnly disk old raised (GivesRaised d)

-- A migration as in `RaisesTo` ended early with this fault, and this disk was returned.
pub record RaisesPart {D : Type 0} (disk : DiskModel D) (d : DriverState D) (refused : Fault × D) : Type 0 where
  pub old : D
  pub there : disk_held d ≡ Some old
  pub moments : has_stopped d.ledger.log ≡ false → disk.keeps_model old ≡ true → LeavesOnly disk old refused.1 (GivesRaised d)
  pub cause : IsEmptyLog d.ledger.log → IsPassingFault refused.0
  pub failed : disk.failures refused.1 ≡ disk.failures old + failed_by refused.0

-- ---- requests

-- The request leads from one drill to another, by its events or by migrating the store.
abbrev pub LeadsBy : {D : Type 0} → DiskModel D → (D → D → Type 0) → Asked → Drill D → List Answer → Drill D → Type 0
LeadsBy disk crashes Version2 d given new = RaisesTo disk crashes d.driver new.driver
LeadsBy disk crashes a d given new = Leads disk crashes d.driver (line_events d.holds a given) given new.driver

-- The request may print this text and leave the drill in this state. The text, the state and the disk depend on
-- the same answers to the request's events.
pub record Carries {D : Type 0} (disk : DiskModel D) (crashes : D → D → Type 0) (d : Drill D) (a : Asked) (reported : List ℕ) (new : Drill D) : Type 0 where
  pub given : List Answer
  pub answered : IsAnswered (state_of d) a given reported (state_of new)
  pub moments : LeadsBy disk crashes a d given new

-- The condition for the promises about the moments of this line: the disk keeps the model, and `version 2`
-- comes before any step.
abbrev pub LineIsPromised : {D : Type 0} → DiskModel D → Drill D → Asked → Type 0
LineIsPromised disk d a = (model_held disk d.driver ≡ Some true) × (a ≡ Version2 → IsEmptyLog d.driver.ledger.log)

abbrev pub CarriesIf : {D : Type 0} → DiskModel D → (D → D → Type 0) → Drill D → Asked → List ℕ → Drill D → Type 0
CarriesIf disk crashes d a reported new = LineIsPromised disk d a → Carries disk crashes d a reported new

-- The drill failed in a crash, after an image was chosen, and returned the disk.
pub record GivesUpInCrash {D : Type 0} (disk : DiskModel D) (crashes : D → D → Type 0) (d : DriverState D) (refused : Fault × D) : Type 0 where
  pub moments : (s : Machine) → IsConsistent s → Represents d s → (old : D) → disk_held d ≡ Some old → disk.keeps_model old ≡ true → Reopens disk crashes (Survives s) old refused.1
  pub cause : model_held disk d ≡ Some true → IsPassingFault refused.0
  pub failed : (n : ℕ) → HasFailed disk.failures (disk_held d) n → disk.failures refused.1 ≡ n + failed_by refused.0

-- Memory ran out after a prefix of the request's events.
abbrev pub LacksMemory : {D : Type 0} → DiskModel D → (D → D → Type 0) → Asked → Drill D → Fault × D → Type 0
LacksMemory disk crashes a d refused = IsOfMemory refused.0 × LeadsPart disk crashes d.driver (line_events d.holds a) refused.1

-- The request was cut short with this fault, and this disk was returned.
abbrev pub Cuts : {D : Type 0} → DiskModel D → (D → D → Type 0) → Asked → Drill D → Fault × D → Type 0
Cuts disk crashes Version2 d refused = RaisesPart disk d.driver refused
Cuts disk crashes Crash d refused = LacksMemory disk crashes Crash d refused ⊎ GivesUpInCrash disk crashes d.driver refused
Cuts disk crashes a d refused = LacksMemory disk crashes a d refused

abbrev pub CutsIf : {D : Type 0} → DiskModel D → (D → D → Type 0) → Asked → Drill D → Fault × D → Type 0
CutsIf disk crashes a d refused = LineIsPromised disk d a → Cuts disk crashes a d refused

-- A flight may print this text and leave the drill in this state, whatever tickets the machine has issued
-- before the flight.
pub record Flies {D : Type 0} (disk : DiskModel D) (crashes : D → D → Type 0) (d : Drill D) (reported : List ℕ) (new : Drill D) : Type 0 where
  pub given : List Answer
  pub with_memory : AllByRecursion (λ answer. answer ≢ Refused OutOfMemory) given
  pub printed : reported ≡ flight_lines (state_of d).log given
  pub goes_on : (tickets : List (Option Reply)) → state_of new ≡ seen_as (run (record (machine_of (state_of d)) { tickets = tickets }) (flight_events given) given) d.holds d.has_begun
  pub moments : GoesBy disk crashes d.driver given new.driver

-- ---- the place of the code's drill

-- The drill is at this place, on a disk that keeps the model, and whatever a crash may leave survives. Every
-- step with visible output is settled. As long as no step was accepted, the world is empty.
pub record Stands {D : Type 0} (disk : DiskModel D) (d : Drill D) (p : Place D) : Type 0 where
  pub state : p.state ≡ state_of d
  pub holds : disk_held d.driver ≡ Some p.disk
  pub keeps : disk.keeps_model p.disk ≡ true
  pub consistent : IsConsistent p.machine
  pub represents : Represents d.driver p.machine
  pub settled : IsSettled p.machine p.reported
  pub empty : p.state.has_begun ≡ false → IsEmptyLog p.state.log
  pub survives : CrashPrefix p.machine true (disk.present p.disk)

-- The ledger is over a store that was created on this disk.
pub record IsMade {D : Type 0} (disk : DiskModel D) (given : D) (l : LedgerState D) : Type 0 where
  pub begun : D
  pub is : l ≡ ledger_over (no_world 1) begun
  pub keeps : disk.keeps_model begun ≡ disk.keeps_model given
  pub unfailed : disk.failures begun ≡ disk.failures given
  pub made : disk.keeps_model given ≡ true → disk.present begun ≡ made HALF_SIZE 1

-- The drill is over a store that was just created on the given disk.
pub record IsBegun {D : Type 0} (disk : DiskModel D) (given : D) (d : Drill D) : Type 0 where
  pub begun : D
  pub made : disk.present begun ≡ made HALF_SIZE 1
  pub unfailed : disk.failures begun ≡ disk.failures given
  pub stands : Stands disk d (start begun)
