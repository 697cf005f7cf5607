-- The reasons why the bytes of a device give no world, and which reason is returned first.
use Rattle.std.specs.Prelude.{◌≡◌, ◌⊎◌, ℕ, ◌<◌, List, ◌∷◌, ◌++◌, length, Some}
use Rattle.coord_types.specs.declared.steps.Step.{Step}
use Rattle.coord_check.specs.Faults.{faults, first}
use Rattle.coord_check.specs.declared.violation.Violation.{Violation}
use Rattle.coord_journal.specs.Facade.{Content, IsHalfSize, IsText, RefusesOpen as JournalRefuses}
use Rattle.coord_journal.specs.declared.fault.JournalFault.{JournalFault}
use Rattle.coord_world.specs.Facade.{IsFresh, Legal, World, fold}
use Rattle.coord_store.specs.Faults.{store_fault_of}
use Rattle.coord_store.specs.Recovered.{AllFresh, HasSnapshot, IsBody, Replays}
use Rattle.coord_store.specs.declared.faults.StoreFault.{StoreFault}
use Rattle.coord_store.specs.declared.faults.StoreFault.TheVariants.{OutOfMemory, Device, NotEmpty, HalfSize, NoMagic, BadRecord, BadSnapshot, BadBatch, BadStep, Violated, NotQuiet, Stopped}

-- The world takes the first `index` steps as fresh, but not the step after them.
pub record StopsAt (w : World) (steps : List Step) (index : ℕ) : Type 0 where
  pub front : List Step
  pub refused : Step
  pub rest : List Step
  pub split : steps ≡ front ++ refused ∷ rest
  pub number : length front ≡ index
  pub fresh : AllFresh w w front
  pub stops : ¬ IsFresh (fold w front) w refused

-- The reasons why the world refuses the batch with the number n: the body does not encode the world's next
-- steps, or the world refuses one of the steps.
abbrev pub RefusesBatch : World → ℕ → List ℕ → StoreFault → Type 0
RefusesBatch w n body fault =
    ((fault ≡ BadBatch) × ((steps : List Step) → IsBody w body steps → ⊥))
    ⊎ ((index : ℕ) × (steps : List Step) × (fault ≡ BadStep n index) × IsBody w body steps × StopsAt w steps index)

-- The first n batches lead from `start` to the world w, and this body is the next batch.
pub record Reaches (start : World) (bodies : List (List ℕ)) (n : ℕ) (body : List ℕ) (w : World) : Type 0 where
  pub front : List (List ℕ)
  pub rest : List (List ℕ)
  pub split : bodies ≡ front ++ body ∷ rest
  pub number : length front ≡ n
  pub replays : Replays start front w

-- the first batch that is refused, its number (counted from 0), and the reason
pub record RefusesReplay (start : World) (bodies : List (List ℕ)) (fault : StoreFault) : Type 0 where
  pub number : ℕ
  pub body : List ℕ
  pub reached : World
  pub reaches : Reaches start bodies number body reached
  pub refuses : RefusesBatch reached number body fault

-- the snapshot encodes no world, or it encodes a world that is not legal
abbrev pub RefusesSnapshot : Content → StoreFault → Type 0
RefusesSnapshot content fault =
    ((fault ≡ BadSnapshot) × ((w : World) → HasSnapshot content w → ⊥))
    ⊎ ((w : World) × (violation : Violation) × (fault ≡ Violated violation) × HasSnapshot content w × (first (faults w) ≡ Some violation))

-- the snapshot encodes a legal world, but a batch after it is refused
abbrev pub RefusesBatches : Content → StoreFault → Type 0
RefusesBatches content fault = (start : World) × HasSnapshot content start × Legal start × RefusesReplay start content.batches fault

-- a journal with this content is refused with this fault
abbrev pub RefusesContent : Content → StoreFault → Type 0
RefusesContent content fault = RefusesSnapshot content fault ⊎ RefusesBatches content fault

abbrev pub RefusesText : List ℕ → StoreFault → Type 0
RefusesText bytes fault = (content : Content) × IsText content bytes × RefusesContent content fault

-- out of memory, or a failure of the device
abbrev pub IsPassing : StoreFault → Type 0
IsPassing fault = (fault ≡ OutOfMemory) ⊎ (fault ≡ Device)

-- a device with these bytes is refused by its journal, and so by its store
abbrev pub RefusesJournal : List ℕ → StoreFault → Type 0
RefusesJournal bytes fault = (why : JournalFault) × (fault ≡ store_fault_of why) × JournalRefuses bytes why

-- Opening a device with these bytes may return this fault: memory may run out and the device may fail at any
-- time; otherwise the journal or its content is refused.
abbrev pub RefusesOpen : List ℕ → StoreFault → Type 0
RefusesOpen bytes fault = IsPassing fault ⊎ (RefusesJournal bytes fault ⊎ RefusesText bytes fault)

-- Creating a store on a device with these bytes, with halves of this size, may return this fault.
abbrev pub RefusesCreate : List ℕ → ℕ → StoreFault → Type 0
RefusesCreate bytes half_size OutOfMemory = Unit {0}
RefusesCreate bytes half_size Device = Unit {0}
RefusesCreate bytes half_size NotEmpty = 0 < length bytes
RefusesCreate bytes half_size HalfSize = (length bytes ≡ 0) × ¬ IsHalfSize half_size
RefusesCreate bytes half_size fault = ⊥

-- the faults that opening a store may return, whatever the device does
abbrev pub IsOpenFault : StoreFault → Type 0
IsOpenFault NotEmpty = ⊥
IsOpenFault HalfSize = ⊥
IsOpenFault (NotQuiet node) = ⊥
IsOpenFault Stopped = ⊥
IsOpenFault fault = Unit {0}

-- The faults that creating a store may return. The last two are possible only if the device reads back other
-- bytes than were written to it.
abbrev pub IsCreateFault : StoreFault → Type 0
IsCreateFault OutOfMemory = Unit {0}
IsCreateFault Device = Unit {0}
IsCreateFault NotEmpty = Unit {0}
IsCreateFault HalfSize = Unit {0}
IsCreateFault NoMagic = Unit {0}
IsCreateFault BadRecord = Unit {0}
IsCreateFault fault = ⊥

-- the number of device failures in a call that returns this fault
abbrev pub failed_in : StoreFault → ℕ
failed_in Device = 1
failed_in fault = 0
