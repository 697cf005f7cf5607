-- The starts of a store, one after another, as `run_starts` runs them.
use Rattle.std.specs.Prelude.{◌≡◌, ◌⊎◌, ℕ, List, [], ◌∷◌}
use Rattle.coord_store.specs.Facade.{RefusesMigration, Recovered}
use Rattle.coord_store.specs.declared.faults.StoreFault.{StoreFault}
use Rattle.coord_store.specs.declared.faults.StoreFault.TheVariants.{Device, OutOfMemory}
use Rattle.coord_world.specs.Facade.{World, no_world}
use Rattle.coord_ledger.specs.declared.events.Answer.{Answer}
use Rattle.coord_ledger.specs.declared.events.Event.{Event}
use Rattle.coord_ledger.specs.declared.release.Release.{Release}
use Rattle.coord_ledger.specs.declared.trace.RunFaultKind.{RunFaultKind}
use Rattle.coord_ledger.specs.declared.trace.RunFaultKind.TheVariants as kind
use Rattle.coord_starts.specs.OneHistory.{IsHistoryOfStarts}
use Rattle.coord_starts.specs.Starts.{AreStarts, IsStart, MayServe, Raises, Serves, Start, at_end, left_by, turns_in}
use Rattle.coord_starts.specs.Returned.{led}
use Rattle.coord_starts.specs.declared.starts.Outcome.{Outcome}
use Rattle.coord_starts.specs.declared.starts.Outcome.TheVariants.{Served, Raised, Refused}
use Rattle.coord_starts.specs.declared.starts.Task.{Task}
use Rattle.coord_starts.specs.declared.starts.Task.TheVariants.{Serve, Migrate}

-- the fault of a run of events that ended early, as a fault of the store
abbrev pub reported_as : RunFaultKind → StoreFault
reported_as kind.OutOfMemory = OutOfMemory
reported_as (kind.Store fault) = fault

-- a start without events; it keeps no step
abbrev pub idle_start : Start
idle_start = Serves [] [] 0

-- The start that a task became, by its outcome. Migrating a store of version 2 changes nothing. After a failure of the
-- device, the store is either migrated or not.
abbrev pub IsOf : World → Task → Outcome → Start → Type 0
IsOf w (Serve events) (Served trace) start =
    (n : ℕ) × (start ≡ Serves events.items trace.answers.items n) × (trace.released.items ≡ (at_end w events.items trace.answers.items).released)
IsOf w Migrate Raised start = (start ≡ Raises) ⊎ ((start ≡ idle_start) × (w.version ≡ 2))
IsOf w Migrate (Refused fault) start = RefusesMigration w fault × ((start ≡ idle_start) ⊎ ((start ≡ Raises) × (fault ≡ Device)))
IsOf w task outcome start = ⊥

-- a start served these events with these answers and releases, and then the power was cut, which left these
-- bytes on the disk
pub record ServesOnce (w : World) (events : List Event) (given : List Answer) (released : List Release) (bytes : List ℕ) : Type 0 where
  pub kept : ℕ
  pub may : MayServe w events given kept
  pub all : released ≡ (at_end w events given).released
  pub left : Recovered bytes (led w (turns_in w (Serves events given kept)))

-- a start from world w carried out this task with this outcome, and then the power was cut, which left these
-- bytes on the disk
pub record StartsOnce (w : World) (task : Task) (outcome : Outcome) (bytes : List ℕ) : Type 0 where
  pub start : Start
  pub is_of : IsOf w task outcome start
  pub may : IsStart w start
  pub left : Recovered bytes (led w (turns_in w start))

-- each task became the start at its place in the list, from the world that the previous start left
abbrev pub AreOf : World → List Task → List Outcome → List Start → Type 0
AreOf w [] [] [] = Unit {0}
AreOf w (task ∷ tasks) (outcome ∷ outcomes) (start ∷ starts) = IsOf w task outcome start × AreOf (led w (turns_in w start)) tasks outcomes starts
AreOf w tasks outcomes starts = ⊥

-- the tasks were the starts of a newly created store, and left these bytes
pub record HasRun (version : ℕ) (tasks : List Task) (outcomes : List Outcome) (bytes : List ℕ) : Type 0 where
  pub starts : List Start
  pub are_of : AreOf (no_world version) tasks outcomes starts
  pub may : AreStarts (no_world version) starts
  pub left : Recovered bytes (left_by (no_world version) starts)

-- the tasks were the starts of a newly created store, and all of them form one history
pub record IsOneRun (version : ℕ) (tasks : List Task) (outcomes : List Outcome) (bytes : List ℕ) : Type 0 where
  pub run : HasRun version tasks outcomes bytes
  pub one : IsHistoryOfStarts (no_world version) run.starts
