-- How an engine's flights leave and return while other threads make calls.
use Rattle.std.specs.Prelude.{◌≡◌, ◌⊎◌, ℕ, ◌+◌, true, false, List, Option, Some, None, Result, Ok, Err, length}
use Rattle.coord_store.specs.declared.faults.CommitFault.{CommitFault}
use Rattle.coord_store.specs.declared.faults.CommitFault.TheVariants.{Device, OutOfMemory}
use Rattle.coord_ledger.specs.declared.mark.Mark.{Mark}
use Rattle.coord_ledger.specs.declared.mark.Mark.TheVariants.{New, Good, Torn}
use Rattle.coord_ledger.specs.declared.release.Release.{Release}
use Rattle.coord_ledger.specs.Facade.{FlightState, IsOut, keeps_store, taken_back}
use Rattle.coord_engine.specs.State.{Basis, GuardedState, with_ledger}
use Rattle.coord_engine.specs.Threads.{AtSomeMoment, Flushes, Leaves}

-- The next flight left, or no flight could leave.
abbrev pub Begins : {D : Type 0} → Basis D → Option (FlightState D) → Type 0
Begins b (Some flight) = AtSomeMoment b (Leaves flight)
Begins b None = AtSomeMoment b (λ g. keeps_store g.ledger ≡ true)

-- The result of sending a flight out: the next flight, None if no flight could leave, or an error if memory
-- ran out.
abbrev pub AnswersBegin : {D E : Type 0} → Basis D → Result (Option (FlightState D)) E → Type 0
AnswersBegin b (Ok begun) = Begins b begun
AnswersBegin b (Err fault) = AtSomeMoment b (λ g. keeps_store g.ledger ≡ false)

-- The flight that was out has returned to the ledger. If the flight is torn, its steps are now in doubt.
abbrev pub ComesBack : {D : Type 0} → FlightState D → GuardedState D → Type 0
ComesBack {D} flight g = (before : GuardedState D) × IsOut before.ledger flight × (g ≡ with_ledger before (taken_back before.ledger (length flight.steps) flight.mark flight.disk))

-- The flight `left` became `now` by an attempt to commit it. Its steps and its world are the same, and it has
-- this mark. Meanwhile its device has failed this many times.
pub record IsTried {D : Type 0} (failures : D → ℕ) (left now : FlightState D) (mark : Mark) (failed : ℕ) : Type 0 where
  pub same_steps : now.steps ≡ left.steps
  pub same_world : now.world ≡ left.world
  pub mark_is : now.mark ≡ mark
  pub failures_are : failures now.disk ≡ failures left.disk + failed

-- The result of committing a new flight: the flight is committed; or it is torn, because the device failed; or
-- memory ran out and the flight is still new.
abbrev pub CommitsFlight : {D : Type 0} → (D → ℕ) → FlightState D → Result (Unit {0}) CommitFault → FlightState D → Type 0
CommitsFlight failures left (Ok done) now = IsTried failures left now Good 0
CommitsFlight failures left (Err Device) now = IsTried failures left now Torn 1
CommitsFlight failures left (Err OutOfMemory) now = IsTried failures left now New 0
CommitsFlight failures left (Err fault) now = ⊥

-- A flight left and returned with this mark. Meanwhile the flight's device has failed this many times.
pub record FlewBack {D : Type 0} (b : Basis D) (mark : Mark) (failed : ℕ) : Type 0 where
  pub left : FlightState D
  pub back : FlightState D
  pub leaves : AtSomeMoment b (Leaves left)
  pub tried : IsTried b.failures left back mark failed
  pub comes : AtSomeMoment b (ComesBack back)

-- The reasons why a flush settled nothing. `Device`: a flight left and returned torn, because its device
-- failed; its steps are now in doubt. `OutOfMemory`: no flight could leave, or a flight returned and is still
-- new.
abbrev pub RefusesFlush : {D : Type 0} → Basis D → CommitFault → Type 0
RefusesFlush b Device = FlewBack b Torn 1
RefusesFlush b OutOfMemory = AtSomeMoment b (λ g. keeps_store g.ledger ≡ false) ⊎ FlewBack b New 0
RefusesFlush b fault = ⊥

-- The answer to a flush: the releases of the next flight; None if no flight could leave; or the reason why
-- nothing was settled.
abbrev pub AnswersFlush : {D : Type 0} → Basis D → Result (Option (List Release)) CommitFault → Type 0
AnswersFlush b (Ok None) = AtSomeMoment b (λ g. keeps_store g.ledger ≡ true)
AnswersFlush b (Ok (Some released)) = AtSomeMoment b (Flushes released)
AnswersFlush b (Err fault) = RefusesFlush b fault
