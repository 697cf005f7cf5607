-- How each call of a driver simulates an event of the event machine.
--
-- A driver has the log and the flight of a machine. The tickets, the views and the outputs belong to the
-- driver's holder, so the driver's calls are events of any machine with that log and flight. After a crash the
-- driver's log begins with the world that was opened.
use Rattle.std.specs.Prelude.{◌≡◌, ◌-◌, ℕ, ◌≤◌}
use Rattle.std.specs.Option.{option_map}
use Rattle.coord_ledger.specs.declared.events.Answer.{Answer}
use Rattle.coord_ledger.specs.declared.events.Answer.TheVariants.{Opened}
use Rattle.coord_ledger.specs.declared.events.Event.{Event}
use Rattle.coord_ledger.specs.declared.events.Event.TheVariants.{Crash}
use Rattle.coord_ledger.specs.laws.Rebasing.{rebased_machine}
use Rattle.coord_ledger.specs.ledger.DriverState.{DriverState}
use Rattle.coord_ledger.specs.ledger.Flights.{HoldsFlight, flight_out}
use Rattle.coord_ledger.specs.machine.After.{after}
use Rattle.coord_ledger.specs.machine.Answers.{IsOneOf, answers}
use Rattle.coord_ledger.specs.machine.Log.{world_after}
use Rattle.coord_ledger.specs.machine.Machine.{Machine, adopted}

-- this machine, but with the log and the flight of a driver
abbrev pub machine_of : {D : Type 0} → DriverState D → Machine → Machine
machine_of d m = record m { log = d.ledger.log; flight = option_map flight_out d.flight }

-- the machine after an event; after a crash the opened world is its base
abbrev pub goes_to : Machine → Event → Answer → Machine
goes_to s Crash (Opened count) = record (adopted (world_after s.log (count - s.log.base.count))) { released = s.released; replied = s.replied }
goes_to s event answer = after s event answer

-- The driver carries out an event. The machine may give this answer, and the driver's new state is the state
-- that the machine enters with the answer. The driver's flight is still its ledger's flight.
pub record Simulates {D : Type 0} (old : DriverState D) (e : Event) (a : Answer) (new : DriverState D) : Type 0 where
  pub allowed : (m : Machine) → IsOneOf a (answers (machine_of old m) e)
  pub leaves : (m : Machine) → machine_of new (goes_to (machine_of old m) e a) ≡ goes_to (machine_of old m) e a
  pub own : HoldsFlight new.ledger new.flight

-- The driver agrees with the machine of a run, if that machine is seen from the world after some of the
-- settled steps.
pub record Represents {D : Type 0} (d : DriverState D) (s : Machine) : Type 0 where
  pub by : ℕ
  pub within : by ≤ s.log.settled
  pub is : machine_of d s ≡ rebased_machine s by
  pub own : HoldsFlight d.ledger d.flight
