-- The states of a drill, and its transitions.
--
-- A drill is the event machine with a ticket for each pending step. Only the log of the machine is visible
-- here. A line makes a few events of the machine. If the machine may give more than one answer to an event,
-- then memory, the device or the crash decides, and the answer shows the choice.
use Rattle.std.specs.Prelude.{ℕ, Bool, false, true, List, [], ◌∷◌, if◌then◌else◌}
use Rattle.coord_types.specs.declared.steps.Step.{Step}
use Rattle.coord_world.specs.protocol.NumberedWorld.{World, no_world}
use Rattle.coord_ledger.specs.declared.events.Answer.{Answer}
use Rattle.coord_ledger.specs.declared.events.Answer.TheVariants.{Accepted, Begun}
use Rattle.coord_ledger.specs.declared.events.Event.{Event}
use Rattle.coord_ledger.specs.declared.events.Event.TheVariants as event
use Rattle.coord_ledger.specs.laws.Rebasing.{rebased_machine}
use Rattle.coord_ledger.specs.Facade.{Log, Machine, adopted, front_world, machine_over, run}
use Rattle.coord_drill.specs.declared.asked.Asked.{Asked}
use Rattle.coord_drill.specs.declared.asked.Asked.TheVariants.{Submit, Refuse, Nothing, Resend, Check, Show, Hold, Flush, Crash, Version2}

pub record DrillState : Type 0 where
  pub log : Log
  pub holds : Bool  -- whether accepted steps wait for `flush`; otherwise each is settled at once
  pub has_begun : Bool  -- whether a step was ever accepted, even if a crash lost it

-- the state of a drill over this machine: only the machine's log is visible
abbrev pub seen_as : Machine → Bool → Bool → DrillState
seen_as m holds begun = record { log = m.log; holds = holds; has_begun = begun }

-- the machine before a line: no flight is out, and the line has released nothing yet
abbrev pub machine_of : DrillState → Machine
machine_of s = machine_over s.log

-- a drill over a running ledger with this world
abbrev pub drill_over : World → DrillState
drill_over w = seen_as (adopted w) false false

-- the version of a drill's world
abbrev pub version_of : DrillState → ℕ
version_of s = (front_world s.log).version

-- ---- the events of a line, which depend on the answers

-- the events that commit a flight and take it back
abbrev pub landing_events : List Event
landing_events = event.Commit ∷ event.Finish ∷ []

abbrev pub flight_events : List Answer → List Event
flight_events (Begun b ∷ given) = event.Begin ∷ landing_events
flight_events given = event.Begin ∷ []

-- the events of submitting a step: an accepted step is settled at once, unless steps are held
abbrev pub step_events : Bool → Step → List Answer → List Event
step_events holds x (Accepted n ∷ given) = event.Submit x ∷ (if holds then [] else flight_events given)
step_events holds x given = event.Submit x ∷ []

-- the events of a request; a request that changes nothing has none
abbrev pub line_events : Bool → Asked → List Answer → List Event
line_events holds (Submit x) given = step_events holds x given
line_events holds Flush given = flight_events given
line_events holds Crash given = event.Crash ∷ []
line_events holds asked given = []

-- ---- the state after a line

-- requests that only print: they make no step, flight or crash
abbrev pub changes_nothing : Asked → Bool
changes_nothing (Refuse refusal) = true
changes_nothing Nothing = true
changes_nothing Resend = true
changes_nothing Check = true
changes_nothing Show = true
changes_nothing asked = false

-- the same machine, with the settled world as its base
abbrev pub from_settled : Machine → Machine
from_settled m = rebased_machine m m.log.settled

-- The machine after a line. After a crash, its base is the opened world. The line `version 2` starts a new
-- machine without steps.
abbrev pub machine_after : DrillState → Asked → List Answer → Machine
machine_after s Crash given = from_settled (run (machine_of s) (event.Crash ∷ []) given)
machine_after s Version2 given = adopted (no_world 2)
machine_after s asked given = run (machine_of s) (line_events s.holds asked given) given

abbrev pub holds_after : Bool → Asked → Bool
holds_after holds Hold = true
holds_after holds Crash = false
holds_after holds asked = holds

abbrev pub begun_after : Bool → Asked → List Answer → Bool
begun_after begun (Submit x) (Accepted n ∷ given) = true
begun_after begun asked given = begun

unfoldable pub after_asked : DrillState → Asked → List Answer → DrillState
after_asked s asked given = seen_as (machine_after s asked given) (holds_after s.holds asked) (begun_after s.has_begun asked given)
