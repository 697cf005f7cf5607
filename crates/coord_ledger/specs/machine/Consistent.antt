-- The invariant of the event machine. It holds as long as each event gets a possible answer.
use Rattle.std.specs.Prelude.{ℕ, ◌+◌, ◌≤◌, List, length, Option, Some, None}
use Rattle.std.specs.List.{AllByRecursion}
use Rattle.coord_types.specs.declared.limits.TheConstants.{MAX_BATCH_STEPS, MAX_PENDING}
use Rattle.coord_types.specs.declared.steps.Reply.{Reply}
use Rattle.coord_types.specs.declared.steps.Step.{Step}
use Rattle.coord_store.specs.Recovered.{AllFresh}
use Rattle.coord_world.specs.laws.Trails.{IsTrail}
use Rattle.coord_world.specs.Facade.{StepInRange, World, outs}
use Rattle.coord_ledger.specs.declared.events.Event.{Event}
use Rattle.coord_ledger.specs.declared.events.Event.TheVariants.{Submit}
use Rattle.coord_ledger.specs.declared.release.Release.{Release}
use Rattle.coord_ledger.specs.machine.After.{releases_of}
use Rattle.coord_ledger.specs.machine.Log.{Log, pending, settled_count, settled_steps, settled_world}
use Rattle.coord_ledger.specs.machine.Machine.{FlightOut, Machine}
use Rattle.coord_ledger.specs.promises.Headline.{IsReplyOf, IsTrulyAgain}
use Rattle.coord_ledger.specs.promises.Parts.{IsPartOf, released_first}

-- The steps are a trail. At most `MAX_PENDING` of them are pending, and each pending step is fresh over the
-- settled world.
pub record IsConsistentLog (log : Log) : Type 0 where
  pub trail : IsTrail log.base log.trail
  pub within : log.settled ≤ length log.trail
  pub few : length (pending log) ≤ MAX_PENDING
  pub fresh : AllFresh (settled_world log) (settled_world log) (pending log)

-- The log has enough pending steps for a flight of this size, which is from 1 to `MAX_BATCH_STEPS`.
pub record FitsOut (log : Log) (size : ℕ) : Type 0 where
  pub some : 1 ≤ size
  pub most : size ≤ MAX_BATCH_STEPS
  pub within : log.settled + size ≤ length log.trail

-- If a flight is out, the log has enough pending steps for it.
abbrev pub FlightFits : Log → Option FlightOut → Type 0
FlightFits log None = Unit {0}
FlightFits log (Some f) = FitsOut log f.size

-- If steps are in doubt, they are pending, and no flight is out.
abbrev pub DoubtFits : Log → Option FlightOut → Option ℕ → Type 0
DoubtFits log flight None = Unit {0}
DoubtFits log None (Some b) = log.settled + b ≤ length log.trail
DoubtFits log (Some f) (Some b) = ⊥

-- A ticket has the reply to an accepted step, or a reply that the base world keeps.
abbrev pub TicketFits : World → List Step → Option Reply → Type 0
TicketFits base steps None = Unit {0}
TicketFits base steps (Some reply) = IsReplyOf base steps reply

-- All releases and collected replies belong to settled steps of the log.
pub record IsReturned (log : Log) (released : List Release) (replied : List Reply) : Type 0 where
  pub released_settled : AllByRecursion (λ r. r.step ≤ settled_count log) released
  pub once : IsPartOf (released_first released) (releases_of (outs log.base (settled_steps log)))
  pub again : AllByRecursion (IsTrulyAgain log) released
  pub replied_settled : AllByRecursion (λ r. r.step ≤ settled_count log) replied
  pub truly : AllByRecursion (IsReplyOf log.base (settled_steps log)) replied

pub record IsConsistent (s : Machine) : Type 0 where
  pub log : IsConsistentLog s.log
  pub flight : FlightFits s.log s.flight
  pub doubt : DoubtFits s.log s.flight s.log.doubt
  pub seen : s.seen ≤ settled_count s.log
  pub tickets : AllByRecursion (TicketFits s.log.base s.log.trail) s.tickets
  pub returned : IsReturned s.log s.released s.replied

-- all numbers in an event are in the ranges of their types
abbrev pub EventInRange : Event → Type 0
EventInRange (Submit x) = StepInRange x
EventInRange event = Unit {0}
