-- The laws of the event machine.
use Rattle.std.specs.Prelude.{◌≡◌, ℕ, ◌+◌, ◌≤◌, Bool, false, List, [], ◌∷◌, ◌++◌, length, take, Result, Err, if◌then◌else◌}
use Rattle.std.specs.List.{AllByRecursion}
use Rattle.coord_disk.specs.Model.Present.{Present}
use Rattle.coord_link.specs.LaneMachine.{refused_or}
use Rattle.coord_node.specs.Steps.{kind}
use Rattle.coord_types.specs.Table.{get}
use Rattle.coord_types.specs.declared.refusals.Refusal.{Refusal}
use Rattle.coord_types.specs.declared.refusals.Refusal.TheVariants.{Exhausted, PendingFull, Stopped}
use Rattle.coord_types.specs.declared.steps.Step.{Step}
use Rattle.coord_types.specs.declared.steps.Step.TheVariants.{Order, Take, Clear}
use Rattle.coord_world.specs.declared.verdicts.Verdict.{Verdict}
use Rattle.coord_world.specs.declared.verdicts.Verdict.TheVariants.{Fresh}
use Rattle.coord_world.specs.laws.Trails.{IsSound}
use Rattle.coord_world.specs.Facade.{IsFresh, StepInRange, World, against, is_exhausted, or_repeat, state}
use Rattle.coord_ledger.specs.declared.events.Answer.{Answer}
use Rattle.coord_ledger.specs.declared.events.Event.{Event}
use Rattle.coord_ledger.specs.ledger.Flights.{ImagesGiveOneOf}
use Rattle.coord_ledger.specs.machine.After.{after, finished}
use Rattle.coord_ledger.specs.machine.Answers.{IsOneOf, answers, kept}
use Rattle.coord_ledger.specs.machine.Consistent.{EventInRange, IsConsistent, IsConsistentLog}
use Rattle.coord_ledger.specs.machine.Log.{Log, cut_to, front_world, has_stopped, settled_world, with_settled, with_step}
use Rattle.coord_ledger.specs.machine.Machine.{Machine, adopted}
use Rattle.coord_ledger.specs.machine.Runs.{Answered, run}
use Rattle.coord_ledger.specs.machine.Submits.{is_full, verdict}
use Rattle.coord_ledger.specs.promises.Headline.{CrashPrefix, IsSafe, SignalledOnce}

-- ---- the order of refusals

-- a client's last order, sent again, gets its kept reply; any other step gets the given verdict
abbrev pub unless_repeat : World → Step → Result Verdict Refusal → Result Verdict Refusal
unless_repeat front (Order client number command) verdict = or_repeat (get front.sessions client) number command verdict
unless_repeat front (Take p) verdict = verdict
unless_repeat front (Clear p) verdict = verdict

-- the verdict of all tests of a step, in order: too many steps are pending, no number is left, and the step's
-- own tests
abbrev pub judged_in_order : Log → Step → Result Verdict Refusal
judged_in_order log s = refused_or (Fresh (kind (state (front_world log)) s)) ((is_full log, PendingFull) ∷ (is_exhausted (front_world log), Exhausted) ∷ against (front_world log) (settled_world log) s)

-- A step is refused by the first refusal that applies. `Stopped` comes first; no other refusal applies to a
-- repeat.
abbrev pub SubmitOrder : Type 0
SubmitOrder = (log : Log) (s : Step) → verdict log s ≡ (if has_stopped log then Err Stopped else unless_repeat (front_world log) s (judged_in_order log s))

-- ---- logs

-- A log stays consistent when a step is accepted, when steps are settled, and when a crash cuts it.
pub record LogStays : Type 0 where
  pub accepted : (log : Log) (s : Step) → IsConsistentLog log → StepInRange s → is_full log ≡ false → IsFresh (front_world log) (settled_world log) s → IsConsistentLog (with_step log s)
  pub settled : (log : Log) (b : ℕ) → IsConsistentLog log → log.settled + b ≤ length log.trail → IsConsistentLog (with_settled log b)
  pub cut : (log : Log) (n : ℕ) → IsConsistentLog log → log.settled ≤ n → n ≤ length log.trail → IsConsistentLog (cut_to log n)

-- ---- events

abbrev pub HasAnswer : Type 0
HasAnswer = (s : Machine) (e : Event) → (a : Answer) × IsOneOf a (answers s e)

-- The settled steps of the machine s are the first settled steps of the machine t.
pub record KeepsSettled (s t : Machine) : Type 0 where
  pub base : t.log.base ≡ s.log.base
  pub settled : s.log.settled ≤ t.log.settled
  pub steps : take s.log.settled t.log.trail ≡ take s.log.settled s.log.trail

-- Each event, including a crash, keeps the settled steps.
abbrev pub SettledStays : Type 0
SettledStays = (s : Machine) (e : Event) (a : Answer) → IsConsistent s → IsOneOf a (answers s e) → KeepsSettled s (after s e a)

abbrev pub AdoptedIsConsistent : Type 0
AdoptedIsConsistent = (w : World) → IsSound w → IsConsistent (adopted w)

abbrev pub StaysConsistent : Type 0
StaysConsistent = (s : Machine) (e : Event) (a : Answer) → EventInRange e → IsConsistent s → IsOneOf a (answers s e) → IsConsistent (after s e a)

-- ---- runs

abbrev pub RunIsConsistent : Type 0
RunIsConsistent = (s : Machine) (events : List Event) (given : List Answer) → AllByRecursion EventInRange events → IsConsistent s → Answered s events given → IsConsistent (run s events given)

-- A run followed by one more event, with a possible answer, is again a run. It ends in the machine after that
-- event.
abbrev pub RunGoesOn : Type 0
RunGoesOn = (s : Machine) (events : List Event) (given : List Answer) (e : Event) (a : Answer) → Answered s events given → IsOneOf a (answers (run s events given) e) →
    Answered s (events ++ e ∷ []) (given ++ a ∷ []) × (run s (events ++ e ∷ []) (given ++ a ∷ []) ≡ after (run s events given) e a)

-- After each number of steps that a crash may keep, the world is legal and includes each step with a visible
-- output.
abbrev pub KeptIsSafe : Type 0
KeptIsSafe = (s : Machine) (n : ℕ) → IsConsistent s → IsOneOf n (kept s) → IsSafe s n

-- No step's signal was released twice.
abbrev pub NoSignalTwice : Type 0
NoSignalTwice = (s : Machine) → IsConsistent s → SignalledOnce s

-- When a flight returns at the end of a run, the numbers of steps that a crash may keep do not change.
abbrev pub FinishKeepsKept : Type 0
FinishKeepsKept = (s : Machine) → IsConsistent s → kept (finished s s.flight) ≡ kept s

-- The crash prefix holds if each image of the disk gives the world after a number of steps that a crash may
-- keep.
abbrev pub PrefixFromImages : Type 0
PrefixFromImages = (s : Machine) (keeps_model : Bool) (present : Present) → IsConsistent s → ImagesGiveOneOf keeps_model present s.log (kept s) → CrashPrefix s keeps_model present
