-- A ledger's base can move. After a crash a ledger starts from a new base, and gives the answers that it would
-- have given from its old base.
use Rattle.std.specs.Prelude.{◌≡◌, ℕ, ◌≤◌, false}
use Rattle.coord_ledger.specs.declared.events.Answer.{Answer}
use Rattle.coord_ledger.specs.declared.events.Event.{Event}
use Rattle.coord_ledger.specs.machine.After.{after, crashed}
use Rattle.coord_ledger.specs.machine.Answers.{IsOneOf, answers}
use Rattle.coord_ledger.specs.machine.Consistent.{IsConsistent, IsConsistentLog}
use Rattle.coord_ledger.specs.machine.Log.{Log, rebased, world_after}
use Rattle.coord_ledger.specs.machine.Machine.{Machine, adopted}
use Rattle.coord_ledger.specs.promises.Headline.{is_crash}

-- the same machine with its base moved past its first n steps
abbrev pub rebased_machine : Machine → ℕ → Machine
rebased_machine s n = record s { log = rebased s.log n }

abbrev pub RebasedIsConsistent : Type 0
RebasedIsConsistent = (log : Log) (n : ℕ) → IsConsistentLog log → n ≤ log.settled → IsConsistentLog (rebased log n)

-- A machine has the same possible answers after its base has moved.
abbrev pub RebasedAnswersAlike : Type 0
RebasedAnswersAlike = (s : Machine) (n : ℕ) (e : Event) → IsConsistent s → n ≤ s.log.settled → answers (rebased_machine s n) e ≡ answers s e

-- Moving the base commutes with each event except a crash: moving the base before the event leads to the same
-- machine as moving it after the event.
abbrev pub RebasedGoesOn : Type 0
RebasedGoesOn = (s : Machine) (n : ℕ) (e : Event) (a : Answer) → IsConsistent s → n ≤ s.log.settled → is_crash e ≡ false → IsOneOf a (answers s e) → after (rebased_machine s n) e a ≡ rebased_machine (after s e a) n

-- After a crash that keeps n steps, the machine with its base moved past them is a new machine over the world
-- after these steps, with the releases and replies of the old machine.
abbrev pub CrashReopens : Type 0
CrashReopens = (s : Machine) (n : ℕ) → rebased_machine (crashed s n) n ≡ record (adopted (world_after s.log n)) { released = s.released; replied = s.replied }
