-- A run of events follows the event machine: the invariant of a run.
--
-- The machine keeps the base with which it began, and a crash cuts its trail; but a ledger made after a crash
-- has a new base. So the run's driver agrees with the machine as seen from the world after some of the settled
-- steps (`Represents`). The run's lists are equal to the machine's.
use Rattle.std.specs.Prelude.{◌≡◌, List, [], ◌∷◌, Option, Some, None}
use Rattle.coord_types.specs.declared.steps.Reply.{Reply}
use Rattle.coord_ledger.specs.declared.events.Answer.{Answer}
use Rattle.coord_ledger.specs.declared.events.Event.{Event}
use Rattle.coord_ledger.specs.declared.event_driver.run.Run.{Run}
use Rattle.coord_ledger.specs.ledger.Simulates.{Represents}
use Rattle.coord_ledger.specs.ledger.State.{Claim, IsGranted, reply_of}
use Rattle.coord_ledger.specs.machine.After.{after}
use Rattle.coord_ledger.specs.machine.Answers.{IsOneOf, answers}
use Rattle.coord_ledger.specs.machine.Log.{Log}
use Rattle.coord_ledger.specs.machine.Machine.{Machine}

-- A ticket that was not collected is granted by the log, and claims the reply that the machine has for it. A
-- collected ticket has no reply in the machine.
abbrev pub HoldsTicket : Log → Option Claim → Option Reply → Type 0
HoldsTicket log None None = Unit {0}
HoldsTicket log None (Some reply) = ⊥
HoldsTicket log (Some claim) None = ⊥
HoldsTicket log (Some claim) (Some reply) = (reply_of claim ≡ reply) × IsGranted log claim

abbrev pub HoldsTickets : Log → List (Option Claim) → List (Option Reply) → Type 0
HoldsTickets log [] [] = Unit {0}
HoldsTickets log [] (t ∷ ts) = ⊥
HoldsTickets log (c ∷ cs) [] = ⊥
HoldsTickets log (c ∷ cs) (t ∷ ts) = HoldsTicket log c t × HoldsTickets log cs ts

-- All parts of a run agree with the machine.
pub record Follows {D : Type 0} (r : Run D) (s : Machine) : Type 0 where
  pub represents : Represents r.driver s
  pub tickets : HoldsTickets r.driver.ledger.log r.tickets.items s.tickets
  pub seen : r.seen ≡ s.seen
  pub released : r.released.items ≡ s.released

-- The machine may give this answer to the event. Then the run follows the machine after the event.
pub record FollowsTo {D : Type 0} (s : Machine) (e : Event) (a : Answer) (r : Run D) : Type 0 where
  pub allowed : IsOneOf a (answers s e)
  pub follows : Follows r (after s e a)
