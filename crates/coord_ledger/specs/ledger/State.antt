-- A ledger, a flight and a ticket as contracts see them.
use Rattle.std.specs.Prelude.{◌≡◌, ◌⊎◌, ℕ, ◌≤◌, List, Option, Some, None, slice_get}
use Rattle.coord_types.specs.Table.{get}
use Rattle.coord_types.specs.declared.steps.Kind.{Kind}
use Rattle.coord_types.specs.declared.steps.Reply.{Reply}
use Rattle.coord_types.specs.declared.steps.Session.{Session}
use Rattle.coord_types.specs.declared.steps.Step.{Step}
use Rattle.coord_types.specs.declared.steps.Step.TheVariants.{Order}
use Rattle.coord_world.specs.Facade.{World, reply}
use Rattle.coord_ledger.specs.declared.mark.Mark.{Mark}
use Rattle.coord_ledger.specs.machine.Log.{Log, log_over, settled_count, world_after}
use Rattle.coord_ledger.specs.machine.Machine.{Machine, machine_over}

pub record LedgerState (D : Type 0) : Type 0 where
  pub log : Log
  pub out : Option ℕ  -- the number of steps in flight
  pub disk : Option D  -- the disk of the store; None while the disk is away with a flight

pub record FlightState (D : Type 0) : Type 0 where
  pub first : ℕ  -- the number of the flight's first step
  pub steps : List Step
  pub world : World  -- the world that was settled when the flight left
  pub mark : Mark
  pub disk : D

-- a ledger that was just created over a store with this world and disk
abbrev pub ledger_over : {D : Type 0} → World → D → LedgerState D
ledger_over w disk = record { log = log_over w; out = None; disk = Some disk }

-- the event machine at the start of a run
abbrev pub started : {D : Type 0} → LedgerState D → Machine
started l = machine_over l.log

-- The claim of a ticket: the step has this number, and its reply has this kind.
pub record Claim : Type 0 where
  pub step : ℕ
  pub what : Step
  pub kind : Kind

abbrev pub reply_of : Claim → Reply
reply_of claim = record { step = claim.step; kind = claim.kind }

-- The log has the claim's step at the claim's number, with a reply of the claim's kind.
pub record IsInTrail (log : Log) (claim : Claim) : Type 0 where
  pub place : ℕ
  pub there : slice_get log.trail place ≡ Some claim.what
  pub answered : reply (world_after log place) claim.what ≡ reply_of claim

-- The base keeps the claim's reply as the reply to a client's last order.
pub record IsKeptBy (base : World) (claim : Claim) : Type 0 where
  pub client : ℕ
  pub last : Session
  pub there : get base.sessions client ≡ Some last
  pub order : claim.what ≡ Order client last.number last.command
  pub answered : last.reply ≡ reply_of claim

-- The claim is true in this log.
abbrev pub IsGranted : Log → Claim → Type 0
IsGranted log claim = IsInTrail log claim ⊎ IsKeptBy log.base claim

-- The claim is true and its step is settled. Exactly then the ticket's reply is returned.
pub record IsCollectable (log : Log) (claim : Claim) : Type 0 where
  pub settled : claim.step ≤ settled_count log
  pub granted : IsGranted log claim
