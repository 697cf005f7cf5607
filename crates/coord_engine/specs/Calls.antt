-- The answers of the value under an engine's lock to steps and tickets.
use Rattle.std.specs.Prelude.{◌≡◌, ◌⊎◌, ◌<◌, ◌≤◌, true, false, List, [], ◌∷◌, ◌++◌, is_some, Result, Ok, Err, if◌then◌else◌}
use Rattle.coord_types.specs.declared.refusals.Refusal.{Refusal}
use Rattle.coord_types.specs.declared.refusals.Refusal.TheVariants.{OutOfMemory, Stopped, Stranger}
use Rattle.coord_types.specs.declared.steps.Reply.{Reply}
use Rattle.coord_types.specs.declared.steps.Step.{Step}
use Rattle.coord_world.specs.declared.verdicts.Verdict.{Verdict}
use Rattle.coord_world.specs.declared.verdicts.Verdict.TheVariants.{Fresh, Repeat}
use Rattle.coord_world.specs.protocol.Next.{reply}
use Rattle.coord_ledger.specs.declared.ticket.Note.{Note}
use Rattle.coord_ledger.specs.Facade.{Claim, IsCollectable, LedgerState, claimed, front_world, verdict, reply_of, settled_count, with_accepted}
use Rattle.coord_engine.specs.State.{GuardedState}
use Rattle.coord_engine.specs.declared.collected.Collected.{Collected}
use Rattle.coord_engine.specs.declared.collected.Collected.TheVariants.{Settled, Refused, Waiting}

-- the note of a claim: the claim's step number, its step, and the kind of its reply
abbrev pub note_of : Claim → Note
note_of claim = record { step = claim.step; what = claim.what; kind = claim.kind }

-- the engine's verdict about a step, if memory does not run out: `Stopped` for a finishing engine, otherwise
-- the ledger's verdict
abbrev pub engine_verdict : {D : Type 0} → GuardedState D → Step → Result Verdict Refusal
engine_verdict g s = if g.finishing then Err Stopped else verdict g.ledger.log s

-- a ledger and the notes of a caller's share: all that submitting a step may change
pub record LedgerAndNotes (D : Type 0) : Type 0 where
  pub ledger : LedgerState D
  pub notes : List Note

-- The answer to a submitted step. An accepted step is appended to the trail, and the step's note to the
-- caller's share. A repeat gets the kept reply. `OutOfMemory` may replace any answer. A refusal changes
-- nothing.
abbrev pub AnswersStep : {D : Type 0} → Step → Result Verdict Refusal → LedgerAndNotes D → Result Claim Refusal → LedgerAndNotes D → Type 0
AnswersStep s (Ok (Fresh kind)) before (Ok claim) after = (claim ≡ claimed s (reply (front_world before.ledger.log) s)) × (after ≡ record { ledger = with_accepted before.ledger s; notes = before.notes ++ note_of claim ∷ [] })
AnswersStep s (Ok (Repeat kept)) before (Ok claim) after = (claim ≡ claimed s kept) × (after ≡ before)
AnswersStep s (Err why) before (Ok claim) after = ⊥
AnswersStep s (Ok verdict) before (Err refusal) after = (refusal ≡ OutOfMemory) × (after ≡ before)
AnswersStep s (Err why) before (Err refusal) after = ((refusal ≡ why) ⊎ (refusal ≡ OutOfMemory)) × (after ≡ before)

-- The reasons why a ticket gets no reply. `Stranger`: a step with the ticket's number is settled, but it is
-- another step. `Stopped`: the ticket's step will never be settled.
abbrev pub RefusesTicket : {D : Type 0} → LedgerState D → Claim → Refusal → Type 0
RefusesTicket l claim Stranger = (claim.step ≤ settled_count l.log) × ¬ IsCollectable l.log claim
RefusesTicket l claim Stopped = (settled_count l.log < claim.step) × (is_some l.log.doubt ≡ true)
RefusesTicket l claim refusal = ⊥

-- The answer to a ticket: its reply if its step is settled, a refusal if there will be no reply, and otherwise
-- `Waiting`.
abbrev pub CollectsAs : {D : Type 0} → LedgerState D → Claim → Collected → Type 0
CollectsAs l claim (Settled reply) = (reply ≡ reply_of claim) × IsCollectable l.log claim
CollectsAs l claim (Refused refusal back) = (back ≡ claim) × RefusesTicket l claim refusal
CollectsAs l claim (Waiting back) = (back ≡ claim) × (settled_count l.log < claim.step) × (is_some l.log.doubt ≡ false)

-- The answer to a ticket that need not wait any longer: its reply, or a refusal.
abbrev pub IsReturnedToTicket : {D : Type 0} → LedgerState D → Claim → Result Reply (Refusal × Claim) → Type 0
IsReturnedToTicket l claim (Ok reply) = CollectsAs l claim (Settled reply)
IsReturnedToTicket l claim (Err refused) = CollectsAs l claim (Refused refused.0 refused.1)
