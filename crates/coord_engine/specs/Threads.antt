-- The answers of an engine's calls while other threads make calls too. A thread that takes the lock knows only
-- that the value under it satisfies the invariant of its type. So a call's answer is right for some state that
-- the value can have.
use Rattle.std.specs.Prelude.{◌≡◌, ℕ, ◌≤◌, ◌<◌, false, true, List, is_some, take, Option, Result, Ok, Err, Some, IfNone, IfSome}
use Rattle.atomic_table.specs.Seated.{TableId}
use Rattle.coord_types.specs.declared.limits.TheConstants.{MAX_BATCH_STEPS}
use Rattle.coord_types.specs.declared.refusals.Refusal.{Refusal}
use Rattle.coord_types.specs.declared.refusals.Refusal.TheVariants.{Behind, OutOfMemory, Stopped}
use Rattle.coord_types.specs.declared.steps.Reply.{Reply}
use Rattle.coord_types.specs.declared.steps.Step.{Step}
use Rattle.coord_store.specs.Kept.{Kept, has_stopped}
use Rattle.coord_world.specs.Facade.{World, outs}
use Rattle.coord_ledger.specs.declared.release.Release.{Release}
use Rattle.coord_ledger.specs.declared.ticket.Note.{Note}
use Rattle.coord_ledger.specs.Facade.{Claim, FlightState, LedgerState, accepted_count, keeps_store, next_flight, pending, releases_of, resent, settled_count, settled_steps, settled_world}
use Rattle.coord_view.specs.Shown.{Shown, shown}
use Rattle.coord_engine.specs.Calls.{AnswersStep, IsReturnedToTicket, engine_verdict}
use Rattle.coord_engine.specs.Closing.{MayClose, RefusesClosing}
use Rattle.coord_engine.specs.MonotoneLog.{Beginning}
use Rattle.coord_engine.specs.Released.{HasReadSettled}
use Rattle.coord_engine.specs.State.{Basis, CanHold, GuardedState}
use Rattle.coord_engine.specs.declared.closed.CloseFault.{CloseFault}

-- P holds in some possible state of the value under the lock.
pub record AtSomeMoment {D : Type 0} (b : Basis D) (P : GuardedState D → Type 0) : Type 0 where
  pub state : GuardedState D
  pub held : CanHold b state
  pub so : P state

-- P holds in some possible state of the value under the lock. The token has read the steps of earlier
-- instances in this history and then the settled steps of this state.
abbrev pub AtMomentRead : {D : Type 0} → Basis D → TableId → List Step → Beginning → (GuardedState D → Type 0) → Type 0
AtMomentRead {D} b history earlier read P = AtSomeMoment {D = D} b (λ g. P g × HasReadSettled history earlier (settled_steps g.ledger.log) read)

-- The step was submitted in this state, with this answer.
abbrev pub Submits : {D : Type 0} → Step → Result Claim Refusal → List Note → List Note → GuardedState D → Type 0
Submits {D} s answer notes later g = (l : LedgerState D) × AnswersStep s (engine_verdict g s) (record { ledger = g.ledger; notes = notes }) answer (record { ledger = l; notes = later })

-- In this state, a caller with the seen count `seen` was shown the settled world, and its seen count became
-- `later`.
abbrev pub Shows : {D : Type 0} → Shown → ℕ → ℕ → GuardedState D → Type 0
Shows view seen later g = (is_some g.ledger.log.doubt ≡ false) × (seen ≤ settled_count g.ledger.log) × (view ≡ shown (accepted_count g.ledger.log) (settled_world g.ledger.log)) × (later ≡ settled_count g.ledger.log)

-- In this state, the settled world was not shown, for this reason.
abbrev pub RefusesShow : {D : Type 0} → Refusal → ℕ → GuardedState D → Type 0
RefusesShow Stopped seen g = is_some g.ledger.log.doubt ≡ true
RefusesShow (Behind settled) seen g = (settled ≡ settled_count g.ledger.log) × (settled < seen)
RefusesShow OutOfMemory seen g = Unit {0}
RefusesShow refusal seen g = ⊥

-- The answer to a request for a view, in a state whose settled steps the token has read: the view, or a
-- refusal that leaves the caller's seen count unchanged.
abbrev pub AnswersShow : {D : Type 0} → Basis D → TableId → List Step → Beginning → Result Shown Refusal → ℕ → ℕ → Type 0
AnswersShow {D} b history earlier read (Ok view) seen later = AtMomentRead b history earlier read (Shows {D = D} view seen later)
AnswersShow {D} b history earlier read (Err refusal) seen later = AtMomentRead b history earlier read (RefusesShow {D = D} refusal seen) × (later ≡ seen)

-- The answer to an awaited ticket, in a state whose settled steps the token has read.
abbrev pub AnswersTicket : {D : Type 0} → Basis D → TableId → List Step → Beginning → Claim → Result Reply (Refusal × Claim) → Type 0
AnswersTicket {D} b history earlier read claim answer = AtMomentRead {D = D} b history earlier read (λ g. IsReturnedToTicket g.ledger claim answer)

-- In this state, this flight left.
abbrev pub Leaves : {D : Type 0} → FlightState D → GuardedState D → Type 0
Leaves flight g = (keeps_store g.ledger ≡ false) × (flight ≡ next_flight g.ledger.log flight.disk)

-- In this state, the next flight left. It was committed, and these are its releases.
abbrev pub Flushes : {D : Type 0} → List Release → GuardedState D → Type 0
Flushes released g = (keeps_store g.ledger ≡ false) × (released ≡ releases_of (outs (settled_world g.ledger.log) (take MAX_BATCH_STEPS (pending g.ledger.log))))

-- These releases are the packets to be sent again because they may have been lost.
abbrev pub SendsAgain : {D : Type 0} → List Release → GuardedState D → Type 0
SendsAgain released g = released ≡ resent (settled_world g.ledger.log)

-- An engine in this state was taken apart into these parts: its store, its ledger's base and trail, and the
-- settled count.
abbrev pub IsLeftOf : {D : Type 0} → Kept D → World → List Step → ℕ → GuardedState D → Type 0
IsLeftOf store base trail settled g =
    (base ≡ g.ledger.log.base) × (trail ≡ g.ledger.log.trail) × (settled ≡ settled_count g.ledger.log)
    × (g.ledger.disk ≡ Some store.disk) × (store.world ≡ settled_world g.ledger.log) × (has_stopped store ≡ is_some g.ledger.log.doubt)

-- The engine was taken apart into these parts, and the shares noted exactly its accepted steps.
abbrev pub Closes : {D : Type 0} → Kept D → World → List Step → ℕ → List (List Note) → GuardedState D → Type 0
Closes store base trail settled shares g = MayClose g shares × IsLeftOf store base trail settled g

-- The engine was taken apart into these parts, whether or not it could be closed. If it could be closed, the
-- shares noted exactly its accepted steps; if not, `refused` has the reason. Callers have seen the settled
-- world up to step `seen`.
abbrev pub Retires : {D : Type 0} → Kept D → World → List Step → ℕ → Option CloseFault → List (List Note) → ℕ → GuardedState D → Type 0
Retires store base trail settled refused shares seen g =
    IsLeftOf store base trail settled g × IfNone refused (MayClose g shares) × IfSome refused (RefusesClosing g shares seen)
