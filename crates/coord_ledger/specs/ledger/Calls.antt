-- The effects of a ledger's calls.
use Rattle.std.specs.Prelude.{◌≡◌, ℕ, ◌+◌, Bool, List, [], take, is_some, Option, Some, None, Result, Ok, Err}
use Rattle.coord_disk.specs.Model.Present.{Present, IsImage}
use Rattle.coord_types.specs.declared.limits.TheConstants.{MAX_BATCH_STEPS}
use Rattle.coord_types.specs.declared.refusals.Refusal.{Refusal}
use Rattle.coord_types.specs.declared.refusals.Refusal.TheVariants.{OutOfMemory, Stranger}
use Rattle.coord_types.specs.declared.steps.Kind.{Kind}
use Rattle.coord_types.specs.declared.steps.Reply.{Reply}
use Rattle.coord_types.specs.declared.steps.Step.{Step}
use Rattle.coord_store.specs.Facade.{GivesEither, Recovered}
use Rattle.coord_world.specs.declared.verdicts.Verdict.{Verdict}
use Rattle.coord_world.specs.declared.verdicts.Verdict.TheVariants.{Fresh, Repeat}
use Rattle.coord_world.specs.Facade.{World, fold, outs, reply}
use Rattle.coord_ledger.specs.declared.handed.Handed.{Handed}
use Rattle.coord_ledger.specs.declared.handed.Handed.TheVariants as handed
use Rattle.coord_ledger.specs.declared.mark.Mark.{Mark}
use Rattle.coord_ledger.specs.declared.mark.Mark.TheVariants.{New, Good, Torn}
use Rattle.coord_ledger.specs.declared.release.Release.{Release}
use Rattle.coord_ledger.specs.ledger.Flights.{IsOut}
use Rattle.coord_ledger.specs.ledger.State.{Claim, FlightState, LedgerState}
use Rattle.coord_ledger.specs.machine.After.{log_back, releases_of}
use Rattle.coord_ledger.specs.machine.Answers.{cannot_flush}
use Rattle.coord_ledger.specs.machine.Log.{Log, front_world, pending, settled_count, settled_world, with_step, world_after}
use Rattle.coord_ledger.specs.machine.Submits.{verdict}

-- the claim for a step that gets this reply
abbrev pub claimed : Step → Reply → Claim
claimed what reply = record { step = reply.step; what = what; kind = reply.kind }

-- the ledger after it has accepted one more step
abbrev pub with_accepted : {D : Type 0} → LedgerState D → Step → LedgerState D
with_accepted l s = record l { log = with_step l.log s }

-- the claim of the returned ticket
abbrev pub claim_of : Handed → Claim
claim_of (handed.Accepted claim) = claim
claim_of (handed.Repeated claim) = claim

-- The reasons why a step gets no ticket: the step is refused, or it is fresh and memory runs out.
abbrev pub RefusesStep : Refusal → Result Verdict Refusal → Type 0
RefusesStep refusal (Ok (Fresh kind)) = refusal ≡ OutOfMemory
RefusesStep refusal (Ok (Repeat reply)) = ⊥
RefusesStep refusal (Err why) = refusal ≡ why

-- The step is fresh and was accepted.
pub record IsAccepted {D : Type 0} (l : LedgerState D) (s : Step) (claim : Claim) (new : LedgerState D) : Type 0 where
  pub kind : Kind
  pub judged : verdict l.log s ≡ Ok (Fresh kind)
  pub claims : claim ≡ claimed s (reply (front_world l.log) s)
  pub now : new ≡ with_accepted l s

-- The step is a repeat, and the ledger is unchanged.
pub record IsRepeated {D : Type 0} (l : LedgerState D) (s : Step) (claim : Claim) (new : LedgerState D) : Type 0 where
  pub kept : Reply
  pub judged : verdict l.log s ≡ Ok (Repeat kept)
  pub claims : claim ≡ claimed s kept
  pub now : new ≡ l

-- The step was refused, and the ledger is unchanged.
pub record IsRefused {D : Type 0} (l : LedgerState D) (s : Step) (refusal : Refusal) (new : LedgerState D) : Type 0 where
  pub why : RefusesStep refusal (verdict l.log s)
  pub now : new ≡ l

-- The result of submitting a step: it is accepted, repeated or refused.
abbrev pub HandedTo : {D : Type 0} → LedgerState D → Step → Result Handed Refusal → LedgerState D → Type 0
HandedTo l s (Ok (handed.Accepted claim)) new = IsAccepted l s claim new
HandedTo l s (Ok (handed.Repeated claim)) new = IsRepeated l s claim new
HandedTo l s (Err refusal) new = IsRefused l s refusal new

-- whether no flight can leave the ledger
abbrev pub keeps_store : {D : Type 0} → LedgerState D → Bool
keeps_store l = cannot_flush (is_some l.out) l.log

-- the next flight to leave, if the ledger's store has this disk
abbrev pub next_flight : {D : Type 0} → Log → D → FlightState D
next_flight log disk = record { first = settled_count log + 1; steps = take MAX_BATCH_STEPS (pending log); world = settled_world log; mark = New; disk = disk }

-- the ledger while its store is away with n steps in flight
abbrev pub with_store_out : {D : Type 0} → LedgerState D → ℕ → LedgerState D
with_store_out l n = record l { out = Some n; disk = None }

-- the ledger after a flight of n steps has returned
abbrev pub taken_back : {D : Type 0} → LedgerState D → ℕ → Mark → D → LedgerState D
taken_back l n mark disk = record { log = log_back l.log n mark; out = None; disk = Some disk }

-- the releases of a flight that is taken back with this mark
abbrev pub releases_in : {D : Type 0} → FlightState D → Mark → List Release
releases_in f New = []
releases_in f Good = releases_of (outs f.world f.steps)
releases_in f Torn = []

-- The reasons why a flight is not taken back: it is not the ledger's current flight, or memory for the list of
-- its releases ran out.
abbrev pub RefusesFlight : {D : Type 0} → LedgerState D → FlightState D → Refusal → Type 0
RefusesFlight l f Stranger = ¬ IsOut l f
RefusesFlight l f OutOfMemory = IsOut l f × (f.mark ≡ Good)
RefusesFlight l f refusal = ⊥

-- The worlds that the bytes of a flight's disk may give: before the commit, the world before the flight's
-- steps; after the commit, the world after them; after a torn commit, either world.
abbrev pub GivesFlown : Mark → World → List Step → List ℕ → Type 0
GivesFlown New w steps bytes = Recovered bytes w
GivesFlown Good w steps bytes = Recovered bytes (fold w steps)
GivesFlown Torn w steps bytes = GivesEither w (fold w steps) bytes

-- Each crash image of a flight's disk gives a world that the flight's mark allows.
abbrev pub FlightGives : {D : Type 0} → (D → Present) → FlightState D → Type 0
FlightGives present f = (image : List ℕ) → IsImage (present f.disk) image → GivesFlown f.mark f.world f.steps image

-- These bytes give the settled world or, if the ledger has stopped, possibly the world after the steps in
-- doubt.
abbrev pub GivesSettled : Log → Option ℕ → List ℕ → Type 0
GivesSettled log None bytes = Recovered bytes (settled_world log)
GivesSettled log (Some b) bytes = GivesEither (settled_world log) (world_after log (log.settled + b)) bytes

-- While no flight is out, each crash image of the ledger's disk gives the settled world or, if the ledger has
-- stopped, possibly the world after the steps in doubt.
abbrev pub LedgerGives : {D : Type 0} → (D → Present) → LedgerState D → D → Type 0
LedgerGives present l disk = (image : List ℕ) → IsImage (present disk) image → GivesSettled l.log l.log.doubt image
