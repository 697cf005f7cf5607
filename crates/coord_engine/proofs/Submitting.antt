-- A step that a ledger was handed, and the caller's notes.
use Rattle.std.proofs.Common.{List, ◌++◌, ◌∷◌, [], Result, Ok, Err, refl, ap, inl, inr}
use Rattle.coord_types.specs.declared.refusals.Refusal.{Refusal}
use Rattle.coord_types.specs.declared.refusals.Refusal.TheVariants.{OutOfMemory}
use Rattle.coord_types.specs.declared.steps.Step.{Step}
use Rattle.coord_world.specs.declared.verdicts.Verdict.{Verdict}
use Rattle.coord_world.specs.declared.verdicts.Verdict.TheVariants.{Fresh, Repeat}
use Rattle.coord_ledger.specs.declared.handed.Handed.TheVariants as handed
use Rattle.coord_ledger.specs.declared.ticket.Note.{Note}
use Rattle.coord_ledger.specs.Facade.{Claim, HandedTo, LedgerState, RefusesStep, verdict}
use Rattle.coord_engine.specs.Calls.{AnswersStep, LedgerAndNotes, note_of}

-- nothing has changed, and there is memory to lack or the refusal is what the ledger says
pub refused_step : {D : Type 0} (s : Step) (l later : LedgerState D) (why : Refusal) (notes : List Note) → HandedTo l s (Err why) later
    → AnswersStep s (verdict l.log s) (record { ledger = l; notes = notes }) (Err why) (record { ledger = later; notes = notes })
refused_step {D} s l later why notes to = by (verdict l.log s) to.why
  where
    by : (v : Result Verdict Refusal) → RefusesStep why v → AnswersStep s v (record { ledger = l; notes = notes }) (Err why) (record { ledger = later; notes = notes })
    by (Ok (Fresh kind)) is = (is, ap (λ x. record { ledger = x; notes = notes }) to.now)
    by (Ok (Repeat kept)) is = absurd is
    by (Err other) is = (inl is, ap (λ x. record { ledger = x; notes = notes }) to.now)

-- out of memory may stand in the place of any answer
pub no_memory : {D : Type 0} (s : Step) (v : Result Verdict Refusal) (x : LedgerAndNotes D) → AnswersStep s v x (Err OutOfMemory) x
no_memory s (Ok (Fresh kind)) x = (refl, refl)
no_memory s (Ok (Repeat kept)) x = (refl, refl)
no_memory s (Err why) x = (inr refl, refl)

pub accepted_step : {D : Type 0} (s : Step) (l later : LedgerState D) (claim : Claim) (notes : List Note) → HandedTo l s (Ok (handed.Accepted claim)) later
    → AnswersStep s (verdict l.log s) (record { ledger = l; notes = notes }) (Ok claim) (record { ledger = later; notes = notes ++ note_of claim ∷ [] })
accepted_step s l later claim notes is = rw is.judged (is.claims, ap (λ x. record { ledger = x; notes = notes ++ note_of claim ∷ [] }) is.now)

pub repeated_step : {D : Type 0} (s : Step) (l later : LedgerState D) (claim : Claim) (notes : List Note) → HandedTo l s (Ok (handed.Repeated claim)) later
    → AnswersStep s (verdict l.log s) (record { ledger = l; notes = notes }) (Ok claim) (record { ledger = later; notes = notes })
repeated_step s l later claim notes is = rw is.judged (is.claims, ap (λ x. record { ledger = x; notes = notes }) is.now)
