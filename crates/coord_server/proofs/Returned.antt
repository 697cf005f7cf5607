-- What a reply, and what is left of a disk, say of the steps of an instance.
use Rattle.std.proofs.lemmas.List.Elements.{Contains-append_left}
use Rattle.std.proofs.lemmas.List.Sorted.{Contains-permutation}
use Rattle.std.proofs.Common.{◌≡◌, ◌⊎◌, ℕ, zero, suc, ◌+◌, ◌-◌, ◌<◌, ◌≤◌, Contains, get_or, slice_get, true, List, [], ◌∷◌, ◌++◌, Option, Some, None, Result, Ok, length, take, is_some, refl, sym, ap, ◌∙◌, subst, inl, inr, arith, IfSome}
use Rattle.coord_types.specs.declared.refusals.Refusal.{Refusal}
use Rattle.coord_types.specs.declared.steps.Reply.{Reply}
use Rattle.coord_types.specs.declared.steps.Step.{Step}
use Rattle.coord_store.specs.Kept.{has_stopped}
use Rattle.coord_store.specs.Recovered.{Recovered}
use Rattle.coord_world.specs.Facade.{StepOutcome, World, fold, next, outputs, outs, reply}
use Rattle.coord_world.specs.declared.verdicts.Verdict.{Verdict}
use Rattle.coord_ledger.specs.declared.ticket.Note.{Note}
use Rattle.coord_ledger.specs.Facade.{Claim, IsCollectable, LedgerGives, Log, GivesSettled as LogGives, kinds_of, reply_of, settled_steps, settled_world}
use Rattle.coord_engine.specs.declared.closed.Closed.{Closed}
use Rattle.coord_engine.specs.Facade.{AnswersStep, AtSomeMoment, Basis, LedgerAndNotes, all_notes, engine_verdict, note_of, notes_of}
use Rattle.coord_server.specs.Returned.{InstanceGives, InstancesLeaveSteps, NamesItsStep, NotesAreReplies, NotesEndAnInstance, RepliesNameSteps}

-- the note's step stands at this place after a world, with that reply
record IsRepliedIn (w : World) (steps : List Step) (note : Note) (place : ℕ) : Type 0 where
  number : note.step ≡ w.count + place + 1
  there : slice_get steps place ≡ Some note.what
  outcome : StepOutcome
  given : slice_get (outs w steps) place ≡ Some outcome
  reply : outcome.reply ≡ record { step = note.step; kind = note.kind }

-- the first note after a world has the number of its reply
numbered : (n : ℕ) (w : World) (s : Step) → n ≡ w.count → ◌≡◌ {A = Note} (record { step = w.count + 1; what = s; kind = (reply w s).kind }) (record { step = n + 1; what = s; kind = (reply w s).kind })
numbered n w s count = ap (λ c. record { step = c + 1; what = s; kind = (reply w s).kind }) (sym count)

-- ---- replies

-- the claim's step was submitted, and its note
pub noted : {D : Type 0} (s : Step) (v : Result Verdict Refusal) (before after : LedgerAndNotes D) (claim : Claim) → AnswersStep s v before (Ok claim) after
    → (claim.what ≡ s) × ((after.notes ≡ before.notes ++ note_of claim ∷ []) ⊎ (after.notes ≡ before.notes))
noted s v before after claim h1 = grind arith

-- a claim of this step with this reply
pub claim_of : (s : Step) (reply : Reply) (claim : Claim) → reply ≡ reply_of claim → claim.what ≡ s → claim ≡ record { step = reply.step; what = s; kind = reply.kind }
claim_of s reply claim is what = λ i. record { step = (ap (λ (r : Reply). r.step) (sym is)) i; what = what i; kind = (ap (λ (r : Reply). r.kind) (sym is)) i }

names : {D : Type 0} (b : Basis D) (s : Step) (reply : Reply) (before after : List Note) (now : List Step) (claim : Claim) → claim ≡ record { step = reply.step; what = s; kind = reply.kind }
    → (after ≡ before ++ note_of claim ∷ []) ⊎ (after ≡ before) → AtSomeMoment b (λ g. IsCollectable g.ledger.log claim × (settled_steps g.ledger.log ≡ now)) → NamesItsStep b s reply before after now
names b s reply before after now claim is note settled = record {
  noted = subst (λ (c : Claim). (after ≡ before ++ note_of c ∷ []) ⊎ (after ≡ before)) is note;
  settled = subst (λ (c : Claim). AtSomeMoment b (λ g. IsCollectable g.ledger.log c × (settled_steps g.ledger.log ≡ now))) is settled;
}

pub replies_name_steps : (D : Type 0) → RepliesNameSteps D
replies_name_steps D b s reply before after read now (claim, accepted, returned) =
    let collected = returned.at in
    let note = noted s (engine_verdict accepted.state s) (record { ledger = accepted.state.ledger; notes = before }) (record { ledger = accepted.so.0; notes = after }) claim accepted.so.1 in
    names b s reply before after now claim (claim_of s reply claim collected.so.0.0 note.0) note.1 (record { state = collected.state; held = collected.held; so = (collected.so.0.1, collected.so.1) })

-- ---- notes

-- the note at a place: the step there, its number and the kind of its reply
note_of_place : (n : ℕ) (w : World) (steps : List Step) (note : Note) (k : ℕ) (d : Note) → n ≡ w.count → k < length (notes_of n steps (kinds_of w steps)) → get_or (notes_of n steps (kinds_of w steps)) k d ≡ note → IsRepliedIn w steps note k
note_of_place n w [] note k d count lt is = absurd (omega (arith, lt))
note_of_place n w (s ∷ steps) note zero d count lt is = record {
  number = sym (ap (λ (x : Note). x.step) is) ∙ (omega (arith, count));
  there = ap (λ (x : Note). Some x.what) is;
  outcome = record { reply = reply w s; outputs = outputs w s };
  given = refl;
  reply = ap (λ (x : Note). record { step = x.step; kind = x.kind }) (numbered n w s count ∙ is);
}
note_of_place n w (s ∷ steps) note (suc k) d count lt is =
    let there = note_of_place (n + 1) (next w s) steps note k d (ap (λ c. c + 1) count) (omega (arith, lt)) is in
    record { number = omega (arith, there.number); there = there.there; outcome = there.outcome; given = there.given; reply = there.reply }

pub notes_are_replies : (D P : Type 0) → NotesAreReplies D P
notes_are_replies D P b desk left history note is_noted =
    let all = all_notes (desk.notes ∷ history.workers) in
    let notes = notes_of left.base.count left.trail.items (kinds_of left.base left.trail.items) in
    let here : Contains all note = Contains-append_left desk.notes (all_notes history.workers) note is_noted in
    let there : Contains notes note = Contains-permutation all notes note history.named.each_once here in
    let is = note_of_place left.base.count left.base left.trail.items note there.0 note refl there.1 there.2 in
    record { place = there.0; number = is.number; there = is.there; outcome = is.outcome; given = is.given; reply = is.reply }

-- ---- disks

of_disk : {D : Type 0} (o : Option D) (d : D) (P : D → Type 0) → o ≡ Some d → IfSome o P → P d
of_disk o d P is so = subst (λ x. IfSome x P) is so

gives : {D : Type 0} (left : Closed D) (log : Log) (doubt : Option ℕ) (image : List ℕ) → log.doubt ≡ doubt
    → left.base ≡ log.base → left.trail.items ≡ log.trail → left.settled ≡ log.base.count + log.settled → left.store.world ≡ settled_world log → has_stopped left.store ≡ is_some log.doubt
    → IfSome doubt (λ size. log.settled + size ≤ length log.trail) → LogGives log doubt image → InstanceGives left image
gives left log None image at same_base same_trail counted world stopped fits is = inl (subst (Recovered image) (sym world) is)
gives left log (Some size) image at same_base same_trail counted world stopped fits (inl is) = inl (subst (Recovered image) (sym world) is)
gives left log (Some size) image at same_base same_trail counted world stopped fits (inr is) =
    let count : left.base.count ≡ log.base.count = ap (λ (w : World). w.count) same_base in
    let long : length left.trail.items ≡ length log.trail = ap length same_trail in
    let place : log.settled + size ≡ left.settled - left.base.count + size = omega (arith, counted, count) in
    let here : fold log.base (take (log.settled + size) log.trail) ≡ fold left.base (take (left.settled - left.base.count + size) left.trail.items) =
    ap (λ n. fold log.base (take n log.trail)) place ∙ ap (λ (l : List Step). fold log.base (take (left.settled - left.base.count + size) l)) (sym same_trail) ∙ ap (λ (w : World). fold w (take (left.settled - left.base.count + size) left.trail.items)) (sym same_base) in
    inr (size, stopped ∙ ap is_some at, omega (arith, counted, count, long, fits), subst (Recovered image) here is)

fits_of : (log : Log) (doubt : Option ℕ) (P : ℕ → Type 0) → IfSome doubt (λ size. (1 ≤ size) × (log.settled + size ≤ length log.trail) × P size) → IfSome doubt (λ size. log.settled + size ≤ length log.trail)
fits_of log None P is = tt
fits_of log (Some size) P is = is.1

pub instances_leave_steps : (D P : Type 0) → InstancesLeaveSteps D P
instances_leave_steps D P b desk left history keeps image is =
    let g = history.closed.state in
    let so = history.closed.so.1 in
    let held = history.closed.held in
    let images : LedgerGives b.present g.ledger left.store.disk = of_disk g.ledger.disk left.store.disk (λ disk. b.keeps_model disk ≡ true → LedgerGives b.present g.ledger disk) so.3 held.images keeps in
    gives left g.ledger.log g.ledger.log.doubt image refl so.0 so.1 so.2 so.4 so.5 (fits_of g.ledger.log g.ledger.log.doubt (λ _. g.ledger.out ≡ None) held.doubt) (images image is)

-- ---- how long an instance is

pub notes_end_an_instance : (D P : Type 0) → NotesEndAnInstance D P
notes_end_an_instance D P b desk most long (kept, (trail, moment, is), fewer) = omega (arith, long, is, fewer)
