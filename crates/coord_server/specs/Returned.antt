-- The steps that an instance's replies name, and the steps that its remaining disk holds.
use Rattle.std.specs.List.{AllByRecursion}
use Rattle.std.specs.Prelude.{◌≡◌, ◌⊎◌, ℕ, ◌+◌, ◌-◌, ◌≤◌, true, List, [], ◌∷◌, ◌++◌, Contains, Ok, Some, length, slice_get, take}
use Rattle.coord_disk.specs.Model.Present.{IsImage}
use Rattle.coord_types.specs.declared.steps.Reply.{Reply}
use Rattle.coord_types.specs.declared.steps.Step.{Step}
use Rattle.coord_store.specs.Kept.{has_stopped}
use Rattle.coord_store.specs.Recovered.{Recovered}
use Rattle.coord_world.specs.Facade.{StepOutcome, fold, outs}
use Rattle.coord_ledger.specs.declared.ticket.Note.{Note}
use Rattle.coord_ledger.specs.Facade.{IsCollectable, settled_steps}
use Rattle.coord_engine.specs.State.{Basis}
use Rattle.coord_engine.specs.Threads.{AtSomeMoment}
use Rattle.coord_engine.specs.declared.closed.Closed.{Closed}
use Rattle.coord_admin.specs.Connections.{Connection, Talk}
use Rattle.coord_admin.specs.InstanceLimit.{HasKeptFewer}
use Rattle.coord_admin.specs.Replies.{reply_line, reply_lines}
use Rattle.coord_admin.specs.declared.answer.Answer.{Answer}
use Rattle.coord_admin.specs.declared.answer.Answer.TheVariants.{Faulted, Refused, Replied, Resent, Shown}
use Rattle.coord_admin.specs.declared.answer.Answer.TheVariants as answer
use Rattle.coord_lines.specs.Written.{IsFirstPart}
use Rattle.coord_server.specs.EngineDesk.{AnswersOrder, DeskKeeps, DeskState}
use Rattle.coord_server.specs.Ending.{IsClosed, IsOneHistory, ServedWhileOpen}

-- An order got a reply. It was just noted with the reply's number and kind, or it is a repeat and nothing was noted. Among the
-- settled steps that the desk had read by then, the step with this number is the order, and was answered with this kind; or the
-- base kept this reply for the order.
pub record NamesItsStep {D : Type 0} (b : Basis D) (s : Step) (reply : Reply) (before after : List Note) (read : List Step) : Type 0 where
  pub noted : (after ≡ before ++ record { step = reply.step; what = s; kind = reply.kind } ∷ []) ⊎ (after ≡ before)
  pub settled : AtSomeMoment b (λ g. IsCollectable g.ledger.log (record { step = reply.step; what = s; kind = reply.kind }) × (settled_steps g.ledger.log ≡ read))

-- Each reply of a desk to an order names the order's step.
abbrev pub RepliesNameSteps : Type 0 → Type 0
RepliesNameSteps D = (b : Basis D) (s : Step) (reply : Reply) (before after : List Note) (read now : List Step) → AnswersOrder b s (Ok reply) before after read now → NamesItsStep b s reply before after now

-- The remaining trail of an instance has the note's step at its number, and gives it the note's reply.
pub record IsReplied {D : Type 0} (left : Closed D) (note : Note) : Type 0 where
  pub place : ℕ
  pub number : note.step ≡ left.base.count + place + 1
  pub there : slice_get left.trail.items place ≡ Some note.what
  pub outcome : StepOutcome
  pub given : slice_get (outs left.base left.trail.items) place ≡ Some outcome
  pub reply : outcome.reply ≡ record { step = note.step; kind = note.kind }

-- Each reply that a desk noted in an instance is the reply of its step in the remaining history.
abbrev pub NotesAreReplies : Type 0 → Type 0 → Type 0
NotesAreReplies D P = (b : Basis D) (desk : DeskState P) (left : Closed D) → IsOneHistory b desk left → (note : Note) → Contains desk.notes note → IsReplied left note

-- An answer names no later step than this one, in its reply or in its view.
abbrev pub AnswersUpTo : ℕ → Answer → Type 0
AnswersUpTo step (Replied r) = r.step ≤ step
AnswersUpTo step (Shown v) = v.settled ≤ step
AnswersUpTo step (Refused r) = Unit {0}
AnswersUpTo step (Resent n) = Unit {0}
AnswersUpTo step answer.Closed = Unit {0}
AnswersUpTo step (Faulted f) = Unit {0}

-- The output consists of lines that name no later step than this one. Its last line may be cut off.
pub record WritesUpTo (step : ℕ) (text : List ℕ) : Type 0 where
  pub returned : List Answer
  pub up_to : AllByRecursion (AnswersUpTo step) returned
  pub part : List ℕ
  pub broken : (part ≡ []) ⊎ ((last : Answer) × AnswersUpTo step last × IsFirstPart part (reply_line last))
  pub text_is : text ≡ reply_lines returned ++ part

-- The output of each of these connections names no later step than this one.
abbrev pub AllWriteUpTo : ℕ → List Connection → Type 0
AllWriteUpTo step cs = AllByRecursion (λ c. WritesUpTo step c.talk.bytes_written) cs

-- All replies and views of an instance's desk name only steps that are settled in the remaining parts. This holds whether or not
-- a caller closed the desk.
abbrev pub ReturnedIsSettled : Type 0 → Type 0 → {V : Type 0} → (V → List Talk → V → Type 0) → Type 0
ReturnedIsSettled D P {V} talked =
    (b : Basis D) (most : ℕ) (port : P) (v w : V) (desk : DeskState P) (left : Closed D) → IsOneHistory b desk left
    → ((served : ServedWhileOpen b talked most port v w desk) → AllWriteUpTo left.settled served.0)
    × ((served : IsClosed b talked most port v w desk) → AllWriteUpTo left.settled (served.0 ++ served.1 ∷ []))

-- These bytes give the world after the settled steps of an instance. If the store has stopped, they may also give the world after
-- more steps of the trail, whose commit is in doubt.
abbrev pub InstanceGives : {D : Type 0} → Closed D → List ℕ → Type 0
InstanceGives left bytes =
    Recovered bytes left.store.world
    ⊎ ((size : ℕ) × (has_stopped left.store ≡ true) × (left.settled + size ≤ left.base.count + length left.trail.items)
    × Recovered bytes (fold left.base (take (left.settled - left.base.count + size) left.trail.items)))

-- If the disk keeps the model, any bytes that a crash may leave of an instance's disk give a world as in `InstanceGives`.
abbrev pub InstancesLeaveSteps : Type 0 → Type 0 → Type 0
InstancesLeaveSteps D P =
    (b : Basis D) (desk : DeskState P) (left : Closed D) → IsOneHistory b desk left
    → b.keeps_model left.store.disk ≡ true → (image : List ℕ) → IsImage (b.present left.store.disk) image → InstanceGives left image

-- A desk that has noted as many steps as an instance has never keeps fewer, whatever its engine keeps.
abbrev pub NotesEndAnInstance : Type 0 → Type 0 → Type 0
NotesEndAnInstance D P = (b : Basis D) (desk : DeskState P) (most : ℕ) → most ≤ length desk.notes → ¬ HasKeptFewer (DeskKeeps b) desk most
