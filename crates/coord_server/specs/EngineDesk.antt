-- The possible answers of a desk over an engine. Other threads call the engine too, so each answer is true in
-- some possible state of the engine.
use Rattle.std.specs.Prelude.{◌≡◌, ◌⊎◌, ℕ, Bool, List, drop, max, length, Result, Ok, Err}
use Rattle.atomic_table.specs.Seated.{TableId}
use Rattle.coord_types.specs.declared.packets.Packet.{Packet}
use Rattle.coord_types.specs.declared.refusals.Refusal.{Refusal}
use Rattle.coord_types.specs.declared.refusals.Refusal.TheVariants.{OutOfMemory}
use Rattle.coord_types.specs.declared.steps.Reply.{Reply}
use Rattle.coord_types.specs.declared.steps.Step.{Step}
use Rattle.coord_types.specs.declared.steps.Step.TheVariants as step
use Rattle.coord_ledger.specs.declared.release.Release.{Release}
use Rattle.coord_ledger.specs.declared.ticket.Note.{Note}
use Rattle.coord_ledger.specs.Facade.{settled_steps}
use Rattle.coord_ledger.specs.ledger.State.{Claim}
use Rattle.coord_view.specs.Shown as shown
use Rattle.coord_engine.specs.Facade.{AreHanded, Basis, Beginning, CollectsAs, GuardedState, HasReadSettled, StartsWith, deliveries_of}
use Rattle.coord_engine.specs.Threads.{AtSomeMoment, RefusesShow, SendsAgain, Shows, Submits}
use Rattle.coord_engine.specs.declared.collected.Collected.TheVariants.{Settled, Refused}
use Rattle.coord_admin.specs.Replies.{order_answer, resend_answer, show_answer}
use Rattle.coord_admin.specs.declared.answer.Answer.{Answer}
use Rattle.coord_admin.specs.declared.answer.Answer.TheVariants.{Closed}
use Rattle.coord_admin.specs.declared.request.Request.{Request}
use Rattle.coord_admin.specs.declared.request.Request.TheVariants as request

-- The state of a desk: the notes of the steps accepted for it, the greatest number of a step that it knows to
-- be settled, the settled steps that it has read, and the port for resent packets.
pub record DeskState (P : Type 0) : Type 0 where
  pub notes : List Note
  pub seen : ℕ
  pub read : List Step
  pub port : P

-- the steps that a token has read after the steps of earlier instances
abbrev pub read_in : List Step → Beginning → List Step
read_in earlier read = drop (length earlier) read.steps

-- A token has read some steps of this history after the steps of earlier instances.
abbrev pub IsReadIn : TableId → List Step → Beginning → Type 0
IsReadIn history earlier read = HasReadSettled history earlier (read_in earlier read) read

-- P holds in some possible state of the engine in which the settled steps are `now`, the steps that the desk has read by now.
-- They begin with `before`, the steps that the desk had read earlier.
pub record AtMomentAnswered {D : Type 0} (b : Basis D) (before now : List Step) (P : GuardedState D → Type 0) : Type 0 where
  pub at : AtSomeMoment b (λ g. P g × (settled_steps g.ledger.log ≡ now))
  pub begins : StartsWith now before

-- A step was submitted, and the submission returned a ticket with this claim.
abbrev pub AcceptsOrder : {D : Type 0} → Basis D → Step → Claim → List Note → List Note → Type 0
AcceptsOrder {D} b s claim before after = AtSomeMoment b (Submits {D = D} s (Ok claim) before after)

-- the result of waiting for a ticket's reply, without the ticket that a refusal gives back
abbrev pub without_ticket : Result Reply (Refusal × Claim) → Result Reply Refusal
without_ticket (Ok reply) = Ok reply
without_ticket (Err refused) = Err refused.0

-- The answer to a posted step: the reply, once the step is settled, or the reason why there will be none. The desk had read the
-- steps `before` when it began to wait, and has now read the steps `now`.
abbrev pub Replies : {D : Type 0} → Basis D → Result Claim Refusal → Result Reply Refusal → List Step → List Step → Type 0
Replies {D} b (Ok claim) (Ok reply) before now = AtMomentAnswered b before now (λ g. CollectsAs {D = D} g.ledger claim (Settled reply))
Replies {D} b (Ok claim) (Err refusal) before now = AtMomentAnswered b before now (λ g. CollectsAs {D = D} g.ledger claim (Refused refusal claim))
Replies {D} b (Err why) (Ok reply) before now = ⊥
Replies {D} b (Err why) (Err refusal) before now = (refusal ≡ why) × (now ≡ before)

-- A reply is returned once its step is settled. A refusal comes either from the submission, or later, while the desk waits for
-- the reply. In the second case the step was accepted, and the same order gets the reply if it is sent again. `read` are the
-- steps that the desk had read before, and `now` the steps that it has read now.
abbrev pub AnswersOrder : {D : Type 0} → Basis D → Step → Result Reply Refusal → List Note → List Note → List Step → List Step → Type 0
AnswersOrder {D} b s (Ok reply) before after read now = (claim : Claim) × AcceptsOrder b s claim before after × AtMomentAnswered b read now (λ g. CollectsAs {D = D} g.ledger claim (Settled reply))
AnswersOrder {D} b s (Err refusal) before after read now =
    (AtSomeMoment b (Submits {D = D} s (Err refusal) before after) × (now ≡ read))
    ⊎ ((claim : Claim) × AcceptsOrder b s claim before after × AtMomentAnswered b read now (λ g. CollectsAs {D = D} g.ledger claim (Refused refusal claim)))

-- A view shows the world after exactly the steps that the desk has read now. A refusal has a reason that holds in that state.
abbrev pub ShowsTo : {D : Type 0} → Basis D → Result shown.Shown Refusal → ℕ → ℕ → List Step → List Step → Type 0
ShowsTo {D} b (Ok view) seen later before now = AtMomentAnswered b before now (Shows {D = D} view seen later)
ShowsTo {D} b (Err refusal) seen later before now = AtMomentAnswered b before now (RefusesShow {D = D} refusal seen) × (later ≡ seen)

abbrev pub seen_after : Result Reply Refusal → ℕ → ℕ
seen_after (Ok reply) seen = max seen reply.step
seen_after (Err refusal) seen = seen

-- the answer to a request to resend: the number of resent packets, or out of memory
abbrev pub Resends : {D : Type 0} → Basis D → Result ℕ Refusal → Type 0
Resends {D} b (Ok count) = (released : List Release) × AtSomeMoment b (SendsAgain {D = D} released) × (count ≡ length released)
Resends {D} b (Err refusal) = refusal ≡ OutOfMemory

-- The packets that may have been lost were passed to a port again, each once and in order, and then the port handed them on.
-- `count` is the number of packets. `carried`, `signalled` and `handed_on` relate the states of the port before and after each
-- call.
abbrev pub HandsAgain : {D P : Type 0} → Basis D → (P → ℕ → Packet → Bool → P → Type 0) → (P → ℕ → ℕ → ℕ → Bool → P → Type 0) → (P → ℕ → P → Type 0) → ℕ → P → P → Type 0
HandsAgain {D} b carried signalled handed_on count port later =
    (released : List Release) × AtSomeMoment b (SendsAgain {D = D} released) × (count ≡ length released) × AreHanded carried signalled handed_on port (deliveries_of released) later

abbrev pub DeskAnswers : {D P : Type 0} → Basis D → DeskState P → Request → Answer → DeskState P → Type 0
DeskAnswers {D} b d (request.Order client number command) answer e =
    (result : Result Reply Refusal) × (answer ≡ order_answer result) × AnswersOrder b (step.Order client number command) result d.notes e.notes d.read e.read × (e.seen ≡ seen_after result d.seen) × (e.port ≡ d.port)
DeskAnswers {D} b d request.Show answer e =
    (result : Result shown.Shown Refusal) × (answer ≡ show_answer result) × ShowsTo b result d.seen e.seen d.read e.read × (e.notes ≡ d.notes) × (e.port ≡ d.port)
DeskAnswers {D} b d request.Resend answer e = (result : Result ℕ Refusal) × (answer ≡ resend_answer result) × Resends b result × (e.notes ≡ d.notes) × (e.seen ≡ d.seen) × (e.read ≡ d.read)
DeskAnswers {D} b d request.Close answer e = (answer ≡ Closed) × (e ≡ d)

-- The desk submits an order, and learns nothing more about the settled world. Only orders can be posted.
abbrev pub DeskPosts : {D P : Type 0} → Basis D → DeskState P → Request → Result Claim Refusal → DeskState P → Type 0
DeskPosts {D} b d (request.Order client number command) posted e = AtSomeMoment b (Submits {D = D} (step.Order client number command) posted d.notes e.notes) × (e.seen ≡ d.seen) × (e.read ≡ d.read) × (e.port ≡ d.port)
DeskPosts {D} b d request posted e = ⊥

-- The desk waits for the reply to a posted order, and notes no further step.
abbrev pub DeskReplies : {D P : Type 0} → Basis D → DeskState P → Result Claim Refusal → Result Reply Refusal → DeskState P → Type 0
DeskReplies {D} b d posted reply e = Replies b posted reply d.read e.read × (e.notes ≡ d.notes) × (e.seen ≡ seen_after reply d.seen) × (e.port ≡ d.port)

-- The number of steps that the engine kept at some moment, but at least the number of the desk's own notes.
abbrev pub DeskKeeps : {D P : Type 0} → Basis D → DeskState P → ℕ → Type 0
DeskKeeps {D} b d kept = (trail : ℕ) × AtSomeMoment {D = D} b (λ g. trail ≡ length g.ledger.log.trail) × (kept ≡ max trail (length d.notes))
