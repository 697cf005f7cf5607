-- Laws about the two halves of answering an order: posting it, and replying to it.
use Rattle.std.proofs.Common.{◌≡◌, ℕ, List, length, max, Result, Ok, Err, inl, inr, refl, sym, ap, ◌∙◌, subst}
use Rattle.coord_types.specs.declared.refusals.Refusal.{Refusal}
use Rattle.coord_types.specs.declared.steps.Reply.{Reply}
use Rattle.coord_types.specs.declared.steps.Step.{Step}
use Rattle.coord_types.specs.declared.steps.Step.TheVariants as step
use Rattle.coord_ledger.specs.declared.ticket.Note.{Note}
use Rattle.coord_ledger.specs.ledger.State.{Claim}
use Rattle.coord_admin.specs.Replies.{order_answer}
use Rattle.coord_admin.specs.declared.request.Request.{Request}
use Rattle.coord_admin.specs.declared.request.Request.TheVariants as request
use Rattle.coord_engine.specs.Facade.{Basis}
use Rattle.coord_engine.specs.Threads.{AtSomeMoment, Submits}
use Rattle.coord_server.specs.EngineDesk.{AnswersOrder, DeskAnswers, DeskKeeps, DeskPosts, DeskReplies, DeskState, Replies, seen_after}

both : {D : Type 0} (b : Basis D) (s : Step) (posted : Result Claim Refusal) (reply : Result Reply Refusal) (before after : List Note) (read now : List Step) → AtSomeMoment b (Submits {D = D} s posted before after) → Replies b posted reply read now → AnswersOrder b s reply before after read now
both b s (Ok claim) (Ok reply) before after read now put returned = (claim, put, returned)
both b s (Ok claim) (Err refusal) before after read now put returned = inr (claim, put, returned)
both b s (Err why) (Ok reply) before after read now put returned = absurd returned
both {D} b s (Err why) (Err refusal) before after read now put returned = inl (subst (λ r. AtSomeMoment b (Submits {D = D} s (Err r) before after)) (sym returned.0) put, returned.1)

-- An order that is posted and then replied to is answered as `DeskAnswers` says.
pub desk_answered : {D P : Type 0} (b : Basis D) (d e f : DeskState P) (r : Request) (posted : Result Claim Refusal) (reply : Result Reply Refusal) → DeskPosts b d r posted e → DeskReplies b e posted reply f → DeskAnswers b d r (order_answer reply) f
desk_answered {D} b d e f (request.Order client number command) posted reply put returned =
    let s = step.Order client number command in (
      reply,
      refl,
      both b s posted reply d.notes f.notes d.read f.read (subst (λ notes. AtSomeMoment b (Submits {D = D} s posted d.notes notes)) (sym returned.1) put.0) (subst (λ read. Replies b posted reply read f.read) put.2 returned.0),
      returned.2 ∙ ap (seen_after reply) put.1,
      returned.3 ∙ put.3,
    )
desk_answered b d e f request.Show posted reply put returned = absurd put
desk_answered b d e f request.Resend posted reply put returned = absurd put
desk_answered b d e f request.Close posted reply put returned = absurd put

-- If another order is posted before a reply, the reply could as well have come first.
pub desk_apart : {D P : Type 0} (b : Basis D) (d e f : DeskState P) (r : Request) (p q : Result Claim Refusal) (reply : Result Reply Refusal) → DeskPosts b d r q e → DeskReplies b e p reply f → (m : DeskState P) × DeskReplies b d p reply m × DeskPosts b m r q f
desk_apart {D} b d e f (request.Order client number command) p q reply put returned = (
  record { notes = d.notes; seen = f.seen; read = f.read; port = d.port },
  (subst (λ read. Replies b p reply read f.read) put.2 returned.0, refl, returned.2 ∙ ap (seen_after reply) put.1, refl),
  (subst (λ notes. AtSomeMoment b (Submits {D = D} (step.Order client number command) q d.notes notes)) (sym returned.1) put.0, refl, refl, returned.3 ∙ put.3),
)
desk_apart b d e f request.Show p q reply put returned = absurd put
desk_apart b d e f request.Resend p q reply put returned = absurd put
desk_apart b d e f request.Close p q reply put returned = absurd put

-- A desk that waits for a reply notes nothing, so afterwards it keeps no fewer steps.
pub desk_loses_none : {D P : Type 0} (b : Basis D) (d e : DeskState P) (posted : Result Claim Refusal) (reply : Result Reply Refusal) (kept : ℕ) → DeskReplies b d posted reply e → DeskKeeps b d kept → DeskKeeps b e kept
desk_loses_none b d e posted reply kept returned is = (is.0, is.1, subst (λ notes. kept ≡ max is.0 (length notes)) (sym returned.1) is.2)
