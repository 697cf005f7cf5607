-- A reply moves before all that was posted after its order.
use Rattle.std.proofs.Common.{List, [], ◌∷◌, Result, refl, ◌∙◌, subst}
use Rattle.coord_types.specs.declared.refusals.Refusal.{Refusal}
use Rattle.coord_types.specs.declared.steps.Reply.{Reply}
use Rattle.coord_admin.specs.declared.request.Request.{Request}
use Rattle.coord_admin.specs.declared.answer.Answer.{Answer}
use Rattle.coord_admin.specs.Replies.{order_answer}
use Rattle.coord_admin.specs.Together.{AllPosted, AnswersInTurn}

module _ {D P : Type 0} (answers : D → Request → Answer → D → Type 0) (posts : D → Request → P → D → Type 0) (replies : D → P → Result Reply Refusal → D → Type 0)
    (is_answered : (a b c : D) (r : Request) (p : P) (x : Result Reply Refusal) → posts a r p b → replies b p x c → answers a r (order_answer x) c)
    (stays_apart : (a b c : D) (r : Request) (p q : P) (x : Result Reply Refusal) → posts a r q b → replies b p x c → (m : D) × replies a p x m × posts m r q c) where
  moved : (orders : List Request) (posted : List P) (p : P) (x : Result Reply Refusal) (a b c : D) → AllPosted posts a orders posted b → replies b p x c → (m : D) × replies a p x m × AllPosted posts m orders posted c
  moved [] [] p x a b c same replied = (c, subst (λ s. replies s p x c) same replied, refl)
  moved [] (q ∷ posted) p x a b c none replied = absurd none
  moved (r ∷ orders) [] p x a b c none replied = absurd none
  moved (r ∷ orders) (q ∷ posted) p x a b c put replied =
      let later = moved orders posted p x put.0 b c put.2 replied in
      let first = stays_apart a put.0 later.0 r p q x put.1 later.1 in
      (first.0, first.1, (later.0, first.2, later.2))

  pub answers_in_turn : AnswersInTurn answers posts replies
  answers_in_turn d e f [] [] [] put replied = replied ∙ put
  answers_in_turn d e f [] [] (x ∷ results) put replied = absurd replied
  answers_in_turn d e f [] (p ∷ posted) results put replied = absurd put
  answers_in_turn d e f (r ∷ orders) [] results put replied = absurd put
  answers_in_turn d e f (r ∷ orders) (p ∷ posted) [] put replied = absurd replied
  answers_in_turn d e f (r ∷ orders) (p ∷ posted) (x ∷ results) put replied =
      let now = moved orders posted p x put.0 e replied.0 put.2 replied.1 in
      (now.0, is_answered d put.0 now.0 r p x put.1 now.1, answers_in_turn now.0 replied.0 f orders posted results now.2 replied.2)
