-- The properties of a posted order and its reply, for the desk that counts.
use Rattle.std.proofs.Common.{◌≡◌, ℕ, Bool, true, false, cond, Result, Ok, Err, refl, sym, ap, ◌∙◌, subst}
use Rattle.coord_types.specs.declared.refusals.Refusal.{Refusal}
use Rattle.coord_types.specs.declared.refusals.Refusal.TheVariants.{Exhausted}
use Rattle.coord_types.specs.declared.steps.Reply.{Reply}
use Rattle.coord_admin.specs.declared.request.Request.{Request}
use Rattle.coord_admin.specs.declared.request.Request.TheVariants.{Order, Show, Resend, Close}
use Rattle.coord_admin.specs.declared.answer.Answer.TheVariants as answer
use Rattle.coord_admin.specs.Replies.{order_answer}
use Rattle.coord_admin.specs.CountDesk.{Counts, answer_of, count_after}

in_either : (t : Bool) (r : Reply) → order_answer (cond t (Ok r) (Err Exhausted)) ≡ cond t (answer.Replied r) (answer.Refused Exhausted)
in_either true r = refl
in_either false r = refl

pub counted_answered : (a b c : ℕ) (r : Request) (reply x : Result Reply Refusal) → Counts a r reply b → (x ≡ reply) × (c ≡ b) → (order_answer x ≡ answer_of a r) × (c ≡ count_after a r)
counted_answered a b c (Order client number command) reply x put replied = (ap order_answer (replied.0 ∙ put.0) ∙ in_either _ _, replied.1 ∙ put.1)
counted_answered a b c Show reply x put replied = absurd put
counted_answered a b c Resend reply x put replied = absurd put
counted_answered a b c Close reply x put replied = absurd put

pub counted_apart : (a b c : ℕ) (r : Request) (p q x : Result Reply Refusal) → Counts a r q b → (x ≡ p) × (c ≡ b) → (m : ℕ) × ((x ≡ p) × (m ≡ a)) × Counts m r q c
counted_apart a b c r p q x put replied = (a, (replied.0, refl), subst (λ n. Counts a r q n) (sym replied.1) put)

-- If the count does not change, the possible number of kept steps does not change either.
pub counted_keeps : (n m kept : ℕ) → m ≡ n → kept ≡ n → kept ≡ m
counted_keeps n m kept same is = is ∙ sym same
