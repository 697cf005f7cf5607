-- The queue of posted orders: its content, and the effect of their replies on it.
use Rattle.std.proofs.Common.{◌≡◌, ℕ, ◌<◌, ◌≤◌, true, List, [], ◌∷◌, ◌++◌, length, map, Result, Ok, refl, sym, ap, ◌∙◌, subst, append_assoc, arith}
use Rattle.std.proofs.lemmas.List.{map-append}
use Rattle.coord_types.specs.declared.limits.TheConstants.{MAX_BATCH_STEPS}
use Rattle.coord_types.specs.declared.refusals.Refusal.{Refusal}
use Rattle.coord_types.specs.declared.steps.Reply.{Reply}
use Rattle.coord_lines.specs.Lines.{Line}
use Rattle.coord_lines.specs.Written.{IsFirstPart}
use Rattle.coord_admin.specs.declared.request.Request.{Request}
use Rattle.coord_admin.specs.declared.answer.Answer.{Answer}
use Rattle.coord_admin.specs.Requests.{asked_by}
use Rattle.coord_admin.specs.Replies.{order_answer, reply_lines}
use Rattle.coord_admin.specs.Stream.{AllGet, AreWritten, BreaksOff}
use Rattle.coord_admin.specs.Together.{AllPosted, AllReplied, ArePosted, AskFor, AwaitReplies, is_order}
use Rattle.coord_admin.proofs.Stream.{all-ordered, all-returned, breaks-among}
use Rattle.coord_admin.proofs.Together.{answers_in_turn}

-- ---- one more

ask-on : (lines : List Line) (orders : List Request) (line : Line) (r : Request) → AskFor lines orders → asked_by line ≡ Ok r → is_order r ≡ true → AskFor (lines ++ line ∷ []) (orders ++ r ∷ [])
ask-on [] [] line r asks e o = (e, o, tt)
ask-on [] (q ∷ orders) line r asks e o = absurd asks
ask-on (l ∷ lines) [] line r asks e o = absurd asks
ask-on (l ∷ lines) (q ∷ orders) line r asks e o = (asks.0, asks.1, ask-on lines orders line r asks.2 e o)

module _ {D P : Type 0} (posts : D → Request → P → D → Type 0) where
  posted-on : (d e f : D) (orders : List Request) (posted : List P) (r : Request) (p : P) → AllPosted posts d orders posted e → posts e r p f → AllPosted posts d (orders ++ r ∷ []) (posted ++ p ∷ []) f
  posted-on d e f [] [] r p h put = (f, rw (sym h) put, refl)
  posted-on d e f [] (q ∷ posted) r p h put = absurd h
  posted-on d e f (o ∷ orders) [] r p h put = absurd h
  posted-on d e f (o ∷ orders) (q ∷ posted) r p h put = (h.0, h.1, posted-on h.0 e f orders posted r p h.2 put)

  pub await-on : (d e f : D) (lines : List Line) (posted : List P) (line : Line) (r : Request) (p : P) → AwaitReplies posts d lines posted e → asked_by line ≡ Ok r → is_order r ≡ true → posts e r p f → AwaitReplies posts d (lines ++ line ∷ []) (posted ++ p ∷ []) f
  await-on d e f lines posted line r p h asks o put = (h.0 ++ r ∷ [], ask-on lines h.0 line r h.1 asks o, posted-on d e f h.0 posted r p h.2 put)

  -- nothing was posted yet
  pub await-none : (d : D) → AwaitReplies posts d [] [] d
  await-none d = ([], tt, refl)

  as-many : (d e : D) (lines : List Line) (orders : List Request) (posted : List P) → AskFor lines orders → AllPosted posts d orders posted e → length lines ≡ length posted
  as-many d e [] [] [] asks h = refl
  as-many d e [] [] (p ∷ posted) asks h = absurd h
  as-many d e [] (r ∷ orders) posted asks h = absurd asks
  as-many d e (l ∷ lines) [] posted asks h = absurd asks
  as-many d e (l ∷ lines) (r ∷ orders) [] asks h = absurd h
  as-many d e (l ∷ lines) (r ∷ orders) (p ∷ posted) asks h = let rest = as-many h.0 e lines orders posted asks.2 h.2 in omega (arith, rest)

  are-posted : (d e : D) (lines : List Line) (posted : List P) → AwaitReplies posts d lines posted e → length posted ≤ MAX_BATCH_STEPS → ArePosted lines
  are-posted d e lines posted h few = (omega (arith, as-many d e lines h.0 posted h.1 h.2, few), (h.0, h.1))

module _ {D P : Type 0} (replies : D → P → Result Reply Refusal → D → Type 0) where
  pub replied-on : (d e f : D) (posted : List P) (results : List (Result Reply Refusal)) (p : P) (x : Result Reply Refusal) → AllReplied replies d posted results e → replies e p x f → AllReplied replies d (posted ++ p ∷ []) (results ++ x ∷ []) f
  replied-on d e f [] [] p x h reply = (f, rw (sym h) reply, refl)
  replied-on d e f [] (y ∷ results) p x h reply = absurd h
  replied-on d e f (q ∷ posted) [] p x h reply = absurd h
  replied-on d e f (q ∷ posted) (y ∷ results) p x h reply = (h.0, h.1, replied-on h.0 e f posted results p x h.2 reply)

-- the answers so far, and one more
pub answers-on : (before now later : List Answer) (results : List (Result Reply Refusal)) (x : Result Reply Refusal) (a : Answer) → now ≡ before ++ map order_answer results → a ≡ order_answer x → later ≡ now ++ a ∷ [] → later ≡ before ++ map order_answer (results ++ x ∷ [])
answers-on before now later results x a so_far is more =
    more
    ∙ ap (λ l. l ++ a ∷ []) so_far
    ∙ append_assoc before (map order_answer results) (a ∷ [])
    ∙ ap (λ y. before ++ (map order_answer results ++ y ∷ [])) is
    ∙ ap (λ l. before ++ l) (sym (map-append order_answer results (x ∷ [])))

pub none-left : {A : Type 0} (xs : List A) → length xs ≡ 0 → xs ≡ []
none-left [] h = refl
none-left (x ∷ xs) h = absurd (omega arith)

-- ---- all were replied to

module _ {D P : Type 0} (answers : D → Request → Answer → D → Type 0) (posts : D → Request → P → D → Type 0) (replies : D → P → Result Reply Refusal → D → Type 0)
    (is_answered : (a b c : D) (r : Request) (p : P) (x : Result Reply Refusal) → posts a r p b → replies b p x c → answers a r (order_answer x) c)
    (stays_apart : (a b c : D) (r : Request) (p q : P) (x : Result Reply Refusal) → posts a r q b → replies b p x c → (m : D) × replies a p x m × posts m r q c) where
  -- none was posted
  pub none-answered : (d e : D) (lines : List Line) (posted : List P) → posted ≡ [] → AwaitReplies posts d lines posted e → AllGet answers d lines [] e
  none-answered d e lines posted none h = by lines h.0 h.1 (rw (sym none) h.2)
    where
      by : (lines : List Line) (orders : List Request) → AskFor lines orders → AllPosted posts d orders [] e → AllGet answers d lines [] e
      by [] [] asks same = same
      by [] (r ∷ orders) asks same = absurd asks
      by (l ∷ lines) [] asks same = absurd asks
      by (l ∷ lines) (r ∷ orders) asks put = absurd put

  all-answered : (d e f : D) (lines : List Line) (posted : List P) (results : List (Result Reply Refusal)) → AwaitReplies posts d lines posted e → AllReplied replies e posted results f → AllGet answers d lines (map order_answer results) f
  all-answered d e f lines posted results h replied =
      all-ordered answers d f lines h.0 results h.1 (answers_in_turn answers posts replies is_answered stays_apart d e f h.0 posted results h.2 replied)

  -- all replies to the posted orders were written
  pub whole-written : (d e f : D) (lines : List Line) (posted : List P) (results : List (Result Reply Refusal)) (returned : List Answer) → AwaitReplies posts d lines posted e → AllReplied replies e posted results f → AreWritten (map order_answer results) returned → AllGet answers d lines returned f
  whole-written d e f lines posted results returned h replied w = all-returned answers d f lines (map order_answer results) returned (all-answered d e f lines posted results h replied) w

  -- a prefix of the replies to the posted orders was written
  pub part-written : (d e f : D) (lines : List Line) (posted : List P) (results : List (Result Reply Refusal)) (returned : List Answer) (part : List ℕ) → length posted ≤ MAX_BATCH_STEPS → 0 < length posted → AwaitReplies posts d lines posted e → AllReplied replies e posted results f
      → AreWritten (map order_answer results) returned → IsFirstPart part (reply_lines returned) → (left : List Line) → BreaksOff answers d (lines ++ left) part f
  part-written d e f [] posted results returned part few some h replied w is_part left = absurd (omega (arith, as-many posts d e [] h.0 posted h.1 h.2, some))
  part-written d e f (line ∷ lines) posted results returned part few some h replied w is_part left =
      breaks-among answers d f line lines left returned part (are-posted posts d e (line ∷ lines) posted h few) (whole-written d e f (line ∷ lines) posted results returned h replied w) is_part

-- ---- steps

-- no reply of these makes a desk keep fewer
pub all-kept : {D P : Type 0} (replies : D → P → Result Reply Refusal → D → Type 0) (keeps : D → ℕ → Type 0) (loses_none : (a b : D) (p : P) (x : Result Reply Refusal) (kept : ℕ) → replies a p x b → keeps a kept → keeps b kept)
    → (d e : D) (posted : List P) (results : List (Result Reply Refusal)) (kept : ℕ) → AllReplied replies d posted results e → keeps d kept → keeps e kept
all-kept replies keeps loses_none d e [] [] kept same is = subst (λ x. keeps x kept) (sym same) is
all-kept replies keeps loses_none d e [] (r ∷ results) kept returned is = absurd returned
all-kept replies keeps loses_none d e (p ∷ posted) [] kept returned is = absurd returned
all-kept replies keeps loses_none d e (p ∷ posted) (r ∷ results) kept returned is = all-kept replies keeps loses_none returned.0 e posted results kept returned.2 (loses_none d returned.0 p r kept returned.1 is)
