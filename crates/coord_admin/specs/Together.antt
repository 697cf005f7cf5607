-- Orders that are posted together, before the first of them has its reply, and then replied to in turn.
use Rattle.std.specs.Prelude.{◌≡◌, ◌≤◌, Bool, true, false, List, [], ◌∷◌, length, map, Result, Ok}
use Rattle.coord_types.specs.declared.limits.TheConstants.{MAX_BATCH_STEPS}
use Rattle.coord_types.specs.declared.refusals.Refusal.{Refusal}
use Rattle.coord_types.specs.declared.steps.Reply.{Reply}
use Rattle.coord_lines.specs.Lines.{Line}
use Rattle.coord_admin.specs.declared.request.Request.{Request}
use Rattle.coord_admin.specs.declared.request.Request.TheVariants.{Order}
use Rattle.coord_admin.specs.declared.answer.Answer.{Answer}
use Rattle.coord_admin.specs.Requests.{asked_by}
use Rattle.coord_admin.specs.Replies.{order_answer}

abbrev pub is_order : Request → Bool
is_order (Order client number command) = true
is_order request = false

-- The lines ask for exactly these orders, in this order.
abbrev pub AskFor : List Line → List Request → Type 0
AskFor [] [] = Unit {0}
AskFor (line ∷ lines) (order ∷ orders) = (asked_by line ≡ Ok order) × (is_order order ≡ true) × AskFor lines orders
AskFor lines orders = ⊥

-- The lines are orders that were posted together, at most as many as fit into a flight.
abbrev pub ArePosted : List Line → Type 0
ArePosted lines = (length lines ≤ MAX_BATCH_STEPS) × ((orders : List Request) × AskFor lines orders)

-- A desk got these requests one after another, with these answers.
abbrev pub AllAnswered : {D : Type 0} → (D → Request → Answer → D → Type 0) → D → List Request → List Answer → D → Type 0
AllAnswered answers d [] [] e = e ≡ d
AllAnswered {D} answers d (request ∷ requests) (a ∷ returned) e = (f : D) × answers d request a f × AllAnswered answers f requests returned e
AllAnswered answers d requests returned e = ⊥

-- `posts d r p e`: the desk d may post the order r as p, and then is in the state e
module _ {D P : Type 0} (posts : D → Request → P → D → Type 0) where
  -- These orders were posted one after another.
  abbrev pub AllPosted : D → List Request → List P → D → Type 0
  AllPosted d [] [] e = e ≡ d
  AllPosted d (order ∷ orders) (p ∷ posted) e = (f : D) × posts d order p f × AllPosted f orders posted e
  AllPosted d orders posted e = ⊥

  -- The orders of these lines were posted, and none of them has its reply.
  abbrev pub AwaitReplies : D → List Line → List P → D → Type 0
  AwaitReplies d lines posted e = (orders : List Request) × AskFor lines orders × AllPosted d orders posted e

-- `replies d p r e`: the desk d may reply r to the order posted as p, and then is in the state e
module _ {D P : Type 0} (replies : D → P → Result Reply Refusal → D → Type 0) where
  -- Each posted order was replied to, in turn.
  abbrev pub AllReplied : D → List P → List (Result Reply Refusal) → D → Type 0
  AllReplied d [] [] e = e ≡ d
  AllReplied d (p ∷ posted) (r ∷ results) e = (f : D) × replies d p r f × AllReplied f posted results e
  AllReplied d posted results e = ⊥

-- Orders that are posted together and replied to in turn get the same answers as orders that are
-- carried out one after another.
abbrev pub AnswersInTurn : {D P : Type 0} → (D → Request → Answer → D → Type 0) → (D → Request → P → D → Type 0) → (D → P → Result Reply Refusal → D → Type 0) → Type 0
AnswersInTurn {D} {P} answers posts replies =
    (d e f : D) (orders : List Request) (posted : List P) (results : List (Result Reply Refusal))
    → AllPosted posts d orders posted e → AllReplied replies e posted results f → AllAnswered answers d orders (map order_answer results) f
