-- Replies: those to steps, those that a world keeps, and their kinds.
use Rattle.std.proofs.Common.{◌≡◌, ℕ, zero, suc, List, [], ◌∷◌, ◌++◌, length, take, Some, slice_get, refl, ap, ◌+◌, ◌≤◌, map, sym, ◌∙◌, arith, inl, inr}
use Rattle.coord_node.specs.Steps.{kind}
use Rattle.coord_ledger.specs.Facade.{Step, IsOneOf, IsReplyOf, Reply, Session, kinds_of}
use Rattle.coord_world.specs.Facade.{World, fold, next, state, StepOutcome, outs, reply}
use Rattle.coord_types.specs.Table.{get}
use Rattle.coord_world.proofs.Facade.{kept_reply_law}

-- ---- kinds

-- with one step more
pub kinds_of-push : (xs : List Step) (w : World) (s : Step) → kinds_of w (xs ++ s ∷ []) ≡ kinds_of w xs ++ kind (state (fold w xs)) s ∷ []
kinds_of-push [] w s = refl
kinds_of-push (x ∷ xs) w s = ap (λ l. kind (state w) x ∷ l) (kinds_of-push xs (next w x) s)

-- the kind at the place of a step
pub kinds_of-at : (i : ℕ) (xs : List Step) (w : World) (s : Step) → slice_get xs i ≡ Some s → slice_get (kinds_of w xs) i ≡ Some (kind (state (fold w (take i xs))) s)
kinds_of-at i [] w s there = cc
kinds_of-at zero (x ∷ xs) w s there = let same : x ≡ s = cc in ap (λ y. Some (kind (state w) y)) same
kinds_of-at (suc i) (x ∷ xs) w s there = kinds_of-at i xs (next w x) s there

pub kinds_of-length : (xs : List Step) (w : World) → length (kinds_of w xs) ≡ length xs
kinds_of-length [] w = refl
kinds_of-length (x ∷ xs) w = ap suc (kinds_of-length xs (next w x))

-- ---- to steps, and of a world

abbrev replies : World → List Step → List Reply
replies w steps = map (λ q. q.reply) (outs w steps)

-- the element at a place is one of the items
one_at : {A B : Type 0} (f : A → B) (xs : List A) (i : ℕ) (x : A) → slice_get xs i ≡ Some x → IsOneOf (f x) (map f xs)
one_at f [] i x is = cc
one_at f (y ∷ ys) zero x is = inl (let same : x ≡ y = cc is in ap f same)
one_at f (y ∷ ys) (suc i) x is = inr (one_at f ys i x is)

-- the reply that is kept for a client is that to a step, or was kept before
pub kept_reply : (w : World) (steps : List Step) (client : ℕ) (last : Session) → get (fold w steps).sessions client ≡ Some last → IsReplyOf w steps last.reply
kept_reply w steps client last there = elim (kept_reply_law w steps client) [
  | inl by ↦
      let own = by.1.1 in
      let kept = by.1.0 in
      let same : by.0 ≡ last = cc in
      inl (one_at (λ (q : StepOutcome). q.reply) (outs w steps) (length own.before) (record { reply = last.reply; outputs = own.given }) (own.replied ∙ ap (λ (o : Session). Some (record { reply = o.reply; outputs = own.given })) same))
  | inr none ↦ inr (client, (last, (sym none.0 ∙ there, refl)))
]

-- with more steps after
among_more : (w : World) (steps more : List Step) (r : Reply) → IsOneOf r (replies w steps) → IsOneOf r (replies w (steps ++ more))
among_more w [] more r one = absurd one
among_more w (s ∷ steps) more r (inl same) = inl same
among_more w (s ∷ steps) more r (inr one) = inr (among_more (next w s) steps more r one)

pub reply_later : (w : World) (steps more : List Step) (r : Reply) → IsReplyOf w steps r → IsReplyOf w (steps ++ more) r
reply_later w steps more r (inl one) = inl (among_more w steps more r one)
reply_later w steps more r (inr kept) = inr kept

-- the last of them
pub reply_last : (w : World) (steps : List Step) (s : Step) → IsReplyOf w (steps ++ s ∷ []) (reply (fold w steps) s)
reply_last w steps s = inl (last w steps)
  where
    last : (w : World) (steps : List Step) → IsOneOf (reply (fold w steps) s) (replies w (steps ++ s ∷ []))
    last w [] = inl refl
    last w (q ∷ qs) = inr (last (next w q) qs)

-- replies to steps have later numbers than the world before them
after_count : (w : World) (steps : List Step) (r : Reply) → IsOneOf r (replies w steps) → w.count + 1 ≤ r.step
after_count w [] r one = absurd one
after_count w (s ∷ steps) r (inl same) = omega (arith, ap (λ (q : Reply). q.step) same)
after_count w (s ∷ steps) r (inr one) = omega (arith, after_count (next w s) steps r one)

-- a reply of a low number is one to an early step
among_first : (w : World) (d : ℕ) (steps : List Step) (r : Reply) → r.step ≤ w.count + d → IsOneOf r (replies w steps) → IsOneOf r (replies w (take d steps))
among_first w d [] r le one = absurd one
among_first w zero (s ∷ steps) r le one = absurd (omega (arith, le, after_count w (s ∷ steps) r one))
among_first w (suc d) (s ∷ steps) r le (inl same) = inl same
among_first w (suc d) (s ∷ steps) r le (inr one) = inr (among_first (next w s) d steps r (omega (arith, le)) one)

pub reply_first : (w : World) (d : ℕ) (steps : List Step) (r : Reply) → r.step ≤ w.count + d → IsReplyOf w steps r → IsReplyOf w (take d steps) r
reply_first w d steps r le (inl one) = inl (among_first w d steps r le one)
reply_first w d steps r le (inr kept) = inr kept
