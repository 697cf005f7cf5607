-- The reply that is kept for a client is that of its last order.
use Rattle.std.proofs.Common.{◌≡◌, ◌⊎◌, ℕ, List, [], ◌∷◌, Some, refl, ap, ◌∙◌, inl, inr, arith, All}
use Rattle.std.proofs.lemmas.Bool.Decides.{nat_tests}
use Rattle.std.proofs.lemmas.List.Elements.{All-cons, All-nil}
use Rattle.coord_types.specs.Table.{get}
use Rattle.coord_types.specs.declared.steps.Command.{Command}
use Rattle.coord_types.specs.declared.steps.Session.{Session}
use Rattle.coord_types.specs.declared.steps.Step.{Step}
use Rattle.coord_types.specs.declared.steps.Step.TheVariants.{Clear, Order, Take}
use Rattle.coord_world.specs.Facade.{World, fold, next, outputs, reply}
use Rattle.coord_world.specs.laws.KeptReplies.{IsLastOrder, IsNotBy, KeptReplyLaw}
use Rattle.coord_tables.proofs.Cases.{same_or_apart}
use Rattle.coord_tables.proofs.Found.{get-set}
use Rattle.coord_world.proofs.ranges.InRange.{sessions_noted}

-- the kept reply of client c after these steps
abbrev Keeps : World → List Step → ℕ → Type 0
Keeps base trail c =
    ((o : Session) × ((get (fold base trail).sessions c ≡ Some o) × IsLastOrder base trail c o))
    ⊎ ((get (fold base trail).sessions c ≡ get base.sessions c) × All (IsNotBy c) trail)

-- a later order is the last one still
later : (base : World) (s : Step) (ss : List Step) (c : ℕ) (o : Session) → IsLastOrder (next base s) ss c o → IsLastOrder base (s ∷ ss) c o
later base s ss c o last = record { before = s ∷ last.before; rest = last.rest; order = ap (λ l. s ∷ l) last.order; last = last.last; given = last.given; replied = last.replied; step = let old = last.step in omega (arith, old) }

-- a step that isn't the client's leaves its kept reply
leaves : (base : World) (s : Step) (ss : List Step) (c : ℕ) → IsNotBy c s → get (next base s).sessions c ≡ get base.sessions c → Keeps (next base s) ss c → Keeps base (s ∷ ss) c
leaves base s ss c apart same keeps = elim keeps [
  | inl by ↦ inl (by.0, (by.1.0, later base s ss c by.0 by.1.1))
  | inr none ↦ inr (none.0 ∙ same, All-cons (IsNotBy c) s ss apart none.1)
]

-- an order of the client is the last one, if there is no later one
replaces : (base : World) (d n : ℕ) (x : Command) (ss : List Step) (c : ℕ) → d ≡ c → get (next base (Order d n x)).sessions c ≡ Some (record { number = n; command = x; reply = reply base (Order d n x) }) →
    Keeps (next base (Order d n x)) ss c → Keeps base (Order d n x ∷ ss) c
replaces base d n x ss c own kept keeps = elim keeps [
  | inl by ↦ inl (by.0, (by.1.0, later base (Order d n x) ss c by.0 by.1.1))
  | inr none ↦ inl (
    record { number = n; command = x; reply = reply base (Order d n x) },
    (
      none.0 ∙ kept,
      record { before = []; rest = ss; order = ap (λ z. Order z n x ∷ ss) own; last = none.1; given = outputs base (Order d n x); replied = refl; step = omega arith },
    ),
  )
]

-- step by step
pub kept_reply_law : KeptReplyLaw
kept_reply_law base [] c = inr (refl, All-nil (IsNotBy c))
kept_reply_law base (Order d n x ∷ ss) c =
    let o : Session = record { number = n; command = x; reply = reply base (Order d n x) } in
    let after = ap (λ m. get m c) (sessions_noted base d n x) ∙ get-set base.sessions d o c in
    elim (same_or_apart d c) [
      | inl own ↦ replaces base d n x ss c own (after ∙ grind (arith, nat_tests, own)) (kept_reply_law (next base (Order d n x)) ss c)
      | inr apart ↦ leaves base (Order d n x) ss c apart (after ∙ grind (arith, nat_tests, apart)) (kept_reply_law (next base (Order d n x)) ss c)
    ]
kept_reply_law base (Take p ∷ ss) c = leaves base (Take p) ss c tt refl (kept_reply_law (next base (Take p)) ss c)
kept_reply_law base (Clear p ∷ ss) c = leaves base (Clear p) ss c tt refl (kept_reply_law (next base (Clear p)) ss c)
