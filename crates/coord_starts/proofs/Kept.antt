-- The reply that is kept for a client is that of its last order, over turns.
use Rattle.std.proofs.Common.{◌≡◌, ◌⊎◌, ℕ, List, [], ◌∷◌, ◌++◌, length, map, Some, slice_get, inl, inr, refl, sym, ap, subst, ◌∙◌}
use Rattle.std.proofs.lemmas.List.Elements.{All-head}
use Rattle.std.specs.List.{AllByRecursion}
use Rattle.coord_types.specs.Table.{get}
use Rattle.coord_types.specs.declared.outputs.Output.{Output}
use Rattle.coord_types.specs.declared.steps.Command.{Command}
use Rattle.coord_types.specs.declared.steps.Reply.{Reply}
use Rattle.coord_types.specs.declared.steps.Session.{Session}
use Rattle.coord_types.specs.declared.steps.Step.{Step}
use Rattle.coord_types.specs.declared.steps.Step.TheVariants.{Order}
use Rattle.coord_world.specs.Facade.{StepOutcome, World, next, outs, reply}
use Rattle.coord_world.specs.laws.KeptReplies.{IsNotBy}
use Rattle.coord_world.specs.laws.Raised.{raised}
use Rattle.coord_world.proofs.Facade.{kept_reply_law}
use Rattle.coord_ledger.specs.machine.Answers.{IsOneOf}
use Rattle.coord_following.specs.Histories.{Raises, Takes, Turn, turned}
use Rattle.coord_starts.specs.Returned.{IsLastKeptOrder, KeepsLast, led, outcomes}
use Rattle.coord_starts.proofs.Turns.{one_after, outcome_of, outcomes-append}

-- ---- one step

nothing : (before rest : List Step) (s : Step) → [] ≡ before ++ s ∷ rest → ⊥
nothing [] rest s is = cc
nothing (b ∷ before) rest s is = cc

-- the only step of a list
only : (before rest : List Step) (s q : Step) → s ∷ [] ≡ before ++ q ∷ rest → (before ≡ []) × (s ≡ q)
only [] rest s q is = (refl, cc is)
only (b ∷ before) rest s q is = absurd (nothing before rest q (cc is))

-- what one step leaves for client c
abbrev LeavesOne : World → Step → ℕ → Type 0
LeavesOne w s c =
    ((o : Session) × (get (next w s).sessions c ≡ Some o) × (s ≡ Order c o.number o.command) × (o.reply ≡ reply w s))
    ⊎ ((get (next w s).sessions c ≡ get w.sessions c) × IsNotBy c s)

replied : (w : World) (s : Step) (before : List Step) (r : Reply) (given : List Output) → before ≡ [] → slice_get (outs w (s ∷ [])) (length before) ≡ Some (record { reply = r; outputs = given }) → r ≡ reply w s
replied w s before r given none there =
    let first : Some (outcome_of w s) ≡ Some (record { reply = r; outputs = given }) = subst (λ l. slice_get (outs w (s ∷ [])) (length l) ≡ Some (record { reply = r; outputs = given })) none there in
    let same : outcome_of w s ≡ record { reply = r; outputs = given } = cc first in
    sym (ap (λ (o : StepOutcome). o.reply) same)

leaves_one : (w : World) (s : Step) (c : ℕ) → LeavesOne w s c
leaves_one w s c = elim (kept_reply_law w (s ∷ []) c) [
  | inl by ↦
      let last = by.1.1 in
      let is = only last.before last.rest s (Order c by.0.number by.0.command) last.order in
      inl (by.0, by.1.0, is.1, replied w s last.before by.0.reply last.given is.0 last.replied)
  | inr none ↦ inr (none.0, All-head (IsNotBy c) s [] none.1)
]

-- ---- all turns

later : (w : World) (t : Turn) (turns : List Turn) (c : ℕ) (o : Session) → IsLastKeptOrder (turned w t) turns c o → IsLastKeptOrder w (t ∷ turns) c o
later w t turns c o last = record { before = t ∷ last.before; rest = last.rest; order = ap (λ l. t ∷ l) last.order; last = last.last; replied = last.replied }

pub keeps_last : (turns : List Turn) (w : World) (c : ℕ) → KeepsLast w turns c
keeps_last [] w c = inr (refl, tt)
keeps_last (Takes s ∷ turns) w c = elim (keeps_last turns (next w s) c) [
  | inl by ↦ inl (by.0, (by.1.0, later w (Takes s) turns c by.0 by.1.1))
  | inr none ↦ elim (leaves_one w s c) [
    | inl own ↦ inl (own.0, (none.0 ∙ own.1, record { before = []; rest = turns; order = ap (λ q. Takes q ∷ turns) own.2; last = none.1; replied = own.3 ∙ ap (reply w) own.2 }))
    | inr apart ↦ inr (none.0 ∙ apart.0, (apart.1, none.1))
  ]
]
keeps_last (Raises ∷ turns) w c = elim (keeps_last turns (raised w) c) [
  | inl by ↦ inl (by.0, (by.1.0, later w Raises turns c by.0 by.1.1))
  | inr none ↦ inr none
]

-- ---- the reply that is kept is one that was given

abbrev pub replies : World → List Turn → List Reply
replies w turns = map (λ (o : StepOutcome). o.reply) (outcomes w turns)

-- a reply to one of these steps, or one that the world before them keeps
abbrev pub IsReplyIn : World → List Turn → Reply → Type 0
IsReplyIn w turns r = IsOneOf r (replies w turns) ⊎ ((client : ℕ) × ((last : Session) × ((get w.sessions client ≡ Some last) × (last.reply ≡ r))))

last_is_given : (w : World) (turns : List Turn) (c : ℕ) (o : Session) → IsLastKeptOrder w turns c o → IsOneOf o.reply (replies w turns)
last_is_given w turns c o last =
    let q = Order c o.number o.command in
    let given = outcomes-append last.before (Takes q ∷ last.rest) w in
    subst (λ ts. IsOneOf o.reply (replies w ts)) (sym last.order)
    (subst (λ os. IsOneOf o.reply (map (λ (p : StepOutcome). p.reply) os)) (sym given)
    (one_after (λ (p : StepOutcome). p.reply) o.reply (outcomes w last.before) (outcomes (led w last.before) (Takes q ∷ last.rest)) (inl last.replied)))

-- what the world after some turns keeps was given by one of them, or kept before
pub kept_is_given : (turns : List Turn) (w : World) (client : ℕ) (last : Session) → get (led w turns).sessions client ≡ Some last → IsReplyIn w turns last.reply
kept_is_given turns w client last there = elim (keeps_last turns w client) [
  | inl by ↦
      let kept = by.1.0 in
      let same : by.0 ≡ last = cc in
      inl (subst (λ (o : Session). IsOneOf o.reply (replies w turns)) same (last_is_given w turns client by.0 by.1.1))
  | inr none ↦ inr (client, (last, (sym none.0 ∙ there, refl)))
]
