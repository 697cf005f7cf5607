-- The client's orders among the steps of a trail, and what the server says to a line.
use Rattle.std.proofs.Common.{◌≡◌, ℕ, ◌+◌, ◌<◌, ◌≤◌, ◌==◌, ◌&&◌, Bool, true, false, List, [], ◌∷◌, ◌++◌, Option, Some, None, Result, Ok, Err, take, drop, length, refl, sym, ap, subst, ◌∙◌, arith, ◌⊎◌, inl, inr, if◌then◌else◌, slice_get, append_assoc, append-nil}
use Rattle.std.specs.List.{AllByRecursion}
use Rattle.std.proofs.lemmas.Bool.Decides.{nat_tests}
use Rattle.std.proofs.lemmas.List.{take-append-drop, length-take-le}
use Rattle.std.proofs.lemmas.List.Elements.{All-head}
use Rattle.coord_types.specs.Table.{get}
use Rattle.coord_types.specs.Facade.{same_command}
use Rattle.coord_types.specs.declared.outputs.Output.{Output}
use Rattle.coord_types.specs.declared.refusals.Refusal.{Refusal}
use Rattle.coord_types.specs.declared.refusals.Refusal.TheVariants.{Exhausted}
use Rattle.coord_types.specs.declared.steps.Command.{Command}
use Rattle.coord_types.specs.declared.steps.Command.TheVariants.{Add, Remove, Join, Drop, Reset, Confirm}
use Rattle.coord_types.specs.declared.steps.Kind.{Kind}
use Rattle.coord_types.specs.declared.steps.Reply.{Reply}
use Rattle.coord_types.specs.declared.steps.Session.{Session}
use Rattle.coord_types.specs.declared.steps.Step.{Step}
use Rattle.coord_types.specs.declared.steps.Step.TheVariants.{Order, Take, Clear}
use Rattle.coord_types.proofs.Commands.{same_self}
use Rattle.coord_link.specs.LaneMachine.{Tests, refused_or}
use Rattle.coord_node.specs.Facade.{kind}
use Rattle.coord_world.specs.declared.verdicts.Verdict.{Verdict}
use Rattle.coord_world.specs.declared.verdicts.Verdict.TheVariants.{Fresh, Repeat}
use Rattle.coord_world.specs.protocol.Acceptance.{against_number}
use Rattle.coord_world.specs.Facade.{StepOutcome, World, accepts, against_command, fold, is_exhausted, judged, last_number, next, or_repeat, outs, reply, state}
use Rattle.coord_world.specs.laws.KeptReplies.{IsNotBy}
use Rattle.coord_world.proofs.Facade.{fold_counts, kept_reply_law}
use Rattle.coord_orders.specs.declared.meaning.Meaning.TheVariants.{NotDone}
use Rattle.coord_orders.specs.Meanings.{meaning_of_refusal}
use Rattle.coord_orders.specs.Exchange.{is_by, order_of, orders_of}
use Rattle.coord_orders.proofs.Lists.{all_both, of_end}

-- ---- a trail in two parts

pub orders-append : (c : ℕ) (w : World) (xs ys : List Step) → orders_of c w (xs ++ ys) ≡ orders_of c w xs ++ orders_of c (fold w xs) ys
orders-append c w [] ys = refl
orders-append c w (x ∷ xs) ys = ap (λ l. order_of c w x ++ l) (orders-append c (next w x) xs ys) ∙ sym (append_assoc (order_of c w x) (orders_of c (next w x) xs) (orders_of c (fold (next w x) xs) ys))

pub orders_cut : (c : ℕ) (w : World) (k : ℕ) (ss : List Step) → orders_of c w ss ≡ orders_of c w (take k ss) ++ orders_of c (fold w (take k ss)) (drop k ss)
orders_cut c w k ss = ap (orders_of c w) (sym (take-append-drop k ss)) ∙ orders-append c w (take k ss) (drop k ss)

-- ---- one step

pub order_apart : (c : ℕ) (w : World) (s : Step) → is_by c s ≡ false → order_of c w s ≡ []
order_apart c w (Order d n x) h = ap (λ b. if b then record { number = n; command = x; reply = reply w (Order d n x) } ∷ [] else []) h
order_apart c w (Take p) h = refl
order_apart c w (Clear p) h = refl

pub order_own : (c n : ℕ) (x : Command) (w : World) → order_of c w (Order c n x) ≡ record { number = n; command = x; reply = reply w (Order c n x) } ∷ []
order_own c n x w = let own : (c == c) ≡ true = grind (arith, nat_tests) in ap (λ b. if b then record { number = n; command = x; reply = reply w (Order c n x) } ∷ [] else []) own

pub apart : (c : ℕ) (s : Step) → IsNotBy c s → is_by c s ≡ false
apart c (Order d n x) h = grind (arith, nat_tests, h)
apart c (Take p) h = refl
apart c (Clear p) h = refl

-- ---- the kept reply of the client

abbrev pub last_session : Option Session → List Session → Option Session
last_session o [] = o
last_session o (s ∷ ss) = last_session (Some s) ss

pub last-append : (o : Option Session) (xs ys : List Session) → last_session o (xs ++ ys) ≡ last_session (last_session o xs) ys
last-append o [] ys = refl
last-append o (x ∷ xs) ys = last-append (Some x) xs ys

reply_or : Reply → Option StepOutcome → Reply
reply_or r None = r
reply_or r (Some o) = o.reply

-- a step that is the client's last order
is_order : (c : ℕ) (w : World) (s : Step) (o : Session) (before rest : List Step) (given : List Output) → s ∷ [] ≡ before ++ Order c o.number o.command ∷ rest → slice_get (outs w (s ∷ [])) (length before) ≡ Some (record { reply = o.reply; outputs = given }) → order_of c w s ≡ o ∷ []
unfolding reply_or
is_order c w s o [] rest given is replied =
    let same : s ≡ Order c o.number o.command = cc in
    let kept : reply w s ≡ o.reply = ap (reply_or o.reply) replied in
    let r : reply w (Order c o.number o.command) ≡ o.reply = ap (reply w) (sym same) ∙ kept in
    ap (order_of c w) same ∙ order_own c o.number o.command w ∙ ap (λ z. record { number = o.number; command = o.command; reply = z } ∷ []) r
is_order c w s o (b ∷ []) rest given is replied = absurd (cc)
is_order c w s o (b ∷ d ∷ ds) rest given is replied = absurd (cc)

session_next : (c : ℕ) (w : World) (s : Step) → get (next w s).sessions c ≡ last_session (get w.sessions c) (order_of c w s)
session_next c w s = elim (kept_reply_law w (s ∷ []) c) [
  | inl by ↦ by.1.0 ∙ sym (ap (last_session (get w.sessions c)) (is_order c w s by.0 by.1.1.before by.1.1.rest by.1.1.given by.1.1.order by.1.1.replied))
  | inr none ↦ none.0 ∙ sym (ap (last_session (get w.sessions c)) (order_apart c w s (apart c s (All-head (IsNotBy c) s [] none.1))))
]

pub session_kept : (c : ℕ) (ss : List Step) (w : World) → get (fold w ss).sessions c ≡ last_session (get w.sessions c) (orders_of c w ss)
session_kept c [] w = refl
session_kept c (s ∷ ss) w = session_kept c ss (next w s) ∙ ap (λ o. last_session o (orders_of c (next w s) ss)) (session_next c w s) ∙ sym (last-append (get w.sessions c) (order_of c w s) (orders_of c (next w s) ss))

-- ---- the numbers of their steps

later_step : (c : ℕ) (w : World) (s : Step) → AllByRecursion (λ o. w.count < o.reply.step) (order_of c w s)
later_step c w (Order d n x) =
    let o : Session = record { number = n; command = x; reply = reply w (Order d n x) } in
    let more : w.count < o.reply.step = omega arith in
    elim (d == c) as (λ b. AllByRecursion (λ (s : Session). w.count < s.reply.step) (if b then o ∷ [] else [])) [ true ↦ (more, tt) | false ↦ tt ]
later_step c w (Take p) = tt
later_step c w (Clear p) = tt

above : (n : ℕ) (ss : List Session) → AllByRecursion (λ o. n + 1 < o.reply.step) ss → AllByRecursion (λ o. n < o.reply.step) ss
above n [] all = tt
above n (s ∷ ss) all = (let first = all.0 in omega (arith, first), above n ss all.1)

later_steps : (c : ℕ) (ss : List Step) (w : World) → AllByRecursion (λ o. w.count < o.reply.step) (orders_of c w ss)
later_steps c [] w = tt
later_steps c (s ∷ ss) w = all_both (λ o. w.count < o.reply.step) (order_of c w s) (orders_of c (next w s) ss) (later_step c w s) (above w.count (orders_of c (next w s) ss) (later_steps c ss (next w s)))

-- if the last of them is within the first k steps, all are
pub all_within : (c : ℕ) (w : World) (ss : List Step) (k : ℕ) (xs : List Session) (s : Session) → orders_of c w ss ≡ xs ++ (s ∷ []) → s.reply.step ≤ w.count + k → k ≤ length ss → orders_of c w (take k ss) ≡ orders_of c w ss
all_within c w ss k xs s last within short =
    let following : List Session = orders_of c (fold w (take k ss)) (drop k ss) in
    let cut = orders_cut c w k ss in
    let counts : (fold w (take k ss)).count ≡ w.count + k = fold_counts w (take k ss) ∙ ap (λ n. w.count + n) (length-take-le k ss short) in
    elim following as (λ b. orders_of c w ss ≡ orders_of c w (take k ss) ++ b → AllByRecursion (λ o. (fold w (take k ss)).count < o.reply.step) b → orders_of c w (take k ss) ≡ orders_of c w ss) [
      | [] ↦ λ e all. sym (e ∙ append-nil (orders_of c w (take k ss)))
      | b ∷ bs ↦ λ e all.
          let less = of_end (λ o. (fold w (take k ss)).count < o.reply.step) (orders_of c w (take k ss)) b bs xs s (sym e ∙ last) all in
          absurd (omega (arith, less, counts, within))
    ] cut (later_steps c (drop k ss) (fold w (take k ss)))

-- ---- what the server says

-- the last order again
pub repeated : (w : World) (c : ℕ) (s : Session) → get w.sessions c ≡ Some s → accepts w w (Order c s.number s.command) ≡ Ok (Repeat s.reply)
repeated w c s kept =
    let same = same_self s.command in
    let own : (s.number == s.number) ≡ true = grind (arith, nat_tests) in
    let other : Result Verdict Refusal = judged w w (Order c s.number s.command) in
    let again : or_repeat (Some s) s.number s.command other ≡ Ok (Repeat s.reply) =
    ap (λ b. if b && same_command s.command s.command then Ok (Repeat s.reply) else other) own ∙ ap (λ b. if b then Ok (Repeat s.reply) else other) same in
    ap (λ o. or_repeat o s.number s.command (judged w w (Order c s.number s.command))) kept ∙ again

-- each test that holds refuses for good
abbrev IsMild : Bool × Refusal → Type 0
IsMild t = (t.0 ≡ false) ⊎ (meaning_of_refusal t.1 ≡ NotDone)

abbrev pub IsSaid : Verdict → Result Verdict Refusal → Type 0
IsSaid v r = (r ≡ Ok v) ⊎ ((refusal : Refusal) × ((r ≡ Err refusal) × (meaning_of_refusal refusal ≡ NotDone)))

mild : (v : Verdict) (ts : Tests) → AllByRecursion IsMild ts → IsSaid v (refused_or v ts)
mild v [] all = inl refl
mild v (t ∷ ts) all = elim t.0 as (λ b. (b ≡ false) ⊎ (meaning_of_refusal t.1 ≡ NotDone) → IsSaid v (if b then Err t.1 else refused_or v ts)) [
  | true ↦ λ m. elim m [ inl e ↦ absurd (cc) | inr means ↦ inr (t.1, (refl, means)) ]
  | false ↦ λ m. mild v ts all.1
] all.0

mild_command : (w : World) (x : Command) → AllByRecursion IsMild (against_command w x)
mild_command w (Add u g) = (inr refl, tt)
mild_command w (Remove u) = (inr refl, (inr refl, tt))
mild_command w (Join a b) = (inr refl, (inr refl, (inr refl, (inr refl, (inr refl, (inr refl, tt))))))
mild_command w (Drop a b) = (inr refl, (inr refl, (inr refl, tt)))
mild_command w (Reset u) = (inr refl, tt)
mild_command w (Confirm u e) = (inr refl, (inr refl, tt))

no_repeat : (o : Option Session) (n : ℕ) (x : Command) (v : Result Verdict Refusal) → n ≡ last_number o + 1 → or_repeat o n x v ≡ v
no_repeat None n x v e = refl
no_repeat (Some s) n x v e = let other : (s.number == n) ≡ false = grind (arith, nat_tests, e) in ap (λ b. if b && same_command s.command x then Ok (Repeat s.reply) else v) other

-- the next order: it is fresh, or refused for good
pub next_order : (w : World) (c n : ℕ) (x : Command) → n ≡ last_number (get w.sessions c) + 1 → (kind : Kind) × IsSaid (Fresh kind) (accepts w w (Order c n x))
next_order w c n x e =
    let k : Kind = kind (state w) (Order c n x) in
    let last : ℕ = last_number (get w.sessions c) in
    let first : IsMild (is_exhausted w, Exhausted) = inr refl in
    let is_next : AllByRecursion IsMild (against_number last n) = (inl (grind (arith, nat_tests, e)), (inl (grind (arith, nat_tests, e)), tt)) in
    let said = mild (Fresh k) ((is_exhausted w, Exhausted) ∷ against_number last n ++ against_command w x) (first, all_both IsMild (against_number last n) (against_command w x) is_next (mild_command w x)) in
    (k, subst (IsSaid (Fresh k)) (sym (no_repeat (get w.sessions c) n x (judged w w (Order c n x)) e)) said)
