-- Tickets that are granted, what their steps gave out, and when their replies may be collected.
use Rattle.std.proofs.Common.{◌≡◌, ℕ, zero, suc, ◌+◌, ◌<◌, List, [], ◌∷◌, ◌++◌, map, length, take, drop, get_or, Vec, refl, sym, ap, ◌∙◌, append_assoc, append-nil, arith, Global, Option, Some, None, Ok, inl, inr, slice_get, ◌≤◌, ⊎_elim, subst}
use Rattle.std.proofs.lemmas.Bool.Decides.{nat_tests}
use Rattle.std.proofs.Math.Seq.{take-append_seam}
use Rattle.std.proofs.lemmas.List.{take-append-le}
use Rattle.std.proofs.lemmas.Option.{slice_get_within}
use Rattle.coord_store.proofs.Freshness.{take-push}
use Rattle.coord_ledger.specs.Facade.{Output, Step, Claim, Fresh, HoldsTicket, HoldsTickets, IsGranted, Kind, Log, Mark, Repeat, Reply, Session, accepted_count, kinds_of, log_back, reply_of, spent, ticket, verdict, with_step, IsCollectable, IsConsistentLog, IsInTrail, IsKeptBy, world_after}
use Rattle.coord_world.specs.Facade.{World, fold, next, outputs, outs, StepOutcome, reply}
use Rattle.coord_ledger.specs.code.Holding.{listed, outputs_of, released_from}
use Rattle.coord_ledger.specs.machine.After.{release_of, releases_of}
use Rattle.coord_types.specs.declared.steps.Step.TheVariants.{Order}
use Rattle.coord_world.proofs.Facade.{kept_reply_law}
use Rattle.coord_ledger.proofs.machine.ConsistentSteps.{reply_is}
use Rattle.coord_ledger.proofs.machine.Verdicts.{KeepsReply, verdict_repeats}
use Rattle.coord_node.specs.Steps.{kind}
use Rattle.coord_world.specs.protocol.NumberedWorld.{state}
use Rattle.coord_ledger.proofs.machine.Replies.{kinds_of-at}
use Rattle.coord_ledger.proofs.machine.Logs.{count_after}

-- ---- what each step gave out that is not settled

pub outputs_of-push : (xs : List Step) (w : World) (s : Step) → outputs_of w (xs ++ s ∷ []) ≡ outputs_of w xs ++ outputs (fold w xs) s ∷ []
outputs_of-push [] w s = refl
outputs_of-push (x ∷ xs) w s = ap (λ l. outputs w x ∷ l) (outputs_of-push xs (next w x) s)

pub outputs_of-length : (xs : List Step) (w : World) → length (outputs_of w xs) ≡ length xs
outputs_of-length [] w = refl
outputs_of-length (x ∷ xs) w = ap suc (outputs_of-length xs (next w x))

-- of the first steps, and of those after them
pub outputs_of-take : (n : ℕ) (xs : List Step) (w : World) → take n (outputs_of w xs) ≡ outputs_of w (take n xs)
outputs_of-take zero xs w = refl
outputs_of-take (suc n) [] w = refl
outputs_of-take (suc n) (x ∷ xs) w = ap (λ l. outputs w x ∷ l) (outputs_of-take n xs (next w x))

pub outputs_of-drop : (n : ℕ) (xs : List Step) (w : World) → drop n (outputs_of w xs) ≡ outputs_of (fold w (take n xs)) (drop n xs)
outputs_of-drop zero xs w = refl
outputs_of-drop (suc n) [] w = refl
outputs_of-drop (suc n) (x ∷ xs) w = outputs_of-drop n xs (next w x)

-- numbered from the world's next step on, they are what the steps release
pub released_are : (xs : List Step) (w : World) → released_from (w.count + 1) (outputs_of w xs) ≡ releases_of (outs w xs)
released_are [] w = refl
released_are (x ∷ xs) w = ap (λ l. map (release_of (w.count + 1)) (outputs w x) ++ l) (released_are xs (next w x))

pub released_from-push : (given : List (List Output)) (n k : ℕ) (os : List Output) → k ≡ n + length given → released_from n (given ++ os ∷ []) ≡ released_from n given ++ map (release_of k) os
released_from-push [] n k os is = let same : n ≡ k = omega (arith, is) in append-nil (map (release_of n) os) ∙ ap (λ m. map (release_of m) os) same
released_from-push (g ∷ given) n k os is =
    let here = map (release_of n) g in
    ap (λ l. here ++ l) (released_from-push given (n + 1) k os (omega (arith, is))) ∙ sym (append_assoc here (released_from (n + 1) given) (map (release_of k) os))

-- ---- what steps gave out, as vectors

pub listed-push : (vs : List (Vec Output Global)) (v : Vec Output Global) → listed (vs ++ v ∷ []) ≡ listed vs ++ v.items ∷ []
listed-push [] v = refl
listed-push (x ∷ vs) v = ap (λ l. x.items ∷ l) (listed-push vs v)

pub listed-length : (vs : List (Vec Output Global)) → length (listed vs) ≡ length vs
listed-length [] = refl
listed-length (x ∷ vs) = ap suc (listed-length vs)

listed-take : (n : ℕ) (vs : List (Vec Output Global)) → listed (take n vs) ≡ take n (listed vs)
listed-take zero vs = refl
listed-take (suc n) [] = refl
listed-take (suc n) (x ∷ vs) = ap (λ l. x.items ∷ l) (listed-take n vs)

pub listed-drop : (n : ℕ) (vs : List (Vec Output Global)) → listed (drop n vs) ≡ drop n (listed vs)
listed-drop zero vs = refl
listed-drop (suc n) [] = refl
listed-drop (suc n) (x ∷ vs) = listed-drop n vs

-- with the vector at a place
pub listed_more : (vs : List (Vec Output Global)) (i : ℕ) (v : Vec Output Global) → i < length vs → v ≡ get_or vs i v → take (i + 1) (listed vs) ≡ take i (listed vs) ++ v.items ∷ []
listed_more vs i v below is = sym (listed-take (i + 1) vs) ∙ ap listed (take-push vs i v below is) ∙ listed-push (take i vs) v ∙ ap (λ l. l ++ v.items ∷ []) (listed-take i vs)

-- ---- places in lists

slice_get-append : {A : Type 0} (xs ys : List A) (i : ℕ) (x : A) → slice_get xs i ≡ Some x → slice_get (xs ++ ys) i ≡ Some x
slice_get-append [] ys i x is = cc
slice_get-append (y ∷ xs) ys zero x is = is
slice_get-append (y ∷ xs) ys (suc i) x is = slice_get-append xs ys i x is

pub slice_get-middle : {A : Type 0} (xs ys : List A) (x : A) → slice_get (xs ++ x ∷ ys) (length xs) ≡ Some x
slice_get-middle [] ys x = refl
slice_get-middle (y ∷ xs) ys x = slice_get-middle xs ys x

-- the reply at a place is that to the step there
reply_at : (w : World) (steps : List Step) (i : ℕ) (q : StepOutcome) (s : Step) → slice_get (outs w steps) i ≡ Some q → slice_get steps i ≡ Some s → reply (fold w (take i steps)) s ≡ q.reply
reply_at w [] i q s given there = cc
reply_at w (x ∷ xs) zero q s given there =
    let same : x ≡ s = cc in
    let first : reply w x ≡ q.reply = cc in
    ap (reply w) (sym same) ∙ first
reply_at w (x ∷ xs) (suc i) q s given there = reply_at (next w x) xs i q s given there

-- ---- grants

-- a longer trail
pub granted_later : (log : Log) (x : Step) (claim : Claim) → IsGranted log claim → IsGranted (with_step log x) claim
granted_later log x claim (inl at) =
    let within : at.place < length log.trail = slice_get_within log.trail at.place claim.what at.there in
    let same : take at.place (log.trail ++ x ∷ []) ≡ take at.place log.trail = take-append-le at.place log.trail (x ∷ []) (omega (arith, within)) in
    inl (record { place = at.place; there = slice_get-append log.trail (x ∷ []) at.place claim.what at.there; answered = ap (λ l. reply (fold log.base l) claim.what) same ∙ at.answered })
granted_later log x claim (inr kept) = inr kept

-- a flight of b steps is back
pub granted_back : (log : Log) (b : ℕ) (mark : Mark) (claim : Claim) → IsGranted log claim → IsGranted (log_back log b mark) claim
granted_back log b mark claim h1 = grind (arith, nat_tests)

-- the ticket of the step that is accepted
pub granted_new : (log : Log) (x : Step) (k : Kind) → verdict log x ≡ Ok (Fresh k) → IsGranted (with_step log x) (record { step = accepted_count log + 1; what = x; kind = k })
granted_new log x k judged =
    inl (record {
      place = length log.trail;
      there = slice_get-middle log.trail [] x;
      answered = ap (λ l. reply (fold log.base l) x) (take-append_seam log.trail (x ∷ [])) ∙ reply_is log x k judged;
    })

-- that of a repeat
pub granted_repeat : (log : Log) (x : Step) (r : Reply) → verdict log x ≡ Ok (Repeat r) → IsGranted log (record { step = r.step; what = x; kind = r.kind })
granted_repeat log x r judged = by_law (verdict_repeats log x r judged)
  where
    claim : Claim
    claim = record { step = r.step; what = x; kind = r.kind }

    by_law : KeepsReply (fold log.base log.trail) x r → IsGranted log claim
    by_law keeps = elim (kept_reply_law log.base log.trail keeps.client) [
      | inl by ↦
          let own = by.1.1 in
          let kept = by.1.0 in
          let there = keeps.there in
          let same : by.0 ≡ keeps.last = cc in
          let order : x ≡ Order keeps.client by.0.number by.0.command = keeps.order ∙ ap (λ (o : Session). Order keeps.client o.number o.command) (sym same) in
          let at : slice_get log.trail (length own.before) ≡ Some x =
          ap (λ l. slice_get l (length own.before)) own.order ∙ slice_get-middle own.before own.rest (Order keeps.client by.0.number by.0.command) ∙ ap Some (sym order) in
          let answer : by.0.reply ≡ r = ap (λ (o : Session). o.reply) same ∙ keeps.reply in
          inl (record {
            place = length own.before;
            there = at;
            answered = reply_at log.base log.trail (length own.before) (record { reply = by.0.reply; outputs = own.given }) x own.replied at ∙ answer;
          })
      | inr none ↦ inr (record { client = keeps.client; last = keeps.last; there = sym none.0 ∙ keeps.there; order = keeps.order; answered = keeps.reply })
    ]

-- ---- tickets

-- where each grant stays, so do all
pub holds_later : (log new : Log) (cs : List (Option Claim)) (ts : List (Option Reply)) → ((claim : Claim) → IsGranted log claim → IsGranted new claim) → HoldsTickets log cs ts → HoldsTickets new cs ts
holds_later log new [] [] stays holds = tt
holds_later log new [] (t ∷ ts) stays holds = absurd holds
holds_later log new (c ∷ cs) [] stays holds = absurd holds
holds_later log new (c ∷ cs) (t ∷ ts) stays holds = (one c t holds.0, holds_later log new cs ts stays holds.1)
  where
    one : (c : Option Claim) (t : Option Reply) → HoldsTicket log c t → HoldsTicket new c t
    one None None h = tt
    one None (Some r) h = absurd h
    one (Some claim) None h = absurd h
    one (Some claim) (Some r) h = (h.0, stays claim h.1)

-- one more
pub holds_push : (log : Log) (cs : List (Option Claim)) (ts : List (Option Reply)) (claim : Claim) (r : Reply) → reply_of claim ≡ r → IsGranted log claim → HoldsTickets log cs ts → HoldsTickets log (cs ++ Some claim ∷ []) (ts ++ Some r ∷ [])
holds_push log [] [] claim r same granted holds = ((same, granted), tt)
holds_push log [] (t ∷ ts) claim r same granted holds = absurd holds
holds_push log (c ∷ cs) [] claim r same granted holds = absurd holds
holds_push log (c ∷ cs) (t ∷ ts) claim r same granted holds = (holds.0, holds_push log cs ts claim r same granted holds.1)

-- one spent
pub holds_spent : (log : Log) (cs : List (Option Claim)) (ts : List (Option Reply)) (i : ℕ) → HoldsTickets log cs ts → HoldsTickets log (spent cs i) (spent ts i)
holds_spent log [] [] i holds = tt
holds_spent log [] (t ∷ ts) i holds = absurd holds
holds_spent log (c ∷ cs) [] i holds = absurd holds
holds_spent log (c ∷ cs) (t ∷ ts) zero holds = (tt, holds.1)
holds_spent log (c ∷ cs) (t ∷ ts) (suc i) holds = (holds.0, holds_spent log cs ts i holds.1)

-- the ones with one index
pub holds_at : (log : Log) (cs : List (Option Claim)) (ts : List (Option Reply)) (i : ℕ) → HoldsTickets log cs ts → HoldsTicket log (ticket cs i) (ticket ts i)
holds_at log [] [] i holds = tt
holds_at log [] (t ∷ ts) i holds = absurd holds
holds_at log (c ∷ cs) [] i holds = absurd holds
holds_at log (c ∷ cs) (t ∷ ts) zero holds = holds.0
holds_at log (c ∷ cs) (t ∷ ts) (suc i) holds = holds_at log cs ts i holds.1

-- ---- replies

-- each element of a list has a place
within : {A : Type 0} (xs : List A) (i : ℕ) (x : A) → slice_get xs i ≡ Some x → i < length xs
within [] i x there = cc
within (y ∷ ys) zero x there = omega arith
within (y ∷ ys) (suc i) x there = omega (arith, within ys i x there)

-- the claim's step is at this place after the base, settled, and was answered with the claim's kind
pub record StandsAt (log : Log) (claim : Claim) (place : ℕ) : Type 0 where
  pub number : claim.step ≡ log.base.count + place + 1
  pub settled : place < log.settled
  pub there : slice_get log.trail place ≡ Some claim.what
  pub kind_there : slice_get (kinds_of log.base log.trail) place ≡ Some claim.kind

module _ (log : Log) (is : IsConsistentLog log) (claim : Claim) where
  pub stands_collectable : (place : ℕ) → StandsAt log claim place → IsCollectable log claim
  stands_collectable place at = grind (arith, nat_tests, within, kinds_of-at, count_after)

  pub collectable_stands : (place : ℕ) → claim.step ≡ log.base.count + place + 1 → IsCollectable log claim → StandsAt log claim place
  collectable_stands place number ok =
      ⊎_elim
      (λ (t : IsInTrail log claim).
      let below = within log.trail t.place claim.what t.there in
      let step : (world_after log t.place).count + 1 ≡ claim.step = ap (λ (r : Reply). r.step) t.answered in
      let same_place : t.place ≡ place = omega (arith, step, number, count_after log t.place (omega (arith, below))) in
      let same_kind : kind (state (world_after log t.place)) claim.what ≡ claim.kind = ap (λ (r : Reply). r.kind) t.answered in
      let P : ℕ → Type 0 = λ n. StandsAt log claim n in
      subst P same_place
      (record {
        number = number ∙ ap (λ n. log.base.count + n + 1) (sym same_place);
        settled = omega (arith, same_place, number, ok.settled);
        there = t.there;
        kind_there = kinds_of-at t.place log.trail log.base claim.what t.there ∙ ap Some same_kind;
      }))
      (λ (k : IsKeptBy log.base claim).
      let kept = is.trail.sound.in_range.sessions k.client k.last k.there in
      let step : k.last.reply.step ≡ claim.step = ap (λ (r : Reply). r.step) k.answered in
      absurd (omega (arith, kept.replied_by, step, number)))
      ok.granted

  -- a claim on a step that is not newer than the base is one on what the base keeps
  pub old_kept : claim.step ≤ log.base.count → IsCollectable log claim → IsKeptBy log.base claim
  old_kept old ok = grind (arith, nat_tests, within, count_after)

  pub kept_collectable : claim.step ≤ log.base.count → IsKeptBy log.base claim → IsCollectable log claim
  kept_collectable old kept = record { settled = omega (arith, old); granted = inr kept }
