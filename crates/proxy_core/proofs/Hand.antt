-- The places of a connection's lines in hand, after each change.
use Rattle.std.proofs.Common.{◌≡◌, ℕ, zero, suc, ◌+◌, ◌-◌, ◌≤◌, ◌==◌, not, nat_lt, Bool, true, false, List, [], ◌∷◌, ◌++◌, length, map, filter, count_by, take, drop, refl, sym, ap, subst, ◌∙◌, arith, append_assoc, append-nil, cond}
use Rattle.std.proofs.lemmas.Bool.Decides.{nat_tests}
use Rattle.std.proofs.lemmas.List.{drop-append-le, take-append-drop, take-append-le, take-map}
use Rattle.std.proofs.lemmas.List.Sums.{sum_by-cons}
use Rattle.proxy_core.specs.Rules.{Rules}
use Rattle.proxy_core.specs.Pending.{is_from}
use Rattle.proxy_core.specs.Machine.{is_in_turn, left, picked, put_back}
use Rattle.proxy_core.specs.Run.{Request, without}
use Rattle.proxy_core.specs.Promises.{hand, pending_of, place_if, places_of}
use Rattle.proxy_core.proofs.Lists.{count_map, from_other, from_picked, none_from, of-append, of_push}

-- ---- the first lines, and those after them, without some

take_none : {X : Type 0} (n : ℕ) → take {A = X} n [] ≡ []
take_none zero = refl
take_none (suc n) = refl

drop_none : {X : Type 0} (n : ℕ) → drop {A = X} n [] ≡ []
drop_none zero = refl
drop_none (suc n) = refl

module _ {X : Type 0} (p : X → Bool) where
  count_cons : (x : X) (xs : List X) → count_by p (x ∷ xs) ≡ cond {A = ℕ} (p x) 1 0 + count_by p xs
  count_cons x xs = sum_by-cons (λ y. cond {A = ℕ} (p y) 1 0) x xs

  pub count_front : (k : ℕ) (xs : List X) → count_by p (take k xs) ≤ k
  count_front zero xs = omega arith
  count_front (suc k) [] = omega arith
  count_front (suc k) (x ∷ xs) =
      let rest = count_front k xs in
      let whole = count_cons x (take k xs) in
      elim (p x) as (λ b. count_by p (x ∷ take k xs) ≡ cond {A = ℕ} b 1 0 + count_by p (take k xs) → count_by p (x ∷ take k xs) ≤ suc k) [
        | true ↦ λ e. omega (arith, rest, e)
        | false ↦ λ e. omega (arith, rest, e)
      ] whole

  -- so many of the first lines stay
  abbrev pub stay : ℕ → List X → ℕ
  stay k xs = k - count_by p (take k xs)

  stay_less : (k : ℕ) (x : X) (xs : List X) → p x ≡ true → stay (suc k) (x ∷ xs) ≡ stay k xs
  stay_less k x xs so = (let whole = count_cons x (take k xs) in let one : cond {A = ℕ} (p x) 1 0 ≡ 1 = ap (λ b. cond {A = ℕ} b 1 0) so in omega (arith, whole, one))

  stay_more : (k : ℕ) (x : X) (xs : List X) → p x ≡ false → stay (suc k) (x ∷ xs) ≡ suc (stay k xs)
  stay_more k x xs other = (let whole = count_cons x (take k xs) in let none : cond {A = ℕ} (p x) 1 0 ≡ 0 = ap (λ b. cond {A = ℕ} b 1 0) other in let few = count_front k xs in omega (arith, whole, none, few))

  pub kept_front : (k : ℕ) (xs : List X) → take (stay k xs) (filter (λ x. not (p x)) xs) ≡ filter (λ x. not (p x)) (take k xs)
  kept_front zero xs = refl
  kept_front (suc k) [] = take_none (stay (suc k) [])
  kept_front (suc k) (x ∷ xs) =
      elim (p x) as (λ b. p x ≡ b → take (stay (suc k) (x ∷ xs)) (cond (not b) (x ∷ filter (λ x. not (p x)) xs) (filter (λ x. not (p x)) xs)) ≡ cond (not b) (x ∷ filter (λ x. not (p x)) (take k xs)) (filter (λ x. not (p x)) (take k xs))) [
        | true ↦ λ so. ap (λ n. take n (filter (λ x. not (p x)) xs)) (stay_less k x xs so) ∙ kept_front k xs
        | false ↦ λ no. ap (λ n. take n (x ∷ filter (λ x. not (p x)) xs)) (stay_more k x xs no) ∙ ap (λ l. x ∷ l) (kept_front k xs)
      ] refl

  pub kept_back : (k : ℕ) (xs : List X) → drop (stay k xs) (filter (λ x. not (p x)) xs) ≡ filter (λ x. not (p x)) (drop k xs)
  kept_back zero xs = refl
  kept_back (suc k) [] = drop_none (stay (suc k) [])
  kept_back (suc k) (x ∷ xs) =
      elim (p x) as (λ b. p x ≡ b → drop (stay (suc k) (x ∷ xs)) (cond (not b) (x ∷ filter (λ x. not (p x)) xs) (filter (λ x. not (p x)) xs)) ≡ filter (λ x. not (p x)) (drop k xs)) [
        | true ↦ λ so. ap (λ n. drop n (filter (λ x. not (p x)) xs)) (stay_less k x xs so) ∙ kept_back k xs
        | false ↦ λ no. ap (λ n. drop n (x ∷ filter (λ x. not (p x)) xs)) (stay_more k x xs no) ∙ kept_back k xs
      ] refl

  -- and they are no more than all that stay
  pub kept_within : (k : ℕ) (xs : List X) → k ≤ length xs → stay k xs ≤ length (filter (λ x. not (p x)) xs)
  kept_within zero xs within = omega arith
  kept_within (suc k) [] within = absurd (omega (arith, within))
  kept_within (suc k) (x ∷ xs) within =
      let rest = kept_within k xs (omega (arith, within)) in
      elim (p x) as (λ b. p x ≡ b → stay (suc k) (x ∷ xs) ≤ length (cond (not b) (x ∷ filter (λ x. not (p x)) xs) (filter (λ x. not (p x)) xs))) [
        | true ↦ λ so. (let less = stay_less k x xs so in omega (arith, rest, less))
        | false ↦ λ no. (let more = stay_more k x xs no in omega (arith, rest, more))
      ] refl

-- ---- a connection's lines are dropped

-- so many lines wait again then
abbrev pub refused_without : Rules → ℕ → ℕ → List Request → ℕ
refused_without r c k queued = k - count_by (is_from c) (take k (map (pending_of r) queued))

count_same : (r : Rules) (c k : ℕ) (xs : List Request) → count_by (is_from c) (take k (map (pending_of r) xs)) ≡ count_by (λ (a : Request). a.from == c) (take k xs)
count_same r c k xs = ap (λ l. count_by (is_from c) l) (take-map (pending_of r) k xs) ∙ count_map (is_from c) (pending_of r) (take k xs)

refused_stay : (r : Rules) (c k : ℕ) (xs : List Request) → refused_without r c k xs ≡ stay (λ (a : Request). a.from == c) k xs
refused_stay r c k xs = ap (λ n. k - n) (count_same r c k xs)

pub within_without : (r : Rules) (c k : ℕ) (xs : List Request) → k ≤ length xs → refused_without r c k xs ≤ length (without c xs)
within_without r c k xs within = subst (λ n. n ≤ length (without c xs)) (sym (refused_stay r c k xs)) (kept_within (λ (a : Request). a.from == c) k xs within)

hand_split : (r : Rules) (c d k : ℕ) (flight queued : List Request) → hand d (refused_without r c k queued) flight (without c queued) ≡ places_of d (without c (take k queued)) ++ (places_of d flight ++ places_of d (without c (drop k queued)))
hand_split r c d k flight queued =
    ap (λ n. hand d n flight (without c queued)) (refused_stay r c k queued)
    ∙ ap (λ l. places_of d l ++ (places_of d flight ++ places_of d (drop (stay (λ (a : Request). a.from == c) k queued) (without c queued)))) (kept_front (λ (a : Request). a.from == c) k queued)
    ∙ ap (λ l. places_of d (without c (take k queued)) ++ (places_of d flight ++ places_of d l)) (kept_back (λ (a : Request). a.from == c) k queued)

-- those of another connection stay
pub hand_other : (r : Rules) (c d k : ℕ) (flight queued : List Request) → (c == d) ≡ false → hand d (refused_without r c k queued) flight (without c queued) ≡ hand d k flight queued
hand_other r c d k flight queued apart =
    hand_split r c d k flight queued
    ∙ ap (λ l. l ++ (places_of d flight ++ places_of d (without c (drop k queued)))) (from_other c d apart (take k queued))
    ∙ ap (λ l. places_of d (take k queued) ++ (places_of d flight ++ l)) (from_other c d apart (drop k queued))

none_without : (c d : ℕ) (xs : List Request) → (c == d) ≡ true → places_of d (without c xs) ≡ []
none_without c d [] same = refl
none_without c d (x ∷ xs) same = elim (x.from == c) as (λ b. (x.from == c) ≡ b → places_of d (cond (not b) (x ∷ without c xs) (without c xs)) ≡ []) [
  | true ↦ λ so. none_without c d xs same
  | false ↦ λ no. (let other : (x.from == d) ≡ false = grind (arith, nat_tests) in ap (λ b. place_if b x.place ++ places_of d (without c xs)) other ∙ none_without c d xs same)
] refl

-- of the connection itself only those in flight do
pub hand_own : (r : Rules) (c d k : ℕ) (flight queued : List Request) → (c == d) ≡ true → hand d (refused_without r c k queued) flight (without c queued) ≡ places_of d flight
hand_own r c d k flight queued same =
    hand_split r c d k flight queued
    ∙ ap (λ l. l ++ (places_of d flight ++ places_of d (without c (drop k queued)))) (none_without c d (take k queued) same)
    ∙ ap (λ l. places_of d flight ++ l) (none_without c d (drop k queued) same)
    ∙ append-nil (places_of d flight)

-- ---- a line arrives, or a flight goes

pub hand_push : (d k : ℕ) (flight queued : List Request) (a : Request) → k ≤ length queued → hand d k flight (queued ++ a ∷ []) ≡ hand d k flight queued ++ place_if (a.from == d) a.place
hand_push d k flight queued a within =
    let front : List ℕ = places_of d (take k queued) in
    let back : List ℕ = places_of d (drop k queued) in
    let own : List ℕ = place_if (a.from == d) a.place in
    ap (λ l. places_of d l ++ (places_of d flight ++ places_of d (drop k (queued ++ a ∷ [])))) (take-append-le k queued (a ∷ []) within)
    ∙ ap (λ l. front ++ (places_of d flight ++ places_of d l)) (drop-append-le k queued (a ∷ []) within)
    ∙ ap (λ l. front ++ (places_of d flight ++ l)) (of_push d (drop k queued) a)
    ∙ ap (λ l. front ++ l) (sym (append_assoc (places_of d flight) back own))
    ∙ sym (append_assoc front (places_of d flight ++ back) own)

-- what waits, whether again or not
pub hand_waiting : (d k : ℕ) (queued : List Request) → hand d k [] queued ≡ places_of d queued
hand_waiting d k queued = sym (of-append d (take k queued) (drop k queued)) ∙ ap (places_of d) (take-append-drop k queued)

pub hand_none : (d k : ℕ) (flight queued : List Request) → places_of d flight ≡ [] → places_of d queued ≡ [] → hand d k flight queued ≡ []
hand_none d k flight queued none_flies none_waits = ap (λ l. places_of d (take k queued) ++ (l ++ places_of d (drop k queued))) none_flies ∙ hand_waiting d k queued ∙ none_waits

pub hand_flies : (r : Rules) (d k : ℕ) (picks : List Bool) (queued : List Request) → is_in_turn [] picks (map (pending_of r) queued) ≡ true → hand d 0 (picked picks queued) (left picks queued) ≡ hand d k [] queued
hand_flies r d k picks queued turn = from_picked r d [] picks queued turn ∙ sym (hand_waiting d k queued)

-- ---- the first line of the flight leaves it

-- that of another connection
pub hand_rest : (d k : ℕ) (a : Request) (more queued : List Request) → (a.from == d) ≡ false → hand d k (a ∷ more) queued ≡ hand d k more queued
hand_rest d k a more queued apart = ap (λ b. places_of d (take k queued) ++ ((place_if b a.place ++ places_of d more) ++ places_of d (drop k queued))) apart

-- no line of its connection waits again
pub none_late : (r : Rules) (c k : ℕ) (queued : List Request) → nat_lt 0 (count_by (is_from c) (take k (map (pending_of r) queued))) ≡ false → places_of c (take k queued) ≡ []
none_late r c k queued none = none_from r c (take k queued) (ap (λ l. count_by (is_from c) l) (sym (take-map (pending_of r) k queued)) ∙ zero_of (count_by (is_from c) (take k (map (pending_of r) queued))) none)
  where
    zero_of : (n : ℕ) → nat_lt 0 n ≡ false → n ≡ 0
    zero_of n none = grind (arith, nat_tests)

-- so it is the oldest one
pub hand_first : (d k : ℕ) (a : Request) (more queued : List Request) → places_of a.from (take k queued) ≡ [] → hand d k (a ∷ more) queued ≡ place_if (a.from == d) a.place ++ hand d k more queued
hand_first d k a more queued none =
    elim (a.from == d) as (λ b. (a.from == d) ≡ b → places_of d (take k queued) ++ ((place_if b a.place ++ places_of d more) ++ places_of d (drop k queued)) ≡ place_if b a.place ++ hand d k more queued) [
      | true ↦ λ so. (
          let same : a.from ≡ d = grind (arith, nat_tests) in
          let front : places_of d (take k queued) ≡ [] = subst (λ c. places_of c (take k queued) ≡ []) same none in
          ap (λ l. l ++ (a.place ∷ (places_of d more ++ places_of d (drop k queued)))) front ∙ sym (ap (λ l. a.place ∷ (l ++ (places_of d more ++ places_of d (drop k queued)))) front))
      | false ↦ λ other. refl
    ] refl

-- it waits again
pub hand_again : (d k : ℕ) (a : Request) (more queued : List Request) → k ≤ length queued → hand d (k + 1) more (put_back k (a ∷ []) queued) ≡ hand d k (a ∷ more) queued
hand_again d k a more queued within =
    let front : List ℕ = places_of d (take k queued) in
    let back : List ℕ = places_of d (drop k queued) in
    let own : List ℕ = place_if (a.from == d) a.place in
    ap (λ n. hand d n more (put_back k (a ∷ []) queued)) (one k)
    ∙ ap (λ l. places_of d l ++ (places_of d more ++ places_of d (drop (suc k) (put_back k (a ∷ []) queued)))) (put_front k a queued within)
    ∙ ap (λ l. places_of d (take k queued ++ a ∷ []) ++ (places_of d more ++ places_of d l)) (put_rest k a queued within)
    ∙ ap (λ l. l ++ (places_of d more ++ back)) (of_push d (take k queued) a)
    ∙ append_assoc front own (places_of d more ++ back)
    ∙ ap (λ l. front ++ l) (sym (append_assoc own (places_of d more) back))
  where
    one : (k : ℕ) → k + 1 ≡ suc k
    one k = omega arith

    put_front : (k : ℕ) (a : Request) (xs : List Request) → k ≤ length xs → take (suc k) (put_back k (a ∷ []) xs) ≡ take k xs ++ a ∷ []
    put_front zero a xs within = refl
    put_front (suc k) a [] within = absurd (omega (arith, within))
    put_front (suc k) a (x ∷ xs) within = ap (λ l. x ∷ l) (put_front k a xs (omega (arith, within)))

    put_rest : (k : ℕ) (a : Request) (xs : List Request) → k ≤ length xs → drop (suc k) (put_back k (a ∷ []) xs) ≡ drop k xs
    put_rest zero a xs within = refl
    put_rest (suc k) a [] within = absurd (omega (arith, within))
    put_rest (suc k) a (x ∷ xs) within = put_rest k a xs (omega (arith, within))
