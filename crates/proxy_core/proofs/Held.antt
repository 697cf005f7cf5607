-- The numbers of lines in the map, after each change.
use Rattle.std.proofs.Common.{◌≡◌, ℕ, ◌+◌, ◌-◌, ◌≤◌, ◌<◌, ◌==◌, not, Bool, true, false, List, [], ◌∷◌, ◌++◌, length, filter, count_by, get_or, take, refl, sym, ap, subst, ◌∙◌, arith, cond}
use Rattle.std.specs.BTreeMap.{BTreeMap}
use Rattle.std.proofs.lemmas.Bool.Decides.{nat_tests}
use Rattle.std.proofs.lemmas.List.{take_more}
use Rattle.std.proofs.lemmas.List.Sums.{sum_by-cons}
use Rattle.proxy_core.specs.Pending.{Pending, is_from}
use Rattle.proxy_core.specs.Machine.{is_none, left, picked, put_back}
use Rattle.proxy_core.specs.Held.{AreHeld, held_at}
use Rattle.proxy_core.proofs.Hand.{kept_within}
use Rattle.proxy_core.proofs.Lists.{count_picked, count_push, count_put}

count_cons : (c : ℕ) (a : Pending) (xs : List Pending) → count_by (is_from c) (a ∷ xs) ≡ cond {A = ℕ} (a.from == c) 1 0 + count_by (is_from c) xs
count_cons c a xs = sum_by-cons (λ y. cond {A = ℕ} (is_from c y) 1 0) a xs

-- a line more waits
pub held_more : (m m' : BTreeMap ℕ ℕ) (flight waiting later : List Pending) (a : Pending) (k n : ℕ) → AreHeld m flight waiting → k ≡ a.from → n ≡ held_at m k → later ≡ waiting ++ a ∷ []
    → ((c : ℕ) → held_at m' c ≡ cond (k == c) (n + 1) (held_at m c)) → AreHeld m' flight later
held_more m m' flight waiting later a k n all from is more updates c =
    let before = all c in
    let pushed = count_push (is_from c) waiting a in
    let now = updates c in
    let at : (k == c) ≡ (a.from == c) = ap (λ x. x == c) from in
    subst (λ l. held_at m' c ≡ count_by (is_from c) flight + count_by (is_from c) l) (sym more)
    (elim (k == c) as (λ b. (k == c) ≡ b → held_at m' c ≡ cond b (n + 1) (held_at m c) → held_at m' c ≡ count_by (is_from c) flight + count_by (is_from c) (waiting ++ a ∷ [])) [
      | true ↦ λ so now. (
          let same : k ≡ c = grind (arith, nat_tests) in
          let here : n ≡ held_at m c = is ∙ ap (held_at m) same in
          let one : cond {A = ℕ} (is_from c a) 1 0 ≡ 1 = ap (λ b. cond {A = ℕ} b 1 0) (sym at ∙ so) in
          omega (arith, before, pushed, now, here, one))
      | false ↦ λ no now. (let none : cond {A = ℕ} (is_from c a) 1 0 ≡ 0 = ap (λ b. cond {A = ℕ} b 1 0) (sym at ∙ no) in omega (arith, before, pushed, now, none))
    ] refl now)

-- the first line of the flight leaves it
pub held_less : (m m' : BTreeMap ℕ ℕ) (all flight waiting : List Pending) (a : Pending) (k : ℕ) → AreHeld m all waiting → all ≡ a ∷ flight → k ≡ a.from
    → ((c : ℕ) → held_at m' c ≡ cond (k == c) (held_at m c - 1) (held_at m c)) → AreHeld m' flight waiting
held_less m m' all flight waiting a k held first from updates c =
    let before : held_at m c ≡ count_by (is_from c) (a ∷ flight) + count_by (is_from c) waiting = subst (λ l. held_at m c ≡ count_by (is_from c) l + count_by (is_from c) waiting) first (held c) in
    let whole = count_cons c a flight in
    let now = updates c in
    let at : (k == c) ≡ (a.from == c) = ap (λ x. x == c) from in
    elim (k == c) as (λ b. (k == c) ≡ b → held_at m' c ≡ cond b (held_at m c - 1) (held_at m c) → held_at m' c ≡ count_by (is_from c) flight + count_by (is_from c) waiting) [
      | true ↦ λ so now. (let one : cond {A = ℕ} (a.from == c) 1 0 ≡ 1 = ap (λ b. cond {A = ℕ} b 1 0) (sym at ∙ so) in omega (arith, before, whole, now, one))
      | false ↦ λ no now. (let none : cond {A = ℕ} (a.from == c) 1 0 ≡ 0 = ap (λ b. cond {A = ℕ} b 1 0) (sym at ∙ no) in omega (arith, before, whole, now, none))
    ] refl now

-- one line more of so many
pub count_more : (c : ℕ) (xs : List Pending) (i : ℕ) (a : Pending) → i < length xs → a ≡ get_or xs i a → count_by (is_from c) (take (i + 1) xs) ≡ count_by (is_from c) (take i xs) + cond (a.from == c) 1 0
count_more c xs i a less at = ap (λ l. count_by (is_from c) l) (take_more xs i a less ∙ ap (λ x. take i xs ++ x ∷ []) (sym at)) ∙ count_push (is_from c) (take i xs) a

-- it waits again
pub held_retry : (m : BTreeMap ℕ ℕ) (all flight waiting later : List Pending) (k : ℕ) (a : Pending) → AreHeld m all waiting → all ≡ a ∷ flight → later ≡ put_back k (a ∷ []) waiting → AreHeld m flight later
held_retry m all flight waiting later k a held first next c =
    let before : held_at m c ≡ count_by (is_from c) (a ∷ flight) + count_by (is_from c) waiting = subst (λ l. held_at m c ≡ count_by (is_from c) l + count_by (is_from c) waiting) first (held c) in
    let one = count_cons c a flight in
    let two = count_put (is_from c) k a waiting in
    subst (λ l. held_at m c ≡ count_by (is_from c) flight + count_by (is_from c) l) (sym next) (omega (arith, before, one, two))

-- a flight is made
pub held_flown : (m : BTreeMap ℕ ℕ) (none flight waiting later : List Pending) (picks : List Bool) → AreHeld m none waiting → none ≡ [] → flight ≡ picked picks waiting → later ≡ left picks waiting → AreHeld m flight later
held_flown m none flight waiting later picks held empty out kept c =
    let before : held_at m c ≡ 0 + count_by (is_from c) waiting = subst (λ l. held_at m c ≡ count_by (is_from c) l + count_by (is_from c) waiting) empty (held c) in
    let split = count_picked (is_from c) picks waiting in
    subst (λ l. held_at m c ≡ count_by (is_from c) l + count_by (is_from c) later) (sym out) (subst (λ l. held_at m c ≡ count_by (is_from c) (picked picks waiting) + count_by (is_from c) l) (sym kept) (omega (arith, before, split)))

-- the lines of a connection that wait are dropped
dropped : (k : ℕ) (xs : List Pending) → length (filter (λ a. not (is_from k a)) xs) + count_by (is_from k) xs ≡ length xs
dropped k [] = refl
dropped k (x ∷ xs) =
    let rest = dropped k xs in
    let whole = count_cons k x xs in
    elim (x.from == k) as (λ b. (x.from == k) ≡ b → length (cond (not b) (x ∷ filter (λ a. not (is_from k a)) xs) (filter (λ a. not (is_from k a)) xs)) + count_by (is_from k) (x ∷ xs) ≡ length (x ∷ xs)) [
      | true ↦ λ so. (let one : cond {A = ℕ} (x.from == k) 1 0 ≡ 1 = ap (λ b. cond {A = ℕ} b 1 0) so in omega (arith, rest, whole, one))
      | false ↦ λ no. (let none : cond {A = ℕ} (x.from == k) 1 0 ≡ 0 = ap (λ b. cond {A = ℕ} b 1 0) no in omega (arith, rest, whole, none))
    ] refl

filtered : (k c : ℕ) (xs : List Pending) → count_by (is_from c) (filter (λ a. not (is_from k a)) xs) ≡ cond {A = ℕ} (k == c) 0 (count_by (is_from c) xs)
filtered k c [] = least (k == c)
  where
    least : (b : Bool) → 0 ≡ cond {A = ℕ} b 0 0
    least true = refl
    least false = refl
filtered k c (x ∷ xs) =
    let rest = filtered k c xs in
    let whole = count_cons c x xs in
    elim (x.from == k) as (λ b. (x.from == k) ≡ b → count_by (is_from c) (cond (not b) (x ∷ filter (λ a. not (is_from k a)) xs) (filter (λ a. not (is_from k a)) xs)) ≡ cond {A = ℕ} (k == c) 0 (count_by (is_from c) (x ∷ xs))) [
      | true ↦ λ so. (
          let from : x.from ≡ k = grind (arith, nat_tests) in
          let at : (x.from == c) ≡ (k == c) = ap (λ y. y == c) from in
          let first : cond {A = ℕ} (x.from == c) 1 0 ≡ cond {A = ℕ} (k == c) 1 0 = ap (λ b. cond {A = ℕ} b 1 0) at in
          gone (k == c) (count_by (is_from c) (filter (λ a. not (is_from k a)) xs)) (count_by (is_from c) xs) (count_by (is_from c) (x ∷ xs)) (cond {A = ℕ} (x.from == c) 1 0) rest whole first)
      | false ↦ λ no. (
          let kept = count_cons c x (filter (λ a. not (is_from k a)) xs) in
          stays (k == c) (x.from == c) refl refl no (count_by (is_from c) (filter (λ a. not (is_from k a)) xs)) (count_by (is_from c) xs) (count_by (is_from c) (x ∷ xs)) (count_by (is_from c) (x ∷ filter (λ a. not (is_from k a)) xs)) rest whole kept)
    ] refl
  where
    gone : (b : Bool) (few some all one : ℕ) → few ≡ cond {A = ℕ} b 0 some → all ≡ one + some → one ≡ cond {A = ℕ} b 1 0 → few ≡ cond {A = ℕ} b 0 all
    gone true few some all one rest whole first = rest
    gone false few some all one rest whole first = omega (arith, rest, whole, first)

    stays : (b d : Bool) → (k == c) ≡ b → (x.from == c) ≡ d → (x.from == k) ≡ false → (few some all kept : ℕ) → few ≡ cond {A = ℕ} b 0 some → all ≡ cond {A = ℕ} d 1 0 + some → kept ≡ cond {A = ℕ} d 1 0 + few → kept ≡ cond {A = ℕ} b 0 all
    stays true true is here other few some all kept rest whole more = absurd (apart is here other)
      where
        apart : (k == c) ≡ true → (x.from == c) ≡ true → (x.from == k) ≡ false → ⊥
        apart is here other = grind (arith, nat_tests)
    stays true false is here other few some all kept rest whole more = omega (arith, rest, more)
    stays false true is here other few some all kept rest whole more = omega (arith, rest, whole, more)
    stays false false is here other few some all kept rest whole more = omega (arith, rest, whole, more)

-- so many of the first ones still wait again
pub within_dropped : (c k n kept : ℕ) (waiting later : List Pending) → k ≤ length waiting → n ≡ count_by (is_from c) (take k waiting) → kept ≡ k - n → later ≡ filter (λ a. not (is_from c a)) waiting → kept ≤ length later
within_dropped c k n kept waiting later within count left_over is =
    let few = kept_within (is_from c) k waiting within in
    let long : length later ≡ length (filter (λ a. not (is_from c a)) waiting) = ap length is in
    omega (arith, few, count, left_over, long)

pub held_without : (m m' : BTreeMap ℕ ℕ) (flight waiting later : List Pending) (k n : ℕ) → AreHeld m flight waiting → later ≡ filter (λ a. not (is_from k a)) waiting → n ≡ length waiting - length later
    → ((c : ℕ) → held_at m' c ≡ cond (k == c) (held_at m c - n) (held_at m c)) → AreHeld m' flight later
held_without m m' flight waiting later k n held is count updates c =
    let before = held c in
    let now = updates c in
    let all = dropped k waiting in
    let long : length later ≡ length (filter (λ a. not (is_from k a)) waiting) = ap length is in
    let few : count_by (is_from c) later ≡ cond {A = ℕ} (k == c) 0 (count_by (is_from c) waiting) = ap (λ l. count_by (is_from c) l) is ∙ filtered k c waiting in
    elim (k == c) as (λ b. (k == c) ≡ b → held_at m' c ≡ cond b (held_at m c - n) (held_at m c) → count_by (is_from c) later ≡ cond {A = ℕ} b 0 (count_by (is_from c) waiting) → held_at m' c ≡ count_by (is_from c) flight + count_by (is_from c) later) [
      | true ↦ λ so now few. (
          let same : k ≡ c = grind (arith, nat_tests) in
          let number : count_by (is_from k) waiting ≡ count_by (is_from c) waiting = ap (λ x. count_by (is_from x) waiting) same in
          omega (arith, before, now, all, long, few, count, number))
      | false ↦ λ no now few. omega (arith, before, now, few)
    ] refl now few

pub none_of : (xs : List Pending) → is_none xs ≡ true → xs ≡ []
none_of [] none = refl
none_of (x ∷ xs) none = absurd (cc none)
