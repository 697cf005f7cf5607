-- Sendings by their serial numbers, their places and their numbers.
use Rattle.std.proofs.Common.{◌≡◌, ◌⊎◌, ℕ, ◌+◌, ◌≤◌, ◌<◌, ◌==◌, nat_lt, Bool, true, false, List, [], ◌∷◌, ◌++◌, length, count_by, refl, sym, ap, subst, ◌∙◌, arith, inl, inr, cond, Contains}
use Rattle.std.specs.List.{AllByRecursion}
use Rattle.std.proofs.lemmas.Bool.Decides.{nat_tests}
use Rattle.std.proofs.lemmas.List.Sums.{sum_by-cons}
use Rattle.std.proofs.lemmas.List.Elements.{All-contains, All-from_recursion, Contains-append_cases, Contains-append_left, Contains-append_right, Contains-push, Contains-push_cases}
use Rattle.proxy_core.specs.Rules.{Rules, needs_number, next}
use Rattle.proxy_core.specs.Pending.{step}
use Rattle.proxy_core.specs.Run.{Request, Sent}
use Rattle.proxy_core.specs.Numbers.{AreSerial}
use Rattle.proxy_core.specs.Promises.{sending, sendings}

-- ---- elements of lists

none_in : {X : Type 0} (x : X) → Contains [] x → ⊥
none_in x in_it = (let less = in_it.1 in absurd (omega (arith, less)))

pub cons_cases : {X : Type 0} (x s : X) (xs : List X) → Contains (x ∷ xs) s → (x ≡ s) ⊎ Contains xs s
cons_cases x s xs in_it = elim (Contains-append_cases (x ∷ []) xs s in_it) [
  | inl one ↦ elim (Contains-push_cases [] x s one) [ inl none ↦ absurd (none_in s none) | inr same ↦ inl same ]
  | inr more ↦ inr more
]

pub in_head : {X : Type 0} (x : X) (xs : List X) → Contains (x ∷ xs) x
in_head x xs = Contains-append_left (x ∷ []) xs x (Contains-push [] x)

pub in_tail : {X : Type 0} (x s : X) (xs : List X) → Contains xs s → Contains (x ∷ xs) s
in_tail x s xs in_it = Contains-append_right (x ∷ []) xs s in_it

pub all_at : {X : Type 0} (P : X → Type 0) (xs : List X) (x : X) → AllByRecursion P xs → Contains xs x → P x
all_at P xs x all in_it = All-contains P xs x (All-from_recursion P xs all) in_it

pub all_in : {X : Type 0} (P Q : X → Type 0) (xs : List X) → ((x : X) → Contains xs x → P x → Q x) → AllByRecursion P xs → AllByRecursion Q xs
all_in P Q [] f all = tt
all_in P Q (x ∷ xs) f all = (f x (in_head x xs) all.0, all_in P Q xs (λ y in_it. f y (in_tail x y xs in_it)) all.1)

pub all_of : {X : Type 0} (Q : X → Type 0) (xs : List X) → ((x : X) → Contains xs x → Q x) → AllByRecursion Q xs
all_of Q [] f = tt
all_of Q (x ∷ xs) f = (f x (in_head x xs), all_of Q xs (λ y in_it. f y (in_tail x y xs in_it)))

pub compare : (a b : ℕ) → (a < b) ⊎ ((a ≡ b) ⊎ (b < a))
compare a b =
    elim (nat_lt a b) as (λ x. nat_lt a b ≡ x → (a < b) ⊎ ((a ≡ b) ⊎ (b < a))) [
      | true ↦ λ so. inl (grind (arith, nat_tests))
      | false ↦ λ no. elim (nat_lt b a) as (λ y. nat_lt b a ≡ y → (a < b) ⊎ ((a ≡ b) ⊎ (b < a))) [
        | true ↦ λ so. inr (inr (grind (arith, nat_tests)))
        | false ↦ λ nor. inr (inl (grind (arith, nat_tests)))
      ] refl
    ] refl

-- ---- serial numbers

pub serial_less : (n : ℕ) (xs : List Sent) (s : Sent) → AreSerial n xs → Contains xs s → s.serial < n + length xs
serial_less n [] s all in_it = absurd (none_in s in_it)
serial_less n (x ∷ xs) s all in_it = elim (cons_cases x s xs in_it) [
  | inl same ↦ (let at = all.0 in let e : x.serial ≡ s.serial = ap (λ (y : Sent). y.serial) same in omega (arith, at, e))
  | inr more ↦ (let less = serial_less (n + 1) xs s all.1 more in omega (arith, less))
]

pub serial_from : (n : ℕ) (xs : List Sent) (s : Sent) → AreSerial n xs → Contains xs s → n ≤ s.serial
serial_from n [] s all in_it = absurd (none_in s in_it)
serial_from n (x ∷ xs) s all in_it = elim (cons_cases x s xs in_it) [
  | inl same ↦ (let at = all.0 in let e : x.serial ≡ s.serial = ap (λ (y : Sent). y.serial) same in omega (arith, at, e))
  | inr more ↦ (let less = serial_from (n + 1) xs s all.1 more in omega (arith, less))
]

pub serial_same : (n : ℕ) (xs : List Sent) (s t : Sent) → AreSerial n xs → Contains xs s → Contains xs t → s.serial ≡ t.serial → s ≡ t
serial_same n [] s t all in_s in_t same = absurd (none_in s in_s)
serial_same n (x ∷ xs) s t all in_s in_t same =
    let at = all.0 in
    elim (cons_cases x s xs in_s) [
      | inl is_s ↦ elim (cons_cases x t xs in_t) [
        | inl is_t ↦ sym is_s ∙ is_t
        | inr more ↦ (let low = serial_from (n + 1) xs t all.1 more in let e : x.serial ≡ s.serial = ap (λ (y : Sent). y.serial) is_s in absurd (omega (arith, at, e, low, same)))
      ]
      | inr more_s ↦ elim (cons_cases x t xs in_t) [
        | inl is_t ↦ (let low = serial_from (n + 1) xs s all.1 more_s in let e : x.serial ≡ t.serial = ap (λ (y : Sent). y.serial) is_t in absurd (omega (arith, at, e, low, same)))
        | inr more_t ↦ serial_same (n + 1) xs s t all.1 more_s more_t same
      ]
    ]

pub serial_append : (n m : ℕ) (xs ys : List Sent) → m ≡ n + length xs → AreSerial n xs → AreSerial m ys → AreSerial n (xs ++ ys)
serial_append n m [] ys at left right = subst (λ k. AreSerial k ys) (omega (arith, at)) right
serial_append n m (x ∷ xs) ys at left right = (left.0, serial_append (n + 1) m xs ys (omega (arith, at)) left.1 right)

pub serial_sendings : (r : Rules) (taken : ℕ) (first : Bool) (m k : ℕ) (xs : List Request) → AreSerial m (sendings r taken first m k xs)
serial_sendings r taken first m k [] = tt
serial_sendings r taken first m k (x ∷ xs) = (refl, serial_sendings r taken first (m + 1) (step (needs_number r x.line) k) xs)

-- ---- places

abbrev pub is_at : ℕ → Request → Bool
is_at p a = a.place == p

count_cons : (p : ℕ) (x : Request) (xs : List Request) → count_by (is_at p) (x ∷ xs) ≡ cond {A = ℕ} (is_at p x) 1 0 + count_by (is_at p) xs
count_cons p x xs = sum_by-cons (λ y. cond {A = ℕ} (is_at p y) 1 0) x xs

-- an element at its place counts
pub some_at : (xs : List Request) (a : Request) → Contains xs a → 1 ≤ count_by (is_at a.place) xs
some_at [] a in_it = absurd (none_in a in_it)
some_at (x ∷ xs) a in_it =
    let whole = count_cons a.place x xs in
    elim (cons_cases x a xs in_it) [
      | inl same ↦ (
          let e : x.place ≡ a.place = ap (λ (y : Request). y.place) same in
          let is : is_at a.place x ≡ true = grind (arith, nat_tests) in
          let one : cond {A = ℕ} (is_at a.place x) 1 0 ≡ 1 = ap (λ b. cond {A = ℕ} b 1 0) is in
          omega (arith, whole, one))
      | inr more ↦ (let some = some_at xs a more in omega (arith, whole, some))
    ]

-- a sending is of one of the requests, with its number
pub record IsOf (r : Rules) (xs : List Request) (s : Sent) : Type 0 where
  pub ask : Request
  pub in_it : Contains xs ask
  pub from : ask.from ≡ s.from
  pub place : ask.place ≡ s.place
  pub own : needs_number r ask.line ≡ s.is_unnumbered

pub is_of : (r : Rules) (taken : ℕ) (first : Bool) (m k : ℕ) (xs : List Request) (s : Sent) → Contains (sendings r taken first m k xs) s → IsOf r xs s
is_of r taken first m k [] s in_it = absurd (none_in s in_it)
is_of r taken first m k (x ∷ xs) s in_it = elim (cons_cases (sending r taken first m (next k) x) s (sendings r taken first (m + 1) (step (needs_number r x.line) k) xs) in_it) [
  | inl same ↦ record { ask = x; in_it = in_head x xs; from = ap (λ (y : Sent). y.from) same; place = ap (λ (y : Sent). y.place) same; own = ap (λ (y : Sent). y.is_unnumbered) same }
  | inr more ↦ (let rest = is_of r taken first (m + 1) (step (needs_number r x.line) k) xs s more in
      record { ask = rest.ask; in_it = in_tail x rest.ask xs rest.in_it; from = rest.from; place = rest.place; own = rest.own })
]

abbrev pub AreApart : List Request → Type 0
AreApart xs = (p : ℕ) → count_by (is_at p) xs ≤ 1

apart_rest : (x : Request) (xs : List Request) → AreApart (x ∷ xs) → AreApart xs
apart_rest x xs apart p = let whole = count_cons p x xs in let all = apart p in omega (arith, whole, all)

-- no request after the first has its place
apart_first : (x a : Request) (xs : List Request) → AreApart (x ∷ xs) → Contains xs a → x.place ≡ a.place → ⊥
apart_first x a xs apart in_it same =
    let whole = count_cons a.place x xs in
    let all = apart a.place in
    let some = some_at xs a in_it in
    let is : is_at a.place x ≡ true = grind (arith, nat_tests) in
    let one : cond {A = ℕ} (is_at a.place x) 1 0 ≡ 1 = ap (λ b. cond {A = ℕ} b 1 0) is in
    absurd (omega (arith, whole, all, some, one))

-- of one flight, a place has one sending
pub same_place : (r : Rules) (taken : ℕ) (first : Bool) (m k : ℕ) (xs : List Request) (s t : Sent) → AreApart xs
    → Contains (sendings r taken first m k xs) s → Contains (sendings r taken first m k xs) t → s.place ≡ t.place → s ≡ t
same_place r taken first m k [] s t apart in_s in_t same = absurd (none_in s in_s)
same_place r taken first m k (x ∷ xs) s t apart in_s in_t same =
    let z : Sent = sending r taken first m (next k) x in
    let k' : ℕ = step (needs_number r x.line) k in
    let later : List Sent = sendings r taken first (m + 1) k' xs in
    elim (cons_cases z s later in_s) [
      | inl is_s ↦ elim (cons_cases z t later in_t) [
        | inl is_t ↦ sym is_s ∙ is_t
        | inr more ↦ (let o = is_of r taken first (m + 1) k' xs t more in absurd (apart_first x o.ask xs apart o.in_it (ap (λ (y : Sent). y.place) is_s ∙ same ∙ sym o.place)))
      ]
      | inr more_s ↦ elim (cons_cases z t later in_t) [
        | inl is_t ↦ (let o = is_of r taken first (m + 1) k' xs s more_s in absurd (apart_first x o.ask xs apart o.in_it (ap (λ (y : Sent). y.place) is_t ∙ sym same ∙ sym o.place)))
        | inr more_t ↦ same_place r taken first (m + 1) k' xs s t (apart_rest x xs apart) more_s more_t same
      ]
    ]

-- ---- numbers

next_more : (k : ℕ) → next k < 18446744073709551615 → k < next k
next_more k less = grind (arith, nat_tests)

step_from : (own : Bool) (k : ℕ) → k ≤ 18446744073709551615 → k ≤ step own k
step_from true k small = grind (arith, nat_tests)
step_from false k small = omega arith

-- the numbers of a flight are higher than the one before it
pub number_more : (r : Rules) (taken : ℕ) (first : Bool) (m k : ℕ) (xs : List Request) (s : Sent) → Contains (sendings r taken first m k xs) s → s.number < 18446744073709551615 → k < s.number
number_more r taken first m k [] s in_it small = absurd (none_in s in_it)
number_more r taken first m k (x ∷ xs) s in_it small =
    elim (cons_cases (sending r taken first m (next k) x) s (sendings r taken first (m + 1) (step (needs_number r x.line) k) xs) in_it) [
      | inl same ↦ (let e : next k ≡ s.number = ap (λ (y : Sent). y.number) same in let low = next_more k (subst (λ n. n < 18446744073709551615) (sym e) small) in omega (arith, e, low))
      | inr more ↦ (let low = number_more r taken first (m + 1) (step (needs_number r x.line) k) xs s more small in after (needs_number r x.line) k s.number low small)
    ]
  where
    after : (own : Bool) (k n : ℕ) → step own k < n → n < 18446744073709551615 → k < n
    after true k n low small = (let up = next_more k (omega (arith, low, small)) in omega (arith, low, up))
    after false k n low small = low

-- of one flight, a number has one sending
pub same_number : (r : Rules) (taken : ℕ) (first : Bool) (m k : ℕ) (xs : List Request) (s t : Sent)
    → Contains (sendings r taken first m k xs) s → Contains (sendings r taken first m k xs) t → s.is_unnumbered ≡ true → t.is_unnumbered ≡ true → s.number ≡ t.number → t.number < 18446744073709551615 → s ≡ t
same_number r taken first m k [] s t in_s in_t own_s own_t same small = absurd (none_in s in_s)
same_number r taken first m k (x ∷ xs) s t in_s in_t own_s own_t same small =
    let z : Sent = sending r taken first m (next k) x in
    let own : Bool = needs_number r x.line in
    let later : List Sent = sendings r taken first (m + 1) (step own k) xs in
    elim (cons_cases z s later in_s) [
      | inl is_s ↦ elim (cons_cases z t later in_t) [
        | inl is_t ↦ sym is_s ∙ is_t
        | inr more ↦ absurd (twice own k s t own_s (ap (λ (y : Sent). y.is_unnumbered) is_s) (ap (λ (y : Sent). y.number) is_s) same (number_more r taken first (m + 1) (step own k) xs t more small))
      ]
      | inr more_s ↦ elim (cons_cases z t later in_t) [
        | inl is_t ↦ absurd (twice own k t s own_t (ap (λ (y : Sent). y.is_unnumbered) is_t) (ap (λ (y : Sent). y.number) is_t) (sym same) (number_more r taken first (m + 1) (step own k) xs s more_s (subst (λ n. n < 18446744073709551615) (sym same) small)))
        | inr more_t ↦ same_number r taken first (m + 1) (step own k) xs s t more_s more_t own_s own_t same small
      ]
    ]
  where
    twice : (own : Bool) (k : ℕ) (s t : Sent) → s.is_unnumbered ≡ true → own ≡ s.is_unnumbered → next k ≡ s.number → s.number ≡ t.number → step own k < t.number → ⊥
    twice true k s t is e at same low = absurd (omega (arith, at, same, low))
    twice false k s t is e at same low = absurd (cc (e, is))
