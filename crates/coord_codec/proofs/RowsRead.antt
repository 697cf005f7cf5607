-- What the rows that were read say of the next one: rows in order, and what one more row changes.
use Rattle.std.proofs.Common.{◌≡◌, ℕ, ◌+◌, ◌≤◌, true, ◌&&◌, List, [], ◌∷◌, ◌++◌, map, length, refl, ap, ◌∙◌, arith, Ordering, is_lt, nat_cmp, Less, ◌≢◌, ◌-◌, ◌<◌, Bool, false, ◌||◌, Option, Some, None, get_or, set, cond, eqb, sym, IsSome}
use Rattle.std.specs.Cmp.{IsTotalOrder}
use Rattle.std.specs.List.{AllByRecursion}
use Rattle.std.specs.FinMap.Entries.{below_all, is_sorted}
use Rattle.std.proofs.lemmas.Bool.Decides.{nat_tests}
use Rattle.std.proofs.Math.ListN.{length-set}
use Rattle.std.proofs.lemmas.List.{get_or-set_same, get_or-set_other}
use Rattle.coord_world.proofs.Facade.{both, is_less, by_test}
use Rattle.coord_codec.specs.Worlds.{last_by, last_ends}
use Rattle.coord_world.specs.protocol.Rows.{degree, group_of, is_end}
use Rattle.coord_world.specs.declared.rows.parts.NodeRow.{NodeRow}
use Rattle.coord_tables.specs.declared.links.LinkRow.{LinkRow}

-- ---- rows that each stand above the one before are in order

module _ {K A : Type 0} (key : A → K) where
  abbrev pub keyed : List A → List (K × A)
  keyed = map (λ x. (key x, x))

  -- the last one is the one that was added
  pub last_push : (last : K) (xs : List A) (x : A) → last_by key last (xs ++ x ∷ []) ≡ key x
  last_push last [] x = refl
  last_push last (y ∷ ys) x = last_push (key y) ys x

  module _ {R : K → K → Ordering} (o : IsTotalOrder R) where
    -- each key is above the one before, and the first above this one
    abbrev pub RiseFrom : K → List A → Type 0
    RiseFrom last [] = Unit {0}
    RiseFrom last (x ∷ xs) = (is_lt (R last (key x)) ≡ true) × RiseFrom (key x) xs

    below_more : (j k : K) (xs : List A) → is_lt (R j k) ≡ true → below_all R k (keyed xs) ≡ true → below_all R j (keyed xs) ≡ true
    below_more j k [] below all = refl
    below_more j k (x ∷ xs) below all =
        let parts = both (is_lt (R k (key x))) (below_all R k (keyed xs)) all in
        let here : R j (key x) ≡ Less = o.trans j k (key x) (is_less (R j k) below) (is_less (R k (key x)) parts.0) in
        ap (λ r. is_lt r && below_all R j (keyed xs)) here ∙ below_more j k xs below parts.1

    pub sorted_of_rise : (last : K) (xs : List A) → RiseFrom last xs → (below_all R last (keyed xs) ≡ true) × (is_sorted R (keyed xs) ≡ true)
    sorted_of_rise last [] rise = (refl, refl)
    sorted_of_rise last (x ∷ xs) rise = grind (arith, sorted_of_rise (key x) xs rise.1, below_more)

    pub rise_of_sorted : (last : K) (xs : List A) → below_all R last (keyed xs) ≡ true → is_sorted R (keyed xs) ≡ true → RiseFrom last xs
    rise_of_sorted last [] below sorted = tt
    rise_of_sorted last (x ∷ xs) below sorted =
        let first = both (is_lt (R last (key x))) (below_all R last (keyed xs)) below in
        let rest = both (below_all R (key x) (keyed xs)) (is_sorted R (keyed xs)) sorted in
        (first.0, rise_of_sorted (key x) xs rest.0 rest.1)

-- numbers from 1 are above 0
pub above_zero : {A : Type 0} (key : A → ℕ) (xs : List A) → AllByRecursion (λ x. 1 ≤ key x) xs → below_all nat_cmp 0 (keyed key xs) ≡ true
above_zero key [] all = refl
above_zero key (x ∷ xs) all = let rest = above_zero key xs all.1 in let one = all.0 in grind (arith, nat_tests, rest, one)

-- there are no more numbers in order than lie in their range
pub few_keys : {A : Type 0} (key : A → ℕ) (last most : ℕ) (xs : List A) → last ≤ most → below_all nat_cmp last (keyed key xs) ≡ true → is_sorted nat_cmp (keyed key xs) ≡ true → AllByRecursion (λ x. key x ≤ most) xs → length xs + last ≤ most
few_keys key last most [] within below sorted all = omega (arith, within)
few_keys key last most (x ∷ xs) within below sorted all =
    let first = both (is_lt (nat_cmp last (key x))) (below_all nat_cmp last (keyed key xs)) below in
    let rest = both (below_all nat_cmp (key x) (keyed key xs)) (is_sorted nat_cmp (keyed key xs)) sorted in
    let above : last + 1 ≤ key x = grind (arith, nat_tests, first.0) in
    omega (arith, above, few_keys key (key x) most xs all.0 rest.0 rest.1 all.1)

-- ---- what one more row changes of the groups that the next one may have

-- the present value, else this
abbrev or_else : {A : Type 0} → Option A → Option A → Option A
or_else None o = o
or_else (Some x) o = Some x

else_none : {A : Type 0} (o : Option A) → or_else o None ≡ o
else_none None = refl
else_none (Some x) = refl

group_push : (u : ℕ) (rows : List NodeRow) (r : NodeRow) → group_of (rows ++ r ∷ []) u ≡ or_else (group_of rows u) (cond (eqb u r.id) (Some r.group) None)
group_push u [] r = grind arith
group_push u (x ∷ rows) r = grind (arith, group_push u rows r)

module _ (groups : List (Option ℕ)) (rows : List NodeRow) (r : NodeRow) (least : 1 ≤ r.id) (all : length groups ≡ 64) (most : r.id ≤ 64)
    (known : (u : ℕ) → 1 ≤ u → u ≤ 64 → get_or groups (u - 1) None ≡ group_of rows u) where
  -- a node that has no group yet gets the row's
  group_set : get_or groups (r.id - 1) None ≡ None → (u : ℕ) → 1 ≤ u → u ≤ 64 → get_or (set groups (r.id - 1) (Some r.group)) (u - 1) None ≡ group_of (rows ++ r ∷ []) u
  group_set none u low high = by_test (eqb u r.id) (λ t. get_or (set groups (r.id - 1) (Some r.group)) (u - 1) None ≡ or_else (group_of rows u) (cond t (Some r.group) None))
      (λ is.
      let same : u ≡ r.id = grind (arith, nat_tests) in
      let place : u - 1 ≡ r.id - 1 = omega arith in
      ap (λ i. get_or (set groups (r.id - 1) (Some r.group)) i None) place ∙ get_or-set_same groups (r.id - 1) (Some r.group) None (omega arith)
      ∙ ap (λ o. or_else o (Some r.group)) (sym none ∙ known r.id least most ∙ ap (group_of rows) (sym same)))
      (λ is.
      let apart : u - 1 ≢ r.id - 1 = λ e. let same : u ≡ r.id = omega arith in let tested : eqb u r.id ≡ true = grind (arith, nat_tests) in cc in
      get_or-set_other groups (r.id - 1) (u - 1) (Some r.group) None apart ∙ known u low high ∙ sym (else_none (group_of rows u)))
      ∙ sym (group_push u rows r)

  -- one that has a group keeps it
  group_kept : (g : ℕ) → get_or groups (r.id - 1) None ≡ Some g → (u : ℕ) → 1 ≤ u → u ≤ 64 → get_or groups (u - 1) None ≡ group_of (rows ++ r ∷ []) u
  group_kept g some u low high = grind (arith, by_test, else_none, group_push)

  -- the group of a node is known if it was noted, and if the node had it already
  pub group_noted : (new : List (Option ℕ)) → (get_or groups (r.id - 1) None ≡ None → new ≡ set groups (r.id - 1) (Some r.group)) → (IsSome (get_or groups (r.id - 1) None) → new ≡ groups) → (u : ℕ) → 1 ≤ u → u ≤ 64 → get_or new (u - 1) None ≡ group_of (rows ++ r ∷ []) u
  group_noted new fresh kept u low high = grind (arith, group_set, group_kept)

-- ---- what one more row changes of the last ends

pub first_push : (rows : List LinkRow) (r : LinkRow) → (last_ends (rows ++ r ∷ [])).0 ≡ r.a
first_push rows r = ap (λ (e : ℕ × ℕ). e.0) (last_push (λ (l : LinkRow). (l.a, l.b)) (0, 0) rows r)

pub second_push : (rows : List LinkRow) (r : LinkRow) → (last_ends (rows ++ r ∷ [])).1 ≡ r.b
second_push rows r = ap (λ (e : ℕ × ℕ). e.1) (last_push (λ (l : LinkRow). (l.a, l.b)) (0, 0) rows r)

-- ---- what one more row changes of degrees

abbrev one : Bool → ℕ
one b = cond b 1 0

-- one more at a place
abbrev pub raised : List ℕ → ℕ → List ℕ
raised ds i = set ds i (get_or ds i 0 + 1)

degree_push : (u : ℕ) (rows : List LinkRow) (r : LinkRow) → degree u (rows ++ r ∷ []) ≡ degree u rows + one (eqb u r.a || eqb u r.b)
degree_push u [] r = by_test (is_end u r) (λ t. cond t (1 + 0) 0 ≡ 0 + one t) (λ is. omega arith) (λ is. omega arith)
degree_push u (x ∷ rows) r = grind (arith, degree_push u rows r)

-- no node is an end of more links than there are
pub degree_most : (u : ℕ) (rows : List LinkRow) → degree u rows ≤ length rows
degree_most u [] = omega arith
degree_most u (x ∷ rows) = grind (arith, degree_most u rows)

-- the value at each place then
pub get_raised : (ds : List ℕ) (i j : ℕ) → i < length ds → get_or (raised ds i) j 0 ≡ get_or ds j 0 + one (eqb j i)
get_raised ds i j within = grind (arith, by_test, get_or-set_same, get_or-set_other)

place : (u a : ℕ) → 1 ≤ u → 1 ≤ a → eqb (u - 1) (a - 1) ≡ eqb u a
place u a low least = by_test (eqb u a) (λ t. eqb (u - 1) (a - 1) ≡ t) (λ is. let same : u ≡ a = grind (arith, nat_tests) in let e : u - 1 ≡ a - 1 = omega arith in grind (arith, nat_tests))
    (λ is. by_test (eqb (u - 1) (a - 1)) (λ t. t ≡ false) (λ tied. let e : u - 1 ≡ a - 1 = grind (arith, nat_tests) in let same : u ≡ a = omega arith in let tested : eqb u a ≡ true = grind (arith, nat_tests) in cc) (λ _. refl))

-- one of two tests that do not both hold
either : (p q : Bool) → (p ≡ true → q ≡ false) → one p + one q ≡ one (p || q)
either p q h1 = grind arith

module _ (ds : List ℕ) (rows : List LinkRow) (r : LinkRow) (all : length ds ≡ 64) (least : 1 ≤ r.a) (most : r.a ≤ 64) (low : 1 ≤ r.b) (high : r.b ≤ 64)
    (known : (u : ℕ) → 1 ≤ u → u ≤ 64 → get_or ds (u - 1) 0 ≡ degree u rows) where
  -- both ends have one more link
  pub both_raised : r.a - 1 ≢ r.b - 1 → (u : ℕ) → 1 ≤ u → u ≤ 64 → get_or (raised (raised ds (r.a - 1)) (r.b - 1)) (u - 1) 0 ≡ degree u (rows ++ r ∷ [])
  both_raised differ u from to = grind (arith, nat_tests, get_raised, length-set, place, either, by_test, degree_push)

  -- a link of a node to itself counts once
  pub one_raised : r.a - 1 ≡ r.b - 1 → (u : ℕ) → 1 ≤ u → u ≤ 64 → get_or (raised ds (r.a - 1)) (u - 1) 0 ≡ degree u (rows ++ r ∷ [])
  one_raised same u from to = grind (arith, get_raised, place, degree_push)
