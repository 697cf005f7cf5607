-- A walk over the neighbours of a node meets each of its links to a node with a greater number.
use Rattle.std.proofs.Common.{◌≡◌, ℕ, zero, suc, ◌+◌, ◌-◌, ◌<◌, ◌≤◌, Bool, true, false, ◌||◌, List, [], ◌∷◌, ◌++◌, Some, None, refl, sym, ap, ap₂, ◌∙◌, inl, inr, arith, if◌then◌else◌, nat_eq, nat_lt, nat_cmp, Less}
use Rattle.std.specs.List.{AllByRecursion, flat_map, list_any, range_with_len}
use Rattle.std.specs.List.Sorted.{IsStrictlySortedBy}
use Rattle.std.proofs.lemmas.Bool.Decides.{nat_tests}
use Rattle.std.proofs.lemmas.Map.Keys.{sorted_head, sorted_tail}
use Rattle.coord_types.specs.NodeSet.{NodeSet, first as first_member, items, remove}
use Rattle.coord_types.specs.Numbers.{numbers}
use Rattle.coord_types.proofs.Sets.{contains-items, items-first, items-sorted, all_listed}
use Rattle.coord_world.specs.Facade.{InRange, World, is_linked, state}
use Rattle.coord_world.proofs.Facade.{lane-mirrored}
use Rattle.coord_check.specs.declared.violation.Violation.{Violation}
use Rattle.coord_check.specs.Faults.{first, faults_from, letter_faults, link_faults, link_letters, nodes_from}
use Rattle.coord_check.proofs.Faults.{first_further, lesser_or_same}
use Rattle.coord_check.proofs.LegalWithoutFaults.{is_node}

-- numbers that rise, none of them below u
abbrev RiseFrom : ℕ → List ℕ → Type 0
RiseFrom u [] = Unit {0}
RiseFrom u (x ∷ xs) = (u ≤ x) × RiseFrom (x + 1) xs

all_above : (u : ℕ) (xs : List ℕ) → AllByRecursion (λ y. nat_cmp u y ≡ Less) xs → AllByRecursion (λ y. u + 1 ≤ y) xs
all_above u [] all = tt
all_above u (x ∷ xs) all = let here = all.0 in (grind (arith, nat_tests, here), all_above u xs all.1)

rise_of_sorted : (u : ℕ) (xs : List ℕ) → IsStrictlySortedBy nat_cmp xs → AllByRecursion (λ y. u ≤ y) xs → RiseFrom u xs
rise_of_sorted u [] sorted all = tt
rise_of_sorted u (x ∷ xs) sorted all = (all.0, rise_of_sorted (x + 1) xs (sorted_tail nat_cmp x xs sorted) (all_above x xs (sorted_head nat_cmp x xs sorted)))

not_listed : (u v : ℕ) (xs : List ℕ) → RiseFrom u xs → v < u → list_any (λ y. nat_eq y v) xs ≡ false
not_listed u v [] rise lt = refl
not_listed u v (x ∷ xs) rise lt =
    let here = rise.0 in
    let further = not_listed (x + 1) v xs rise.1 (omega arith) in
    grind (arith, nat_tests, here, further)

other : (x v : ℕ) (b : Bool) → x < v → b ≡ false → (nat_eq x v || b) ≡ false
other x v b lt none = grind (arith, nat_tests)

module _ {X : Type 0} (f : ℕ → List X) where
  -- a range and its listed numbers lead to the same, if the others lead to nothing
  sparse : (m u n : ℕ) (xs : List ℕ) → u + n ≡ m → RiseFrom u xs → AllByRecursion (λ x. x < m) xs → ((v : ℕ) → u ≤ v → v < m → list_any (λ y. nat_eq y v) xs ≡ false → f v ≡ []) → flat_map f (range_with_len u n) ≡ flat_map f xs
  sparse m u zero [] e rise below none = refl
  sparse m u zero (x ∷ xs) e rise below none = let least = rise.0 in let most = below.0 in absurd (omega arith)
  sparse m u (suc n) [] e rise below none =
      ap₂ (λ l k. l ++ k) (none u (omega arith) (omega arith) refl) (sparse m (u + 1) n [] (omega arith) tt tt (λ v le lt out. none v (omega arith) lt out))
  sparse m u (suc n) (x ∷ xs) e rise below none =
      elim (lesser_or_same u x rise.0) [
        | inl same ↦ ap₂ (λ v l. f v ++ l) same (sparse m (u + 1) n xs (omega arith) (rw same rise.1) below.1 (λ v le lt out. none v (omega arith) lt (other x v _ (omega arith) out)))
        | inr less ↦
            let here : f u ≡ [] = none u (omega arith) (let most = below.0 in omega arith) (not_listed x u (x ∷ xs) (omega arith, rise.1) less) in
            ap (λ l. l ++ flat_map f (range_with_len (u + 1) n)) here ∙ sparse m (u + 1) n (x ∷ xs) (omega arith) (omega arith, rise.1) below (λ v le lt out. none v (omega arith) lt out)
      ]

  -- what f leads to from numbers above a
  abbrev pub from_above : ℕ → ℕ → List X
  from_above a v = if nat_lt a v then f v else []

  above_in : (a v : ℕ) → a < v → from_above a v ≡ f v
  above_in a v lt = let is : nat_lt a v ≡ true = grind (arith, nat_tests) in ap (λ b. if b then f v else []) is

  above_out : (a v : ℕ) → v ≤ a → from_above a v ≡ []
  above_out a v le = let is : nat_lt a v ≡ false = grind (arith, nat_tests) in ap (λ b. if b then f v else []) is

  all_in : (a u n : ℕ) → a < u → flat_map (from_above a) (range_with_len u n) ≡ flat_map f (range_with_len u n)
  all_in a u zero lt = refl
  all_in a u (suc n) lt = ap₂ (λ l k. l ++ k) (above_in a u lt) (all_in a (u + 1) n (omega arith))

  some_in : (a u n : ℕ) → u ≤ a + 1 → a < u + n → flat_map (from_above a) (range_with_len u n) ≡ flat_map f (range_with_len (a + 1) (u + n - (a + 1)))
  some_in a u zero le lt = let none : u + 0 - (a + 1) ≡ 0 = omega arith in ap (λ k. flat_map f (range_with_len (a + 1) k)) (sym none)
  some_in a u (suc n) le lt =
      elim (lesser_or_same u (a + 1) le) [
        | inl same ↦
            let length_is : suc n ≡ u + suc n - (a + 1) = omega arith in
            all_in a u (suc n) (omega arith) ∙ ap₂ (λ v k. flat_map f (range_with_len v k)) same length_is
        | inr less ↦
            let length_is : (u + 1) + n - (a + 1) ≡ u + suc n - (a + 1) = omega arith in
            ap (λ l. l ++ flat_map (from_above a) (range_with_len (u + 1) n)) (above_out a u (omega arith))
            ∙ some_in a (u + 1) n (omega arith) (omega arith) ∙ ap (λ k. flat_map f (range_with_len (a + 1) k)) length_is
      ]

  pub nodes_above : (a : ℕ) → a < 65 → flat_map (from_above a) (nodes_from 1) ≡ flat_map f (nodes_from (a + 1))
  unfolding numbers
  nodes_above a lt = some_in a 1 64 (omega arith) (omega arith)

unlinked : (w : World) (a v : ℕ) (t : Bool) → t ≡ false → (if t then flat_map (letter_faults w a v) link_letters else []) ≡ []
unlinked w a v true e = cc
unlinked w a v false e = refl

nothing : {X : Type 0} (b : Bool) (l : List X) → l ≡ [] → (if b then l else []) ≡ []
nothing true l e = e
nothing false l e = refl

module _ (w : World) (a : ℕ) where
  -- the faults of the link to a neighbour
  abbrev pub reported_above : ℕ → List Violation
  reported_above = from_above (link_faults w a) a

  -- a neighbour without a fault is passed, and the first fault is met
  pub passed_by : (rest : NodeSet) (b : ℕ) → first_member rest ≡ Some b → first (reported_above b) ≡ None → first (flat_map reported_above (items (remove rest b))) ≡ first (flat_map reported_above (items rest))
  passed_by rest b is none = sym (ap (λ xs. first (flat_map reported_above xs)) (items-first rest b is) ∙ first_further (reported_above b) (flat_map reported_above (items (remove rest b))) none)

  module _ (range : InRange w) where
    near : NodeSet
    near = (state w a).neighbours

    neighbour : (v : ℕ) → list_any (λ y. nat_eq y v) (items near) ≡ true → (1 ≤ v) × (v < 65)
    unfolding near
    neighbour v is =
        let linked : is_linked w a v ≡ true = range.linked a v ∙ contains-items near v ∙ is in
        let found = is_node w range v a (sym (lane-mirrored w.links a v) ∙ linked) in
        let least = found.0 in
        let most = found.1 in
        (omega arith, omega arith)

    stranger : (v : ℕ) → list_any (λ y. nat_eq y v) (items near) ≡ false → reported_above v ≡ []
    unfolding near
    stranger v is = nothing (nat_lt a v) (link_faults w a v) (unlinked w a v (is_linked w a v) (range.linked a v ∙ contains-items near v ∙ is))

    -- the walk meets the faults of the links from a node upwards
    pub walk_is : a < 65 → flat_map reported_above (items (state w a).neighbours) ≡ faults_from w a
    unfolding near numbers
    walk_is lt =
        sym (sparse reported_above 65 1 64 (items near) refl
        (rise_of_sorted 1 (items near) (items-sorted near) (all_listed (λ y. 1 ≤ y) (items near) (λ v is. (neighbour v is).0)))
        (all_listed (λ y. y < 65) (items near) (λ v is. (neighbour v is).1))
        (λ v le most out. stranger v out))
        ∙ nodes_above (link_faults w a) a lt
