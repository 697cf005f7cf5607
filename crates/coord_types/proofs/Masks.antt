-- Sets of nodes and their masks.
use Rattle.std.proofs.Common.{◌≡◌, ◌≢◌, ◌↔◌, ℕ, zero, suc, ◌+◌, ◌-◌, ◌*◌, ◌/◌, ◌%◌, ◌^◌, ◌<◌, ◌≤◌, Bool, true, false, ◌&&◌, List, [], ◌∷◌, ◌++◌, length, Option, Some, None, IsSome, refl, sym, ap, ◌∙◌, subst, cond, eqb, ltb, leb, bit_and, bit_or, w64, lit<, min, arith, ◌==◌, IfSome, nat_eq}
use Rattle.std.specs.Cmp.Lexicographic.{pointwise, same_text, other_text}
use Rattle.std.specs.Int.{bit_at, bit_not, trailing_zeros}
use Rattle.std.specs.Int.Count.{ones, trailing_of_zero}
use Rattle.std.specs.List.{AllByRecursion}
use Rattle.std.proofs.lemmas.Bool.Decides.{nat_tests}
use Rattle.std.proofs.lemmas.List.{length-append}
use Rattle.std.proofs.lemmas.Nat.{and_le_l, ones_cat, or_lt}
use Rattle.std.proofs.lemmas.Nat.Bits.{same_from_bits_below, bit_at_and, bit_at_not, bit_at-lt, bit_at-zero, bit_at_above, bit_at_lowest, bit_at_cat_low, bit_at_cat_high, bit_at_set_same, bit_at_set_other, bit_at_clear_same, bit_at_clear_other, shr_and_one, bit_at-trailing_zeros}
use Rattle.coord_types.specs.NodeSet.{NodeSet, contains, empty, insert, remove, len, items, from_list, first, first_of, is_subset}
use Rattle.coord_types.specs.NodeMask.{nodes_where, is_set, nodes_of, bits_where, mask_of, IsMaskable}
use Rattle.coord_types.proofs.Sets.{by_test, contains-empty, contains-insert, contains-remove, same_nodes, empty_of_len, len-empty, len_of_items, items-empty, items-insert_back, items_least, contains-subset, is_subset_by, from_list-items}

one_more_node : (s : NodeSet) (test : ℕ → Bool) (n q : ℕ) (b : Bool) → test n ≡ b → contains s q ≡ (ltb 0 q && (leb q n && test (q - 1))) →
    contains (cond b (insert s (suc n)) s) q ≡ (ltb 0 q && (leb q (suc n) && test (q - 1)))
one_more_node s test n q true here e = let last : q ≡ suc n → test (q - 1) ≡ true = λ h. ap test (omega arith) ∙ here in grind (arith, nat_tests, contains-insert s (suc n) q, last)
one_more_node s test n q false here e = let last : q ≡ suc n → test (q - 1) ≡ false = λ h. ap test (omega arith) ∙ here in grind (arith, nat_tests, last)

pub contains-nodes_where : (test : ℕ → Bool) (n q : ℕ) → contains (nodes_where test n) q ≡ (ltb 0 q && (leb q n && test (q - 1)))
unfolding nodes_where
contains-nodes_where test zero q = grind (arith, nat_tests, contains-empty q)
contains-nodes_where test (suc n) q = one_more_node (nodes_where test n) test n q (test n) refl (contains-nodes_where test n q)

double : (n : ℕ) → 2 ^ suc n ≡ 2 ^ n + 2 ^ n
double n = omega arith

one_more_below : (bits n : ℕ) (b : Bool) → bits < 2 ^ n → cond b (bits + 2 ^ n) bits < 2 ^ suc n
one_more_below bits n true below = omega (arith, double n)
one_more_below bits n false below = omega (arith, double n)

pub bits_where-below : (test : ℕ → Bool) (n : ℕ) → bits_where test n < 2 ^ n
unfolding bits_where
bits_where-below test zero = omega arith
bits_where-below test (suc n) = one_more_below (bits_where test n) n (test n) (bits_where-below test n)

-- the bits of a number of n bits, with one more on top
top_low : (bits n i : ℕ) → i < n → bit_at (bits + 2 ^ n) i ≡ bit_at bits i
top_low bits n i below = ap (λ b. bit_at b i) (omega arith) ∙ bit_at_cat_low 1 n bits i below

top_high : (bits n i : ℕ) → bits < 2 ^ n → n ≤ i → bit_at (bits + 2 ^ n) i ≡ bit_at 1 (i - n)
top_high bits n i fits above = ap (λ b. bit_at b i) (omega arith) ∙ bit_at_cat_high 1 n bits i fits above

top_same : (bits n : ℕ) → bits < 2 ^ n → bit_at (bits + 2 ^ n) n ≡ 1
top_same bits n fits = let none : n - n ≡ 0 = omega arith in top_high bits n n fits (omega arith) ∙ ap (bit_at 1) none ∙ bit_at_lowest 1

top_above : (bits n i : ℕ) → bits < 2 ^ n → n < i → bit_at (bits + 2 ^ n) i ≡ 0
top_above bits n i fits above = top_high bits n i fits (omega arith) ∙ bit_at_above 1 1 (i - n) (omega arith) (omega arith)

set_as_bit : (n : ℕ) (i : ℕ) (b : Bool) → is_set n i ≡ b → bit_at n i ≡ cond b 1 0
set_as_bit n i true h = let small = bit_at-lt n i in grind (arith, nat_tests, small)
set_as_bit n i false h = let small = bit_at-lt n i in grind (arith, nat_tests, small)

-- numbers in whose masks the same bits are set have the same bits
pub same_bit : (n m i : ℕ) → is_set n i ≡ is_set m i → bit_at n i ≡ bit_at m i
same_bit n m i h = set_as_bit n i (is_set m i) h ∙ sym (set_as_bit m i (is_set m i) refl)

one_more_bit : (bits n i : ℕ) (test : ℕ → Bool) (b : Bool) → test n ≡ b → bits < 2 ^ n → is_set bits i ≡ (ltb i n && test i) →
    is_set (cond b (bits + 2 ^ n) bits) i ≡ (ltb i (suc n) && test i)
one_more_bit bits n i test true here fits e =
    let last : i ≡ n → test i ≡ true = λ h. ap test h ∙ here in
    let same : i ≡ n → bit_at (bits + 2 ^ n) i ≡ 1 = λ h. ap (bit_at (bits + 2 ^ n)) h ∙ top_same bits n fits in
    grind (arith, nat_tests, top_low bits n i, same, top_above bits n i fits, last)
one_more_bit bits n i test false here fits e =
    let last : i ≡ n → test i ≡ false = λ h. ap test h ∙ here in
    grind (arith, nat_tests, last)

pub is_set-bits_where : (test : ℕ → Bool) (n i : ℕ) → is_set (bits_where test n) i ≡ (ltb i n && test i)
unfolding bits_where
is_set-bits_where test zero i = grind (arith, nat_tests, bit_at-zero i)
is_set-bits_where test (suc n) i = one_more_bit (bits_where test n) n i test (test n) refl (bits_where-below test n) (is_set-bits_where test n i)

pub is_set-mask_of : (s : NodeSet) (i : ℕ) → is_set (mask_of s) i ≡ (ltb i 64 && contains s (suc i))
is_set-mask_of s i = is_set-bits_where (λ k. contains s (suc k)) 64 i

pub contains-nodes_of : (bits q : ℕ) → contains (nodes_of bits) q ≡ (ltb 0 q && (leb q 64 && is_set bits (q - 1)))
contains-nodes_of bits q = contains-nodes_where (is_set bits) 64 q

pub maskable_nodes : (bits : ℕ) → IsMaskable (nodes_of bits)
maskable_nodes bits k has = let there = contains-nodes_of bits k in grind (arith, nat_tests, there)

pub mask_below : (s : NodeSet) → mask_of s < 2 ^ 64
mask_below s = bits_where-below _ 64

-- a number of 64 bits whose bits are the members of a set is the set's mask
pub mask_is : (s : NodeSet) (bits : ℕ) → bits < 2 ^ 64 → ((i : ℕ) → i < 64 → is_set bits i ≡ contains s (suc i)) → bits ≡ mask_of s
mask_is s bits fits same =
    same_from_bits_below 64 bits (mask_of s) fits (mask_below s) (λ i below. same_bit _ _ i (same i below ∙ sym (is_set-mask_of s i ∙ grind (arith, nat_tests))))

pub mask_back : (bits : ℕ) → bits < 2 ^ 64 → mask_of (nodes_of bits) ≡ bits
mask_back bits fits = sym (mask_is (nodes_of bits) bits fits (λ i below. member i below (contains-nodes_of bits (suc i))))
  where
    member : (i : ℕ) → i < 64 → contains (nodes_of bits) (suc i) ≡ (ltb 0 (suc i) && (leb (suc i) 64 && is_set bits (suc i - 1))) → is_set bits i ≡ contains (nodes_of bits) (suc i)
    member i below there =
        let place : suc i - 1 ≡ i = omega arith in
        let same : is_set bits (suc i - 1) ≡ is_set bits i = ap (is_set bits) place in
        grind (arith, nat_tests, there, same)

pub nodes_back : (s : NodeSet) → IsMaskable s → nodes_of (mask_of s) ≡ s
nodes_back s maskable = same_nodes _ _ (λ q. contains-nodes_of (mask_of s) q ∙ member q (is_set-mask_of s (q - 1)) (maskable q))
  where
    member : (q : ℕ) → is_set (mask_of s) (q - 1) ≡ (ltb (q - 1) 64 && contains s (suc (q - 1))) → (contains s q ≡ true → (1 ≤ q) × (q ≤ 64)) → (ltb 0 q && (leb q 64 && is_set (mask_of s) (q - 1))) ≡ contains s q
    member q bit within =
        let back : 1 ≤ q → contains s (suc (q - 1)) ≡ contains s q = λ h. ap (contains s) (omega arith) in
        grind (arith, nat_tests, bit, within, back)

all_below_more : (n : ℕ) (xs : List ℕ) → AllByRecursion (λ y. y < n) xs → AllByRecursion (λ y. y < suc n) xs
all_below_more n [] h = tt
all_below_more n (x ∷ xs) h = (omega (arith, h.0), all_below_more n xs h.1)

all_below_push : (n : ℕ) (xs : List ℕ) → AllByRecursion (λ y. y < suc n) xs → AllByRecursion (λ y. y < suc (suc n)) (xs ++ suc n ∷ [])
all_below_push n [] h = (omega arith, tt)
all_below_push n (x ∷ xs) h = (omega (arith, h.0), all_below_push n xs h.1)

items_below : (test : ℕ → Bool) (n : ℕ) → AllByRecursion (λ y. y < suc n) (items (nodes_where test n))
unfolding nodes_where
items_below test zero = subst (AllByRecursion (λ y. y < 1)) (sym items-empty) tt
items_below test (suc n) =
    elim (test n) as (λ b. AllByRecursion (λ y. y < suc (suc n)) (items (cond b (insert (nodes_where test n) (suc n)) (nodes_where test n)))) [
      | true ↦ subst (AllByRecursion (λ y. y < suc (suc n))) (sym (items-insert_back (nodes_where test n) (suc n) (items_below test n))) (all_below_push n _ (items_below test n))
      | false ↦ all_below_more (suc n) _ (items_below test n)
    ]

-- a number whose bits are those of another but for one
module _ (bits more k : ℕ) (within : (1 ≤ k) × (k ≤ 64)) (others : (i : ℕ) → i < 64 → i ≢ k - 1 → is_set more i ≡ is_set bits i) where
  nodes_where_set : is_set more (k - 1) ≡ true → nodes_of more ≡ insert (nodes_of bits) k
  nodes_where_set here = same_nodes _ _ (λ q. grind (arith, nat_tests, contains-nodes_of bits q, contains-nodes_of more q, contains-insert (nodes_of bits) k q, others (q - 1), here))

  nodes_where_cleared : is_set more (k - 1) ≡ false → nodes_of more ≡ remove (nodes_of bits) k
  nodes_where_cleared here = same_nodes _ _ (λ q. grind (arith, nat_tests, contains-nodes_of bits q, contains-nodes_of more q, contains-remove (nodes_of bits) k q, others (q - 1), here))

-- what the code does with the bit of a node
module _ (bits k : ℕ) (within : (1 ≤ k) × (k ≤ 64)) where
  pub contains-bit : eqb (bit_and (bits / 2 ^ (k - 1)) 1) 1 ≡ contains (nodes_of bits) k
  contains-bit = grind (arith, nat_tests, shr_and_one bits (k - 1), contains-nodes_of bits k)

  pub nodes_of-with : nodes_of (bit_or bits (1 * 2 ^ (k - 1) % 2 ^ 64)) ≡ insert (nodes_of bits) k
  nodes_of-with =
      nodes_where_set bits _ k within (λ i below apart. ap (λ b. eqb b 1) (bit_at_set_other w64 bits (k - 1) (omega arith) i apart))
      (ap (λ b. eqb b 1) (bit_at_set_same w64 bits (k - 1) (omega arith)))

  pub nodes_of-without : nodes_of (bit_and bits (bit_not w64 (1 * 2 ^ (k - 1) % 2 ^ 64))) ≡ remove (nodes_of bits) k
  nodes_of-without =
      nodes_where_cleared bits _ k within (λ i below apart. ap (λ b. eqb b 1) (bit_at_clear_other w64 bits (k - 1) (omega arith) i below apart))
      (ap (λ b. eqb b 1) (bit_at_clear_same w64 bits (k - 1) (omega arith)))

  pub mask_back_with : bits < 2 ^ 64 → mask_of (nodes_of (bit_or bits (1 * 2 ^ (k - 1) % 2 ^ 64))) ≡ bit_or bits (1 * 2 ^ (k - 1) % 2 ^ 64)
  mask_back_with fits = mask_back _ (or_lt 64 bits _ fits (omega arith))

  pub mask_back_without : bits < 2 ^ 64 → mask_of (nodes_of (bit_and bits (bit_not w64 (1 * 2 ^ (k - 1) % 2 ^ 64)))) ≡ bit_and bits (bit_not w64 (1 * 2 ^ (k - 1) % 2 ^ 64))
  mask_back_without fits = mask_back _ (omega (arith, and_le_l bits (bit_not w64 (1 * 2 ^ (k - 1) % 2 ^ 64))))

-- 0 is the mask of the empty set alone
pub nodes_of-zero : nodes_of 0 ≡ empty
nodes_of-zero = same_nodes _ _ (λ q. grind (arith, nat_tests, contains-nodes_of 0 q, contains-empty q, bit_at-zero (q - 1)))

pub len-nodes_of-zero : (bits : ℕ) → bits < 2 ^ 64 → (bits ≡ 0) ↔ (len (nodes_of bits) ≡ 0)
len-nodes_of-zero bits fits = (
  λ none. ap (λ b. len (nodes_of b)) none ∙ ap len nodes_of-zero ∙ len-empty,
  λ none. sym (mask_back bits fits) ∙ ap mask_of (empty_of_len (nodes_of bits) none ∙ sym nodes_of-zero) ∙ mask_back 0 (lit< tt),
)

-- a set has as many members as its mask has ones
len-nodes_where : (test : ℕ → Bool) (n : ℕ) → len (nodes_where test n) ≡ ones (bits_where test n)
unfolding nodes_where bits_where ones
len-nodes_where test zero = len-empty
len-nodes_where test (suc n) =
    elim (test n) as (λ b. len (cond b (insert (nodes_where test n) (suc n)) (nodes_where test n)) ≡ ones (cond b (bits_where test n + 2 ^ n) (bits_where test n))) [
      | true ↦
          let one : ones (1 * 2 ^ n + bits_where test n) ≡ ones 1 + ones (bits_where test n) = ones_cat n 1 (bits_where test n) (bits_where-below test n) in
          let sum : bits_where test n + 2 ^ n ≡ 1 * 2 ^ n + bits_where test n = omega arith in
          let longer = len_of_items (insert (nodes_where test n) (suc n)) ∙ ap length (items-insert_back (nodes_where test n) (suc n) (items_below test n)) in
          grind (arith, longer, one, sum, len_of_items (nodes_where test n), length-append (items (nodes_where test n)) (suc n ∷ []), len-nodes_where test n)
      | false ↦ len-nodes_where test n
    ]

bits_where-is_set : (bits : ℕ) → bits < 2 ^ 64 → bits_where (is_set bits) 64 ≡ bits
bits_where-is_set bits fits =
    same_from_bits_below 64 _ bits (bits_where-below _ 64) fits (λ i below. same_bit _ bits i (is_set-bits_where (is_set bits) 64 i ∙ grind (arith, nat_tests)))

pub len-nodes_of : (bits : ℕ) → bits < 2 ^ 64 → ones bits ≡ len (nodes_of bits)
len-nodes_of bits fits = sym (len-nodes_where (is_set bits) 64 ∙ ap ones (bits_where-is_set bits fits))

-- the first member of a set is the lowest bit of its mask
first_found : (bits : ℕ) → bits < 2 ^ 64 → 0 < bits → first (nodes_of bits) ≡ Some (trailing_zeros w64 bits + 1)
first_found bits fits some =
    let place = trailing_zeros w64 bits in
    let lowest = bit_at-trailing_zeros w64 bits some fits in
    ap first_of (items_least (nodes_of bits) (place + 1)
    (grind (arith, nat_tests, contains-nodes_of bits (place + 1), lowest))
    (λ q has. grind (arith, nat_tests, contains-nodes_of bits q, lowest.2 (q - 1))))

no_first : (bits : ℕ) → bits ≡ 0 → first (nodes_of bits) ≡ None
no_first bits none = ap (λ b. first (nodes_of b)) none ∙ ap first nodes_of-zero ∙ ap first_of items-empty

no_ones : (bits : ℕ) → bits ≡ 0 → trailing_zeros w64 bits ≡ 64
no_ones bits none = ap (trailing_zeros w64) none ∙ trailing_of_zero 64

-- the node after the lowest zeros, where that is one
pub first-nodes_of : (bits : ℕ) (o : Option ℕ) → bits < 2 ^ 64 → IsSome o ↔ ((1 ≤ trailing_zeros w64 bits + 1) × (trailing_zeros w64 bits + 1 ≤ 64)) → IfSome o (λ id. id ≡ trailing_zeros w64 bits + 1) → o ≡ first (nodes_of bits)
first-nodes_of bits None fits within value = sym (no_first bits (empty (trailing_zeros w64 bits) refl (bits == 0) refl))
  where
    empty : (place : ℕ) → trailing_zeros w64 bits ≡ place → (b : Bool) → (bits == 0) ≡ b → bits ≡ 0
    empty place at true is = grind (arith, nat_tests)
    empty place at false is =
        let some : 0 < bits = grind (arith, nat_tests) in
        let lowest = bit_at-trailing_zeros w64 bits some fits in
        grind (arith, within.1 (omega arith, omega arith))
first-nodes_of bits (Some id) fits within value =
    let small = within.0 refl in
    let some : 0 < bits = grind (arith, no_ones bits) in
    ap Some value ∙ sym (first_found bits fits some)

-- a difference has the ones of the first number that the second lacks
bit_at-difference : (bits more i : ℕ) → more < 2 ^ 64 → i < 64 → bit_at (bit_and bits (bit_not w64 more)) i ≡ min (bit_at bits i) (1 - bit_at more i)
bit_at-difference bits more i fits below = bit_at_and bits (bit_not w64 more) i ∙ ap (min (bit_at bits i)) (bit_at_not w64 more i fits below)

module _ (bits more : ℕ) (fits : bits < 2 ^ 64) (fits_too : more < 2 ^ 64) where
  no_difference : bit_and bits (bit_not w64 more) ≡ 0 → (q : ℕ) → contains (nodes_of bits) q ≡ true → contains (nodes_of more) q ≡ true
  no_difference none q has =
      let within = maskable_nodes bits q has in
      let nothing : bit_at (bit_and bits (bit_not w64 more)) (q - 1) ≡ 0 = ap (λ b. bit_at b (q - 1)) none ∙ bit_at-zero (q - 1) in
      let lacks = bit_at-difference bits more (q - 1) fits_too (omega arith) in
      let small = bit_at-lt more (q - 1) in
      grind (arith, nat_tests, contains-nodes_of bits q, contains-nodes_of more q, nothing, lacks, small)

  no_bit : ((q : ℕ) → contains (nodes_of bits) q ≡ true → contains (nodes_of more) q ≡ true) → (i : ℕ) → i < 64 → bit_at (bit_and bits (bit_not w64 more)) i ≡ bit_at 0 i
  no_bit each i below =
      let place : i + 1 - 1 ≡ i = omega arith in
      let one = contains-nodes_of bits (i + 1) ∙ ap (λ j. ltb 0 (i + 1) && (leb (i + 1) 64 && is_set bits j)) place in
      let other = contains-nodes_of more (i + 1) ∙ ap (λ j. ltb 0 (i + 1) && (leb (i + 1) 64 && is_set more j)) place in
      let small = bit_at-lt bits i in
      grind (arith, nat_tests, one, other, each (i + 1), bit_at-difference bits more i fits_too below, bit_at-zero i, small)

  pub is_subset-nodes_of : eqb (bit_and bits (bit_not w64 more)) 0 ≡ is_subset (nodes_of bits) (nodes_of more)
  is_subset-nodes_of = same_test _ _
      (λ e. is_subset_by _ _ (no_difference (grind (arith, nat_tests))))
      (λ is. let none = same_from_bits_below 64 _ 0 (small_difference bits (bit_not w64 more) fits) (lit< tt) (no_bit (contains-subset _ _ is)) in grind (arith, nat_tests))
    where
      same_test : (a b : Bool) → (a ≡ true → b ≡ true) → (b ≡ true → a ≡ true) → a ≡ b
      same_test true b to from = sym (to refl)
      same_test false true to from = from refl
      same_test false false to from = refl

      small_difference : (a b : ℕ) → a < 2 ^ 64 → bit_and a b < 2 ^ 64
      small_difference a b small = omega (arith, and_le_l a b)

-- equal masks are those of equal sets
module _ (bits more : ℕ) (fits : bits < 2 ^ 64) (fits_too : more < 2 ^ 64) where
  pub same_mask : (bits ≡ more) ↔ (nodes_of bits ≡ nodes_of more)
  same_mask = (ap nodes_of, λ e. sym (mask_back bits fits) ∙ ap mask_of e ∙ mask_back more fits_too)

  pub same_mask_items : eqb bits more ≡ pointwise nat_eq (items (nodes_of bits)) (items (nodes_of more))
  same_mask_items =
      by_test (pointwise nat_eq (items (nodes_of bits)) (items (nodes_of more))) (λ b. eqb bits more ≡ b)
      (λ is. let e = same_mask.1 (sym (from_list-items (nodes_of bits)) ∙ ap from_list (same_text _ _ (sym is)) ∙ from_list-items (nodes_of more)) in grind (arith, nat_tests, e))
      (λ is. let apart : bits ≡ more → ⊥ = λ e. other_text _ _ (sym is) (ap (λ b. items (nodes_of b)) e) in grind (arith, nat_tests, apart))

-- what the code of a set's mask rests on
pub ruleset masks = (mask_back, maskable_nodes, contains-bit, nodes_of-with, nodes_of-without, mask_back_with, mask_back_without, nodes_of-zero, len-nodes_of-zero, len-nodes_of, is_subset-nodes_of, same_mask, same_mask_items)
