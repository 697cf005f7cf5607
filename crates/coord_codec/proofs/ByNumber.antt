-- A table's entries are those that are met by number.
use Rattle.std.proofs.Common.{◌≡◌, ℕ, zero, suc, ◌+◌, ◌-◌, ◌<◌, ◌≤◌, true, false, ◌&&◌, List, [], ◌∷◌, ◌++◌, Option, Some, None, map, cond, eqb, refl, sym, ap, ◌∙◌, append_assoc, append-nil, length, subst, arith, T, Equal}
use Rattle.std.specs.Cmp.{nat_cmp_total}
use Rattle.std.specs.Option.{option_map}
use Rattle.std.specs.List.{flat_map, range_with_len}
use Rattle.std.specs.Ordering.{eq_by_cmp, is_lt, nat_cmp}
use Rattle.std.specs.FinMap.Entries.{below_all, find, is_sorted, same_entries}
use Rattle.std.proofs.lemmas.Bool.Decides.{nat_tests}
use Rattle.std.proofs.lemmas.Grind.{flat_map-append}
use Rattle.std.proofs.lemmas.List.{length-map}
use Rattle.std.proofs.lemmas.List.Folds.{flat_map-map}
use Rattle.coord_types.specs.Table.{Table, entries, get, len}
use Rattle.coord_types.specs.Numbers.{numbers}
use Rattle.coord_types.proofs.Numbers.{no_more_numbers, numbers_next}
use Rattle.coord_types.proofs.Tables.{get-entries, len-entries}
use Rattle.coord_world.proofs.Facade.{by_test}
use Rattle.coord_codec.specs.ByNumber.{HasKeysTo, entry_at, one_or_none}

module _ {X : Type 0} (f : ℕ → Option X) where
  abbrev entry : ℕ → Option X → List (ℕ × X)
  entry u o = one_or_none (option_map (λ x. (u, x)) o)

  abbrev listed : ℕ → ℕ → List (ℕ × X)
  listed a n = flat_map (λ u. entry u (f u)) (range_with_len a n)

  below_listed : (k a n : ℕ) → k < a → below_all nat_cmp k (listed a n) ≡ true
  below_listed k a zero less = refl
  below_listed k a (suc n) less = first (f a) (below_listed k (a + 1) n (omega (arith, less)))
    where
      first : (o : Option X) → below_all nat_cmp k (listed (a + 1) n) ≡ true → below_all nat_cmp k (entry a o ++ listed (a + 1) n) ≡ true
      first None rest = rest
      first (Some x) rest = let lt : is_lt (nat_cmp k a) ≡ true = grind (arith, nat_tests) in λ i. lt i && rest i

  sorted_listed : (a n : ℕ) → is_sorted nat_cmp (listed a n) ≡ true
  sorted_listed a zero = refl
  sorted_listed a (suc n) = first (f a) (sorted_listed (a + 1) n)
    where
      first : (o : Option X) → is_sorted nat_cmp (listed (a + 1) n) ≡ true → is_sorted nat_cmp (entry a o ++ listed (a + 1) n) ≡ true
      first None rest = rest
      first (Some x) rest = λ i. below_listed a (a + 1) n (omega arith) i && rest i

  found_other : (q a : ℕ) (o : Option X) (es : List (ℕ × X)) → eqb q a ≡ false → find nat_cmp q (entry a o ++ es) ≡ find nat_cmp q es
  found_other q a None es apart = refl
  found_other q a (Some x) es apart = let tied : eq_by_cmp nat_cmp q a ≡ false = grind (arith, nat_tests) in ap (λ b. cond b (Some x) (find nat_cmp q es)) tied

  found_here : (q : ℕ) (o : Option X) (es : List (ℕ × X)) → find nat_cmp q es ≡ None → find nat_cmp q (entry q o ++ es) ≡ o
  found_here q None es none = none
  found_here q (Some x) es none = let tied : eq_by_cmp nat_cmp q q ≡ true = grind (arith, nat_tests) in ap (λ b. cond b (Some x) (find nat_cmp q es)) tied

  found_low : (q a n : ℕ) → q < a → find nat_cmp q (listed a n) ≡ None
  found_low q a zero less = refl
  found_low q a (suc n) less = let apart : eqb q a ≡ false = grind (arith, nat_tests) in found_other q a (f a) (listed (a + 1) n) apart ∙ found_low q (a + 1) n (omega (arith, less))

  found_past : (q a n : ℕ) → a + n ≤ q → find nat_cmp q (listed a n) ≡ None
  found_past q a zero past = refl
  found_past q a (suc n) past = let apart : eqb q a ≡ false = grind (arith, nat_tests) in found_other q a (f a) (listed (a + 1) n) apart ∙ found_past q (a + 1) n (omega (arith, past))

  found_in : (q a n : ℕ) → a ≤ q → q < a + n → find nat_cmp q (listed a n) ≡ f q
  found_in q a zero least most = absurd (omega (arith, least, most))
  found_in q a (suc n) least most = by_test (eqb q a) (λ _. find nat_cmp q (listed a (suc n)) ≡ f q)
      (λ t. let same : a ≡ q = grind (arith, nat_tests) in
      ap (λ k. find nat_cmp q (entry k (f k) ++ listed (a + 1) n)) same ∙ found_here q (f q) (listed (a + 1) n) (found_low q (a + 1) n (omega (arith, same))))
      (λ t. let above : a + 1 ≤ q = grind (arith, nat_tests, least) in found_other q a (f a) (listed (a + 1) n) t ∙ found_in q (a + 1) n above (omega (arith, most)))

same_key : (x y : ℕ) → nat_cmp x y ≡ Equal → x ≡ y
same_key x y tied = grind (arith, nat_tests, tied)

module _ {X : Type 0} (m : Table nat_cmp_total X) (n : ℕ) (within : HasKeysTo n m) where
  outside : (q : ℕ) → (1 ≤ q → q ≤ n → ⊥) → get m q ≡ None
  outside q out = grind arith

  each : (q : ℕ) → find nat_cmp q (listed (get m) 1 n) ≡ get m q
  each q = grind (arith, by_test, found_low, outside, found_in, found_past)

  entries_listed : entries m ≡ listed (get m) 1 n
  entries_listed = same_entries nat_cmp nat_cmp_total same_key _ _ m.sorted (subst T (sym (sorted_listed (get m) 1 n)) tt) (λ q. sym (get-entries m q) ∙ sym (each q))

  pub by_number : flat_map (entry_at m) (numbers n 1) ≡ entries m
  unfolding numbers
  by_number = let many : n + 1 - 1 ≡ n = omega arith in ap (λ k. flat_map (entry_at m) (range_with_len 1 k)) many ∙ sym entries_listed

-- a table is written number by number: after its length stand the texts of its entries
module _ {X : Type 0} (m : Table nat_cmp_total X) (most : ℕ) (text : ℕ × X → List ℕ) where
  abbrev written : List ℕ → List ℕ
  written before = before ++ len m ∷ flat_map text (entries m)

  abbrev from : ℕ → List ℕ
  from u = flat_map text (flat_map (entry_at m) (numbers most u))

  -- what the numbers from this one on give is missing
  abbrev pub IsWrittenTo : ℕ → List ℕ → List ℕ → Type 0
  IsWrittenTo u before out = out ++ from u ≡ written before

  pub none_written : HasKeysTo most m → (before out : List ℕ) (n : ℕ) → out ≡ before ++ n ∷ [] → n ≡ len m → IsWrittenTo 1 before out
  none_written within before out n begun long = (λ i. begun i ++ flat_map text (by_number m most within i)) ∙ append_assoc before (n ∷ []) (flat_map text (entries m))
      ∙ ap (λ k. before ++ k ∷ flat_map text (entries m)) long

  pub one_written : (u : ℕ) (before out next : List ℕ) → u ≤ most → next ≡ out ++ flat_map text (entry_at m u) → IsWrittenTo u before out → IsWrittenTo (u + 1) before next
  one_written u before out next le more so_far = ap (λ o. o ++ from (u + 1)) more ∙ append_assoc out (flat_map text (entry_at m u)) (from (u + 1))
      ∙ ap (λ t. out ++ t) (sym (flat_map-append text (entry_at m u) (flat_map (entry_at m) (numbers most (u + 1)))) ∙ ap (λ us. flat_map text (flat_map (entry_at m) us)) (sym (numbers_next most u le))) ∙ so_far

  pub all_written : (u : ℕ) (before out : List ℕ) → most < u → IsWrittenTo u before out → out ≡ written before
  all_written u before out past so_far = sym (append-nil out) ∙ ap (λ us. out ++ flat_map text (flat_map (entry_at m) us)) (sym (no_more_numbers most u past)) ∙ so_far

-- the bytes of each entry are those of each row
pub rows_text : {X A : Type 0} (m : Table nat_cmp_total X) (row : ℕ × X → A) (text : A → List ℕ) → len m ∷ flat_map (λ e. text (row e)) (entries m) ≡ length (map row (entries m)) ∷ flat_map text (map row (entries m))
rows_text m row text = grind (arith, len-entries, length-map, flat_map-map)
