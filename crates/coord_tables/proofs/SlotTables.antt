-- The table of slots, by the value in each of them.
use Rattle.std.proofs.Common.{◌≡◌, ◌↔◌, ℕ, zero, suc, ◌+◌, ◌-◌, ◌<◌, ◌≤◌, true, false, ◌&&◌, List, [], ◌∷◌, Option, Some, None, length, cond, eqb, refl, sym, ap, ◌∙◌, arith}
use Rattle.std.specs.Ordering.{nat_cmp, eq_by_cmp}
use Rattle.std.specs.Cmp.{nat_cmp_total}
use Rattle.std.specs.FinMap.{nat_cmp-IsAntisymmetric}
use Rattle.std.specs.FinMap.Entries.{below_all, find, is_sorted}
use Rattle.std.proofs.lemmas.Bool.Decides.{nat_tests}
use Rattle.std.proofs.lemmas.Option.{slice_get_past}
use Rattle.coord_types.specs.Table.{get, insert, remove}
use Rattle.coord_types.proofs.Tables.{get-from_sorted, same_table}
use Rattle.coord_tables.specs.Slots.{slot_at, slot_entries, slot_table, IsSetAt}
use Rattle.coord_tables.proofs.Cases.{by_test}
use Rattle.coord_tables.proofs.Found.{get-set, get-unset}

module _ {X : Type 0} where
  below_slots : (xs : List (Option X)) (k n : ℕ) → k < n → below_all nat_cmp k (slot_entries n xs) ≡ true
  below_slots [] k n less = refl
  below_slots (None ∷ xs) k n less = below_slots xs k (suc n) (omega (arith, less))
  below_slots (Some x ∷ xs) k n less = grind (arith, less, below_slots xs k (suc n) (omega (arith, less)))

  pub sorted_slots : (xs : List (Option X)) (n : ℕ) → is_sorted nat_cmp (slot_entries n xs) ≡ true
  sorted_slots [] n = refl
  sorted_slots (None ∷ xs) n = sorted_slots xs (suc n)
  sorted_slots (Some x ∷ xs) n = (λ i. below_slots xs n (suc n) (omega arith) i && is_sorted nat_cmp (slot_entries (suc n) xs)) ∙ sorted_slots xs (suc n)

  -- nothing stands below the first key
  find_low : (xs : List (Option X)) (n q : ℕ) → q < n → find nat_cmp q (slot_entries n xs) ≡ None
  find_low [] n q less = refl
  find_low (None ∷ xs) n q less = find_low xs (suc n) q (omega (arith, less))
  find_low (Some x ∷ xs) n q less = grind (arith, less, find_low xs (suc n) q (omega (arith, less)))

  find_slot : (xs : List (Option X)) (n i : ℕ) → find nat_cmp (n + i) (slot_entries n xs) ≡ slot_at xs i
  find_slot [] n i = refl
  find_slot (None ∷ xs) n zero = find_low xs (suc n) (n + 0) (omega arith)
  find_slot (None ∷ xs) n (suc i) = let same : n + suc i ≡ suc n + i = omega arith in ap (λ q. find nat_cmp q (slot_entries (suc n) xs)) same ∙ find_slot xs (suc n) i
  find_slot (Some x ∷ xs) n zero = grind arith
  find_slot (Some x ∷ xs) n (suc i) =
      let apart : eq_by_cmp nat_cmp (n + suc i) n ≡ false = grind (arith, nat_tests) in
      let same : n + suc i ≡ suc n + i = omega arith in
      ap (λ b. cond b (Some x) (find nat_cmp (n + suc i) (slot_entries (suc n) xs))) apart ∙ ap (λ q. find nat_cmp q (slot_entries (suc n) xs)) same ∙ find_slot xs (suc n) i

  get_next : (xs : List (Option X)) (i : ℕ) → get (slot_table xs) (suc i) ≡ slot_at xs i
  get_next xs i =
      let same : suc i ≡ 1 + i = omega arith in
      get-from_sorted nat_cmp_total (slot_entries 1 xs) (suc i) (sorted_slots xs 1) ∙ ap (λ q. find nat_cmp q (slot_entries 1 xs)) same ∙ find_slot xs 1 i

  -- the value at a key
  pub get_slot : (xs : List (Option X)) (k : ℕ) → 1 ≤ k → get (slot_table xs) k ≡ slot_at xs (k - 1)
  get_slot xs k least = let same : k ≡ suc (k - 1) = omega (arith, least) in ap (get (slot_table xs)) same ∙ get_next xs (k - 1)

  get_none : (xs : List (Option X)) → get (slot_table xs) 0 ≡ None
  get_none xs = get-from_sorted nat_cmp_total (slot_entries 1 xs) 0 (sorted_slots xs 1) ∙ find_low xs 1 0 (omega arith)

  pub slots_insert : (xs ys : List (Option X)) (k : ℕ) (x : X) → 1 ≤ k → IsSetAt k (Some x) ys xs → slot_table ys ≡ insert (slot_table xs) k x
  slots_insert xs ys k x least is = same_table nat_cmp-IsAntisymmetric (slot_table ys) (insert (slot_table xs) k x) each
    where
      each : (q : ℕ) → get (slot_table ys) q ≡ get (insert (slot_table xs) k x) q
      each zero =
          let apart : eqb 0 k ≡ false = grind (arith, nat_tests, least) in
          get_none ys ∙ sym (get-set (slot_table xs) k x 0 ∙ ap (λ b. cond b (Some x) (get (slot_table xs) 0)) apart ∙ get_none xs)
      each (suc i) =
          let same : eqb i (k - 1) ≡ eqb (suc i) k = grind (arith, nat_tests, least) in
          get_next ys i ∙ is i
          ∙ sym (get-set (slot_table xs) k x (suc i) ∙ ap (λ b. cond b (Some x) (get (slot_table xs) (suc i))) (sym same) ∙ ap (cond (eqb i (k - 1)) (Some x)) (get_next xs i))

  pub slots_remove : (xs ys : List (Option X)) (k : ℕ) → 1 ≤ k → IsSetAt k None ys xs → slot_table ys ≡ remove (slot_table xs) k
  slots_remove xs ys k least is = same_table nat_cmp-IsAntisymmetric (slot_table ys) (remove (slot_table xs) k) each
    where
      each : (q : ℕ) → get (slot_table ys) q ≡ get (remove (slot_table xs) k) q
      each zero =
          let apart : eqb 0 k ≡ false = grind (arith, nat_tests, least) in
          get_none ys ∙ sym (get-unset (slot_table xs) k 0 ∙ ap (λ b. cond b None (get (slot_table xs) 0)) apart ∙ get_none xs)
      each (suc i) =
          let same : eqb i (k - 1) ≡ eqb (suc i) k = grind (arith, nat_tests, least) in
          get_next ys i ∙ is i
          ∙ sym (get-unset (slot_table xs) k (suc i) ∙ ap (λ b. cond b None (get (slot_table xs) (suc i))) (sym same) ∙ ap (cond (eqb i (k - 1)) None) (get_next xs i))

  -- tables are the same where their slots are
  pub slots_same : (xs ys : List (Option X)) → ((i : ℕ) → slot_at xs i ≡ slot_at ys i) ↔ (slot_table xs ≡ slot_table ys)
  slots_same xs ys = (
    λ same. same_table nat_cmp-IsAntisymmetric (slot_table xs) (slot_table ys) (λ q. each same q),
    λ e i. sym (get_next xs i) ∙ ap (λ m. get m (suc i)) e ∙ get_next ys i,
  )
    where
      each : ((i : ℕ) → slot_at xs i ≡ slot_at ys i) → (q : ℕ) → get (slot_table xs) q ≡ get (slot_table ys) q
      each same zero = get_none xs ∙ sym (get_none ys)
      each same (suc i) = get_next xs i ∙ same i ∙ sym (get_next ys i)

  -- after the last slots of both stands nothing
  pub all_slots : (xs ys : List (Option X)) (n : ℕ) → length xs ≤ n → length ys ≤ n → ((i : ℕ) → i < n → slot_at xs i ≡ slot_at ys i) → (i : ℕ) → slot_at xs i ≡ slot_at ys i
  all_slots xs ys n long also each i = grind (arith, by_test, slice_get_past)
