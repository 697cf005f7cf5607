-- A table of places is that of a list, and stays so if a value is replaced by another.
use Rattle.std.proofs.Common.{◌≡◌, ◌≢◌, ℕ, zero, suc, ◌+◌, ◌<◌, true, false, List, [], ◌∷◌, ◌++◌, Option, Some, None, length, take, set, slice_get, slice_index, cond, eqb, refl, sym, ap, ◌∙◌, arith, IsSome, get_or-set_same, get_or-set_other}
use Rattle.std.proofs.lemmas.Bool.Decides.{nat_tests}
use Rattle.std.proofs.lemmas.List.{length-set, take_more}
use Rattle.std.proofs.lemmas.Option.{slice_get_within, get_or_from_slice_get}
use Rattle.std.specs.Ordering.{eq_by_cmp, is_lt, ordering_reverse}
use Rattle.std.specs.Cmp.{tied_itself}
use Rattle.std.specs.FinMap.Entries.{find, find-put, is_sorted, put}
use Rattle.coord_types.specs.Table.{get, from_sorted, insert}
use Rattle.coord_types.proofs.Tables.{get-from_sorted}
use Rattle.coord_types.specs.StepRanges.{IsNode}
use Rattle.coord_tables.specs.Pairs.{pair_cmp, pair_cmp_total}
use Rattle.coord_tables.specs.Places.{pair_place, noted_place, HasKeyAt, IsIndexOfFirst, IsIndexed}
use Rattle.coord_tables.specs.Place.{IsPlaceOf}
use Rattle.coord_tables.proofs.Cases.{both, by_test}
use Rattle.coord_tables.proofs.SortedEntries.{below_each, found, is_less, sorted-put, from_sorted-put}
use Rattle.coord_tables.proofs.Found.{same_pair}
use Rattle.coord_tables.proofs.PutAtPlace.{put_here}

abbrev pub Entries : Type 0 → Type 0
Entries X = List ((ℕ × ℕ) × X)

pair_within : (u v : ℕ) → IsNode u → IsNode v → pair_place u v < 4096
pair_within u v p q = omega (arith, p.0, p.1, q.0, q.1)

-- different pairs of nodes have different places
first_same : (u v a b : ℕ) → IsNode u → IsNode v → IsNode a → IsNode b → pair_place u v ≡ pair_place a b → u ≡ a
first_same u v a b p q r s e = omega (arith, p.0, p.1, q.0, q.1, r.0, r.1, s.0, s.1, e)

second_same : (u v a b : ℕ) → IsNode u → IsNode v → IsNode a → IsNode b → pair_place u v ≡ pair_place a b → v ≡ b
second_same u v a b p q r s e = omega (arith, p.0, p.1, q.0, q.1, r.0, r.1, s.0, s.1, e)

none_among : {X : Type 0} (es : Entries X) (k q : ℕ × ℕ) (x : X) → find pair_cmp q es ≡ None → eq_by_cmp pair_cmp q k ≡ false → find pair_cmp q (es ++ (k, x) ∷ []) ≡ None
none_among [] k q x none apart = ap (λ b. cond b (Some x) None) apart
none_among (e ∷ es) k q x none apart =
    by_test (eq_by_cmp pair_cmp q e.0) (λ b. cond b (Some e.1) (find pair_cmp q es) ≡ None → cond b (Some e.1) (find pair_cmp q (es ++ (k, x) ∷ [])) ≡ None)
    (λ _ is. cc) (λ _ is. none_among es k q x is apart) none

other_pair : (u v a b : ℕ) → pair_place u v ≢ pair_place a b → eq_by_cmp pair_cmp (u, v) (a, b) ≡ false
other_pair u v a b apart = grind (arith, by_test)

-- the next entry is noted
pub one_noted : {X : Type 0} (n : ℕ) (places : List ℕ) (es : Entries X) (a b : ℕ) (x : X) → IsNode a → IsNode b → slice_get es n ≡ Some ((a, b), x) → IsIndexOfFirst n places es →
    IsIndexOfFirst (n + 1) (set places (pair_place a b) (n + 1)) es
one_noted {X} n places es a b x is_a is_b here index = record {
  long = length-set places (pair_place a b) (n + 1) ∙ index.long;
  there = λ u v i p q is. by_test (eqb (pair_place u v) (pair_place a b)) (λ _. HasKeyAt es i (u, v))
      (λ t. let same : pair_place u v ≡ pair_place a b = grind (arith, nat_tests) in
      let put = get_or-set_same places (pair_place a b) (n + 1) 0 within in
      let at : n + 1 ≡ suc i = sym put ∙ ap (λ k. slice_index (set places (pair_place a b) (n + 1)) k) (sym same) ∙ is in
      let there : n ≡ i = omega (arith, at) in
      (x, ap (slice_get es) (sym there) ∙ here ∙ (λ j. Some ((sym (first_same u v a b p q is_a is_b same) j, sym (second_same u v a b p q is_a is_b same) j), x))))
      (λ f. let apart : pair_place u v ≢ pair_place a b = λ e. grind (arith, nat_tests, e, f) in
      index.there u v i p q (sym (get_or-set_other places (pair_place a b) (pair_place u v) (n + 1) 0 apart) ∙ is));
  absent = λ u v p q is. by_test (eqb (pair_place u v) (pair_place a b)) (λ _. find pair_cmp (u, v) (take (n + 1) es) ≡ None)
      (λ t. let same : pair_place u v ≡ pair_place a b = grind (arith, nat_tests) in
      let put = get_or-set_same places (pair_place a b) (n + 1) 0 within in
      let at : n + 1 ≡ 0 = sym put ∙ ap (λ k. slice_index (set places (pair_place a b) (n + 1)) k) (sym same) ∙ is in
      absurd (omega (arith, at)))
      (λ f. let apart : pair_place u v ≢ pair_place a b = λ e. grind (arith, nat_tests, e, f) in
      let before = index.absent u v p q (sym (get_or-set_other places (pair_place a b) (pair_place u v) (n + 1) 0 apart) ∙ is) in
      ap (find pair_cmp (u, v)) (take_more es n ((a, b), x) (slice_get_within es n _ here) ∙ ap (λ (e : (ℕ × ℕ) × X). take n es ++ e ∷ []) (get_or_from_slice_get es n ((a, b), x) ((a, b), x) here))
      ∙ none_among (take n es) (a, b) (u, v) x before (other_pair u v a b apart));
}
  where
    within : pair_place a b < length places
    within = omega (arith, pair_within a b is_a is_b, index.long)

pub noted : (n i : ℕ) → noted_place n ≡ Some i → n ≡ suc i
noted zero i is = cc
noted (suc n) i is = let same : n ≡ i = cc in ap suc same

pub none_noted : (n : ℕ) → noted_place n ≡ None → n ≡ 0
none_noted zero is = refl
none_noted (suc n) is = cc

module _ {X : Type 0} (es : Entries X) (places : List ℕ) (indexed : IsIndexed es places) where
  module _ (u v : ℕ) (is_u : IsNode u) (is_v : IsNode v) where
    -- the entry of a pair
    pub at_noted : (i : ℕ) → noted_place (slice_index places (pair_place u v)) ≡ Some i → HasKeyAt es i (u, v)
    at_noted i is = indexed.index.there u v i is_u is_v (noted _ i is)

    pub nothing_noted : noted_place (slice_index places (pair_place u v)) ≡ None → get {o = pair_cmp_total} (from_sorted es) (u, v) ≡ None
    nothing_noted is = get-from_sorted pair_cmp_total es (u, v) indexed.sorted ∙ indexed.index.absent u v is_u is_v (none_noted _ is)

  rises : (xs : Entries X) (j i : ℕ) (e f : (ℕ × ℕ) × X) → is_sorted pair_cmp xs ≡ true → j < i → slice_get xs j ≡ Some e → slice_get xs i ≡ Some f → is_lt (pair_cmp e.0 f.0) ≡ true
  rises [] j i e f sorted less here there = cc
  rises (x ∷ xs) zero zero e f sorted less here there = absurd (omega (arith, less))
  rises (x ∷ xs) zero (suc i) e f sorted less here there =
      let same : x ≡ e = cc in
      ap (λ (z : (ℕ × ℕ) × X). is_lt (pair_cmp z.0 f.0)) (sym same) ∙ below_each pair_cmp pair_cmp_total x.0 xs i f (both _ _ sorted).0 there
  rises (x ∷ xs) (suc j) zero e f sorted less here there = absurd (omega (arith, less))
  rises (x ∷ xs) (suc j) (suc i) e f sorted less here there = rises xs j i e f (both _ _ sorted).1 (omega (arith, less)) here there

  module _ (k : ℕ × ℕ) (i : ℕ) (x : X) (at : HasKeyAt es i k) where
    placed : IsPlaceOf pair_cmp es k i
    placed = record {
      within = slice_get_within es i _ at.1;
      lesser_before = λ j e before there. pair_cmp_total.antisymm k e.0 ∙ ap ordering_reverse (is_less _ (rises es j i e (k, at.0) indexed.sorted before there at.1));
      here = λ e there. let same : e ≡ (k, at.0) = cc in ap (λ (z : (ℕ × ℕ) × X). pair_cmp k z.0) same ∙ tied_itself pair_cmp_total k;
    }

    put_there : set es i (k, x) ≡ put pair_cmp k x es
    put_there = put_here pair_cmp k x es i (k, at.0) placed at.1

    key_kept : (xs : Entries X) (j n : ℕ) (q : ℕ × ℕ) → HasKeyAt xs j k → HasKeyAt xs n q → HasKeyAt (set xs j (k, x)) n q
    key_kept [] j n q here there = let none = here.1 in cc
    key_kept (y ∷ ys) zero zero q here there =
        let same : y ≡ (k, here.0) = cc in
        let also : y ≡ (q, there.0) = cc in
        let keys : k ≡ q = ap (λ (z : (ℕ × ℕ) × X). z.0) (sym same ∙ also) in
        (x, ap (λ z. Some (z, x)) keys)
    key_kept (y ∷ ys) zero (suc n) q here there = there
    key_kept (y ∷ ys) (suc j) zero q here there = there
    key_kept (y ∷ ys) (suc j) (suc n) q here there = key_kept ys j n q here there

    still_absent : (q : ℕ × ℕ) → find pair_cmp q es ≡ None → find pair_cmp q (set es i (k, x)) ≡ None
    still_absent q none = ap (find pair_cmp q) put_there ∙ find-put pair_cmp pair_cmp_total q k x es
        ∙ by_test (eq_by_cmp pair_cmp q k) (λ b. cond b (Some x) (find pair_cmp q es) ≡ None)
        (λ tied. let there = found pair_cmp pair_cmp_total es i (k, at.0) indexed.sorted at.1 in let away = ap (λ z. find pair_cmp z es) (same_pair q k tied) in cc) (λ _. none)

    -- a value in place of another
    pub still_indexed : IsIndexed (set es i (k, x)) places
    still_indexed = record {
      sorted = ap (is_sorted pair_cmp) put_there ∙ sorted-put pair_cmp_total es k x indexed.sorted;
      index = record {
        most = indexed.index.most;
        long = indexed.index.long;
        there = λ u v n p q is. key_kept es i n (u, v) at (indexed.index.there u v n p q is);
        absent = λ u v p q is. still_absent (u, v) (indexed.index.absent u v p q is);
      };
    }

    pub is_put : from_sorted {o = pair_cmp_total} (set es i (k, x)) ≡ insert (from_sorted es) k x
    is_put = ap from_sorted put_there ∙ from_sorted-put pair_cmp_total es k x indexed.sorted

-- a present entry isn't absent
pub not_absent : {A X : Type 0} (o : Option X) → o ≡ None → IsSome o → A
not_absent o none some = cc
