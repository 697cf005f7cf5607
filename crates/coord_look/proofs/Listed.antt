-- Elements of a list, of the entries of a table, and of lists made of them.
use Rattle.std.proofs.Common.{◌≡◌, ◌⊎◌, ℕ, ◌&&◌, Bool, false, true, List, [], ◌∷◌, ◌++◌, Option, Some, None, Ordering, cond, map, flat_map, refl, sym, ap, subst, ◌∙◌, inl, inr}
use Rattle.std.specs.Cmp.{IsTotalOrder}
use Rattle.std.specs.FinMap.Entries.{below_all, find, is_sorted}
use Rattle.std.specs.List.{AllByRecursion, list_all}
use Rattle.std.specs.Ordering.{eq_by_cmp, is_lt}
use Rattle.coord_types.specs.Table.{Table, entries, get}
use Rattle.coord_types.proofs.Tables.{get-entries}
use Rattle.coord_tables.proofs.KeyedLists.{each_entry, find-below}
use Rattle.coord_tables.proofs.SortedEntries.{is_true}
use Rattle.coord_member.specs.NoMix.{IsOneOf}
use Rattle.coord_look.specs.Shown.{AllDistinct}

-- ---- lists

pub one_all : {A : Type 0} (P : A → Type 0) (xs : List A) (x : A) → AllByRecursion P xs → IsOneOf x xs → P x
one_all P [] x all none = absurd none
one_all P (y ∷ xs) x all (inl same) = subst P (sym same) all.0
one_all P (y ∷ xs) x all (inr more) = one_all P xs x all.1 more

pub one_mapped : {A B : Type 0} (f : A → B) (xs : List A) (x : A) → IsOneOf x xs → IsOneOf (f x) (map f xs)
one_mapped f [] x none = absurd none
one_mapped f (y ∷ xs) x (inl same) = inl (ap f same)
one_mapped f (y ∷ xs) x (inr more) = inr (one_mapped f xs x more)

-- what one of a list is made of
pub record IsMadeOf {A B : Type 0} (f : A → B) (xs : List A) (y : B) : Type 0 where
  pub of : A
  pub one : IsOneOf of xs
  pub same : y ≡ f of

pub mapped_one : {A B : Type 0} (f : A → B) (xs : List A) (y : B) → IsOneOf y (map f xs) → IsMadeOf f xs y
mapped_one f [] y none = absurd none
mapped_one f (x ∷ xs) y (inl same) = record { of = x; one = inl refl; same = same }
mapped_one f (x ∷ xs) y (inr more) = let rest = mapped_one f xs y more in record { of = rest.of; one = inr rest.one; same = rest.same }

pub one_before : {A : Type 0} (x : A) (xs ys : List A) → IsOneOf x xs → IsOneOf x (xs ++ ys)
one_before x [] ys none = absurd none
one_before x (y ∷ xs) ys (inl same) = inl same
one_before x (y ∷ xs) ys (inr more) = inr (one_before x xs ys more)

pub one_after : {A : Type 0} (x : A) (xs ys : List A) → IsOneOf x ys → IsOneOf x (xs ++ ys)
one_after x [] ys one = one
one_after x (y ∷ xs) ys one = inr (one_after x xs ys one)

pub one_of_both : {A : Type 0} (x : A) (xs ys : List A) → IsOneOf x (xs ++ ys) → IsOneOf x xs ⊎ IsOneOf x ys
one_of_both x [] ys one = inr one
one_of_both x (y ∷ xs) ys (inl same) = inl (inl same)
one_of_both x (y ∷ xs) ys (inr more) = elim (one_of_both x xs ys more) [ inl k ↦ inl (inr k) | inr k ↦ inr k ]

-- one of the lists that are put after one another
pub record IsAmongOf {A B : Type 0} (f : A → List B) (xs : List A) (y : B) : Type 0 where
  pub of : A
  pub one : IsOneOf of xs
  pub among : IsOneOf y (f of)

pub flat_one : {A B : Type 0} (f : A → List B) (xs : List A) (y : B) → IsOneOf y (flat_map f xs) → IsAmongOf f xs y
flat_one f [] y none = absurd none
flat_one f (x ∷ xs) y one =
    elim (one_of_both y (f x) (flat_map f xs) one) [
      | inl here ↦ record { of = x; one = inl refl; among = here }
      | inr more ↦ let rest = flat_one f xs y more in record { of = rest.of; one = inr rest.one; among = rest.among }
    ]

pub one_flat : {A B : Type 0} (f : A → List B) (xs : List A) (x : A) (y : B) → IsOneOf x xs → IsOneOf y (f x) → IsOneOf y (flat_map f xs)
one_flat f [] x y none among = absurd none
one_flat f (z ∷ xs) x y (inl same) among = one_before y (f z) (flat_map f xs) (subst (λ v. IsOneOf y (f v)) same among)
one_flat f (z ∷ xs) x y (inr more) among = one_after y (f z) (flat_map f xs) (one_flat f xs x y more among)

pub flat-mapped : {A B C : Type 0} (f : B → List C) (g : A → B) (xs : List A) → flat_map f (map g xs) ≡ flat_map (λ x. f (g x)) xs
flat-mapped f g [] = refl
flat-mapped f g (x ∷ xs) = ap (λ ys. f (g x) ++ ys) (flat-mapped f g xs)

both : (a b : Bool) → (a && b) ≡ true → (a ≡ true) × (b ≡ true)
both true b e = (refl, e)
both false b e = absurd (cc)

pub each_passes : {A : Type 0} (p : A → Bool) (xs : List A) (x : A) → list_all p xs ≡ true → IsOneOf x xs → p x ≡ true
each_passes p [] x all none = absurd none
each_passes p (y ∷ xs) x all (inl same) = ap p same ∙ (both (p y) (list_all p xs) all).0
each_passes p (y ∷ xs) x all (inr more) = each_passes p xs x (both (p y) (list_all p xs) all).1 more

pub all_pass : {A : Type 0} (p : A → Bool) (xs : List A) → ((x : A) → IsOneOf x xs → p x ≡ true) → list_all p xs ≡ true
all_pass p [] each = refl
all_pass p (x ∷ xs) each = ap (λ b. b && list_all p xs) (each x (inl refl)) ∙ all_pass p xs (λ y one. each y (inr one))

pub once_both : {A : Type 0} (xs ys : List A) → AllDistinct xs → AllDistinct ys → ((x : A) → IsOneOf x xs → IsOneOf x ys → ⊥) → AllDistinct (xs ++ ys)
once_both [] ys first second apart = second
once_both (x ∷ xs) ys first second apart =
    (λ one. elim (one_of_both x xs ys one) [ inl k ↦ first.0 k | inr k ↦ apart x (inl refl) k ], once_both xs ys first.1 second (λ y one two. apart y (inr one) two))

-- ---- the entries of a table

module _ {K X : Type 0} {R : K → K → Ordering} (o : IsTotalOrder R) (same : (p q : K) → eq_by_cmp R p q ≡ true → p ≡ q) where
  -- each element of a list in order is found there
  pub stands_found : (es : List (K × X)) (e : K × X) → is_sorted R es ≡ true → IsOneOf e es → find R e.0 es ≡ Some e.1
  stands_found es e sorted one = one_all (λ e. find R e.0 es ≡ Some e.1) es e (each_entry o same (λ e. find R e.0 es ≡ Some e.1) es sorted (λ k x is. is)) one

  pub stands : (m : Table o X) (e : K × X) → IsOneOf e (entries m) → get m e.0 ≡ Some e.1
  stands m e one = get-entries m e.0 ∙ stands_found (entries m) e (is_true _ m.sorted) one

  found_stands : (es : List (K × X)) (q : K) (x : X) → find R q es ≡ Some x → IsOneOf (q, x) es
  found_stands [] q x e = absurd (cc)
  found_stands (y ∷ es) q x e = of (eq_by_cmp R q y.0) refl e (found_stands es q x)
    where
      of : (b : Bool) → eq_by_cmp R q y.0 ≡ b → cond b (Some y.1) (find R q es) ≡ Some x → (find R q es ≡ Some x → IsOneOf (q, x) es) → IsOneOf (q, x) (y ∷ es)
      of true tied f rest = let key = same q y.0 tied in let value : y.1 ≡ x = cc in let back = sym value in inl (λ i. (key i, back i))
      of false other f rest = inr (rest f)

  pub is_there : (m : Table o X) (q : K) (x : X) → get m q ≡ Some x → IsOneOf (q, x) (entries m)
  is_there m q x e = found_stands (entries m) q x (sym (get-entries m q) ∙ e)

  -- each item made of the entries of a table occurs once, if it determines the key
  module _ {E : Type 0} (g : K × X → List E) (HasKey : E → K → Type 0) (one_key : (n : E) (k l : K) → HasKey n k → HasKey n l → k ≡ l) (keys : (e : K × X) (n : E) → IsOneOf n (g e) → HasKey n e.0) (once : (e : K × X) → AllDistinct (g e)) where
    once_flat : (es : List (K × X)) → is_sorted R es ≡ true → AllDistinct (flat_map g es)
    once_flat [] sorted = tt
    once_flat (e ∷ es) sorted =
        let parts = both (below_all R e.0 es) (is_sorted R es) sorted in
        once_both (g e) (flat_map g es) (once e) (once_flat es parts.1) (λ n here later.
        let other = flat_one g es n later in
        let key = one_key n e.0 other.of.0 (keys e n here) (keys other.of n other.among) in
        let none = find-below o same e.0 es parts.0 in
        let some : find R e.0 es ≡ Some other.of.1 = ap (λ k. find R k es) key ∙ stands_found es other.of parts.1 other.one in
        absurd (cc))

    pub once_made : (m : Table o X) → AllDistinct (flat_map g (entries m))
    once_made m = once_flat (entries m) (is_true _ m.sorted)
