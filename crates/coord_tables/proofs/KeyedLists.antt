-- Lists whose elements have keys, and look-ups in them.
use Rattle.std.proofs.Common.{◌≡◌, true, false, ◌&&◌, List, [], ◌∷◌, Option, Some, None, map, cond, refl, ap, ◌∙◌, subst, Ordering, arith}
use Rattle.std.specs.Ordering.{eq_by_cmp, is_eq, is_lt}
use Rattle.std.specs.Cmp.{IsTotalOrder, tied_itself}
use Rattle.std.specs.List.{AllByRecursion}
use Rattle.std.specs.FinMap.Entries.{below_all, find, is_sorted}
use Rattle.coord_types.proofs.Tables.{option_map}
use Rattle.coord_tables.proofs.Cases.{both, by_test}

-- a predicate on each element holds for each in a weaker form
pub all_weaker : {A : Type 0} (P Q : A → Type 0) → ((x : A) → P x → Q x) → (xs : List A) → AllByRecursion P xs → AllByRecursion Q xs
all_weaker P Q weaker [] all = tt
all_weaker P Q weaker (x ∷ xs) all = (weaker x all.0, all_weaker P Q weaker xs all.1)

module _ {K A X Y : Type 0} (R : K → K → Ordering) (f : A → K × X) (g : A → K × Y) (same : (x : A) → (f x).0 ≡ (g x).0) where
  below-keys : (k : K) (xs : List A) → below_all R k (map f xs) ≡ below_all R k (map g xs)
  below-keys k [] = refl
  below-keys k (x ∷ xs) = λ i. is_lt (R k (same x i)) && below-keys k xs i

  -- entries with the same keys are in order alike
  pub sorted-keys : (xs : List A) → is_sorted R (map f xs) ≡ is_sorted R (map g xs)
  sorted-keys [] = refl
  sorted-keys (x ∷ xs) = grind (arith, sorted-keys xs, below-keys)

module _ {K A : Type 0} (R : K → K → Ordering) (key : A → K) where
  -- the elements with their keys
  abbrev pub keyed : List A → List (K × A)
  keyed = map (λ x. (key x, x))

  -- a value of the element that is found
  pub find-values : {X : Type 0} (value : A → X) (q : K) (xs : List A) → find R q (map (λ x. (key x, value x)) xs) ≡ option_map value (find R q (keyed xs))
  find-values value q [] = refl
  find-values value q (x ∷ xs) = grind (arith, find-values value q xs)

  module _ (same : (p q : K) → eq_by_cmp R p q ≡ true → p ≡ q) (P : A → Type 0) where
    -- a found value is an element, at its key
    pub found : (q : K) (xs : List A) (x : A) → AllByRecursion P xs → find R q (keyed xs) ≡ Some x → P x × (q ≡ key x)
    found q [] x all is = cc
    found q (y ∷ ys) x all is =
        elim (eq_by_cmp R q (key y)) as (λ b. eq_by_cmp R q (key y) ≡ b → cond b (Some y) (find R q (keyed ys)) ≡ Some x → P x × (q ≡ key x)) [
          | true ↦ λ t e. let that : y ≡ x = cc in subst (λ z. P z × (q ≡ key z)) that (all.0, same q (key y) t)
          | false ↦ λ t e. found q ys x all.1 e
        ] refl is

-- a predicate on the value of each found element
pub each_value : {A X : Type 0} (value : A → X) (P : X → Type 0) (o : Option A) → ((x : A) → o ≡ Some x → P (value x)) → (y : X) → option_map value o ≡ Some y → P y
each_value value P None each y is = cc
each_value value P (Some x) each y is = let same : value x ≡ y = cc in subst P same (each x refl)

-- a predicate on the values of a function holds for each of a list that it changed
pub all_mapped : {A X : Type 0} (f : A → X) (P : X → Type 0) (xs : List A) → AllByRecursion (λ x. P (f x)) xs → AllByRecursion P (map f xs)
all_mapped f P [] all = tt
all_mapped f P (x ∷ xs) all = (all.0, all_mapped f P xs all.1)

-- a key below another doesn't tie with it
pub not_tied : (r : Ordering) → is_lt r ≡ true → is_eq r ≡ false
not_tied r h1 = grind arith

module _ {K X : Type 0} {R : K → K → Ordering} (o : IsTotalOrder R) (same : (p q : K) → eq_by_cmp R p q ≡ true → p ≡ q) where
  -- a key below all isn't there
  pub find-below : (k : K) (es : List (K × X)) → below_all R k es ≡ true → find R k es ≡ None
  find-below k [] below = refl
  find-below k (e ∷ es) below =
      let parts = both (is_lt (R k e.0)) (below_all R k es) below in
      ap (λ t. cond t (Some e.1) (find R k es)) (not_tied (R k e.0) parts.0) ∙ find-below k es parts.1

  -- a predicate on all values found in a list in order holds for each entry
  pub each_entry : (P : K × X → Type 0) (es : List (K × X)) → is_sorted R es ≡ true → ((k : K) (x : X) → find R k es ≡ Some x → P (k, x)) → AllByRecursion P es
  each_entry P [] sorted each = tt
  each_entry P (e ∷ es) sorted each =
      let parts = both (below_all R e.0 es) (is_sorted R es) sorted in (
        each e.0 e.1 (ap (λ r. cond (is_eq r) (Some e.1) (find R e.0 es)) (tied_itself o e.0)),
        each_entry P es parts.1 (λ k x is. each k x (by_test (eq_by_cmp R k e.0) (λ t. cond t (Some e.1) (find R k es) ≡ Some x)
            (λ tied. let none = ap (λ q. find R q es) (same k e.0 tied) ∙ find-below e.0 es parts.0 in cc) (λ _. is))),
      )
