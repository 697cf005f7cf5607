-- Lists: predicates on all items, and parts of lists.
use Rattle.std.proofs.Common.{ℕ, ◌≤◌, List, [], ◌∷◌, ◌++◌, map, inl, inr, refl, ap, subst, sym, arith}
use Rattle.std.proofs.lemmas.List.{append-nil}
use Rattle.std.specs.List.{AllByRecursion}
use Rattle.coord_ledger.specs.Facade.{IsOneOf, IsPartOf}

-- a predicate on all items holds for each
pub each_one : {A : Type 0} (P : A → Type 0) (xs : List A) (a : A) → IsOneOf a xs → AllByRecursion P xs → P a
each_one P [] a one all = absurd one
each_one P (x ∷ xs) a (inl same) all = subst P (sym same) all.0
each_one P (x ∷ xs) a (inr one) all = each_one P xs a one all.1

-- one of these, mapped
pub one_mapped : {A B : Type 0} (f : A → B) (x : A) (xs : List A) → IsOneOf x xs → IsOneOf (f x) (map f xs)
one_mapped f x [] one = one
one_mapped f x (y ∷ ys) (inl same) = inl (ap f same)
one_mapped f x (y ∷ ys) (inr one) = inr (one_mapped f x ys one)

-- of two lists, one after the other
pub all_both : {A : Type 0} (P : A → Type 0) (xs ys : List A) → AllByRecursion P xs → AllByRecursion P ys → AllByRecursion P (xs ++ ys)
all_both P [] ys all more = more
all_both P (x ∷ xs) ys all more = (all.0, all_both P xs ys all.1 more)

-- a greater bound
pub all_raised : {A : Type 0} (f : A → ℕ) (m n : ℕ) (xs : List A) → m ≤ n → AllByRecursion (λ x. f x ≤ m) xs → AllByRecursion (λ x. f x ≤ n) xs
all_raised f m n [] le all = tt
all_raised f m n (x ∷ xs) le all = (omega (arith, all.0, le), all_raised f m n xs le all.1)

-- a list is a part of itself
pub part_self : {A : Type 0} (xs : List A) → IsPartOf xs xs
part_self [] = tt
part_self (x ∷ xs) = inl (refl, part_self xs)

-- with more in front
part_after : {A : Type 0} (ys us vs : List A) → IsPartOf us vs → IsPartOf us (ys ++ vs)
part_after [] us vs part = part
part_after (y ∷ ys) [] vs part = tt
part_after (y ∷ ys) (u ∷ us) vs part = inr (part_after ys (u ∷ us) vs part)

-- parts of two lists, one after the other
pub part_both : {A : Type 0} (xs ys us vs : List A) → IsPartOf xs ys → IsPartOf us vs → IsPartOf (xs ++ us) (ys ++ vs)
part_both [] ys us vs part more = part_after ys us vs more
part_both (x ∷ xs) [] us vs part more = absurd part
part_both (x ∷ xs) (y ∷ ys) us vs (inl same) more = inl (same.0, part_both xs ys us vs same.1 more)
part_both (x ∷ xs) (y ∷ ys) us vs (inr part) more = inr (part_both (x ∷ xs) ys us vs part more)

-- with more after
pub part_before : {A : Type 0} (xs ys vs : List A) → IsPartOf xs ys → IsPartOf xs (ys ++ vs)
part_before xs ys vs part = rw (sym (append-nil xs)) (part_both xs ys [] vs part tt)
