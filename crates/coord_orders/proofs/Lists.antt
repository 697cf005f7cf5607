-- Lists, and the lines under way.
use Rattle.std.proofs.Common.{◌≡◌, ℕ, zero, suc, ◌+◌, ◌≤◌, List, [], ◌∷◌, ◌++◌, Some, take, refl, ap, subst, ◌∙◌, arith, slice_get, append_assoc, append-nil}
use Rattle.std.specs.List.{AllByRecursion}
use Rattle.std.proofs.lemmas.List.{append_cancel_left}
use Rattle.coord_orders.specs.Exchange.{Sent, without}

-- ---- predicates on each

pub all_more : {A : Type 0} (P : A → Type 0) (xs : List A) (x : A) → AllByRecursion P xs → P x → AllByRecursion P (xs ++ (x ∷ []))
all_more P [] x all here = (here, tt)
all_more P (y ∷ ys) x all here = (all.0, all_more P ys x all.1 here)

pub all_both : {A : Type 0} (P : A → Type 0) (xs ys : List A) → AllByRecursion P xs → AllByRecursion P ys → AllByRecursion P (xs ++ ys)
all_both P [] ys first rest = rest
all_both P (x ∷ xs) ys first rest = (first.0, all_both P xs ys first.1 rest)

pub all_weaker : {A : Type 0} (P Q : A → Type 0) (xs : List A) → ((x : A) → P x → Q x) → AllByRecursion P xs → AllByRecursion Q xs
all_weaker P Q [] f all = tt
all_weaker P Q (x ∷ xs) f all = (f x all.0, all_weaker P Q xs f all.1)

pub of_each : {A : Type 0} (P : A → Type 0) (xs : List A) (k : ℕ) (x : A) → slice_get xs k ≡ Some x → AllByRecursion P xs → P x
of_each P [] k x e all = absurd (cc)
of_each P (y ∷ ys) zero x e all = let same : y ≡ x = cc in subst P same all.0
of_each P (y ∷ ys) (suc k) x e all = of_each P ys k x e all.1

-- of the last one
of_last : {A : Type 0} (P : A → Type 0) (ys xs : List A) (s : A) → ys ≡ xs ++ (s ∷ []) → AllByRecursion P ys → P s
of_last P [] [] s e all = absurd (cc)
of_last P [] (x ∷ xs) s e all = absurd (cc)
of_last P (y ∷ ys) [] s e all = let same : y ≡ s = cc in subst P same all.0
of_last P (y ∷ ys) (x ∷ xs) s e all = let rest : ys ≡ xs ++ (s ∷ []) = cc in of_last P ys xs s rest all.1

no_end : {A : Type 0} (us : List A) (v : A) (vs : List A) → us ++ (v ∷ vs) ≡ [] → ⊥
no_end [] v vs e = cc
no_end (u ∷ us) v vs e = cc

-- the last one, which is in the second part
pub of_end : {A : Type 0} (P : A → Type 0) (us : List A) (v : A) (vs xs : List A) (s : A) → us ++ (v ∷ vs) ≡ xs ++ (s ∷ []) → AllByRecursion P (v ∷ vs) → P s
of_end P [] v vs xs s e all = of_last P (v ∷ vs) xs s e all
of_end P (u ∷ us) v vs [] s e all = let rest : us ++ (v ∷ vs) ≡ [] = cc in absurd (no_end us v vs rest)
of_end P (u ∷ us) v vs (x ∷ xs) s e all = let rest : us ++ (v ∷ vs) ≡ xs ++ (s ∷ []) = cc in of_end P us v vs xs s rest all

-- ---- first parts

none_first : {A : Type 0} (us vs : List A) → [] ≡ us ++ vs → us ≡ []
none_first [] vs e = refl
none_first (u ∷ us) vs e = absurd (cc)

-- lists that go on as each other are equal
pub squeezed : {A : Type 0} (xs ys us vs : List A) → ys ≡ xs ++ us → xs ≡ ys ++ vs → ys ≡ xs
squeezed xs ys us vs p q =
    let whole : xs ++ [] ≡ xs ++ (us ++ vs) = append-nil xs ∙ q ∙ ap (λ l. l ++ vs) p ∙ append_assoc xs us vs in
    let none = none_first us vs (append_cancel_left xs [] (us ++ vs) whole) in
    p ∙ ap (λ l. xs ++ l) none ∙ append-nil xs

pub take_of_take : {A : Type 0} (i j : ℕ) (xs : List A) → i ≤ j → take i (take j xs) ≡ take i xs
take_of_take zero j xs h = refl
take_of_take (suc i) zero xs h = absurd (omega arith)
take_of_take (suc i) (suc j) [] h = refl
take_of_take (suc i) (suc j) (x ∷ xs) h = ap (λ l. x ∷ l) (take_of_take i j xs (omega arith))

-- ---- the lines under way

-- their serial numbers rise, from lo to below hi
abbrev pub IsRising : ℕ → List Sent → ℕ → Type 0
IsRising lo [] hi = lo ≤ hi
IsRising lo (l ∷ ls) hi = (lo ≤ l.serial) × IsRising (l.serial + 1) ls hi

pub rising_lower : (low lo hi : ℕ) (ls : List Sent) → low ≤ lo → IsRising lo ls hi → IsRising low ls hi
rising_lower low lo hi [] h is = omega arith
rising_lower low lo hi (l ∷ ls) h is = (let first = is.0 in omega (arith, first), is.1)

pub rising_le : (lo hi : ℕ) (ls : List Sent) → IsRising lo ls hi → lo ≤ hi
rising_le lo hi [] is = is
rising_le lo hi (l ∷ ls) is = let rest = rising_le (l.serial + 1) hi ls is.1 in let first = is.0 in omega (arith, first, rest)

pub rising_more : (lo hi : ℕ) (ls : List Sent) (l : Sent) → l.serial ≡ hi → IsRising lo ls hi → IsRising lo (ls ++ (l ∷ [])) (hi + 1)
rising_more lo hi [] l at is = (omega arith, omega arith)
rising_more lo hi (x ∷ xs) l at is = (is.0, rising_more (x.serial + 1) hi xs l at is.1)

pub rising_without : (k lo hi : ℕ) (ls : List Sent) → IsRising lo ls hi → IsRising lo (without k ls) hi
rising_without zero lo hi [] is = is
rising_without (suc k) lo hi [] is = is
rising_without zero lo hi (l ∷ ls) is = let first = is.0 in rising_lower lo (l.serial + 1) hi ls (omega (arith, first)) is.1
rising_without (suc k) lo hi (l ∷ ls) is = (is.0, rising_without k (l.serial + 1) hi ls is.1)

-- after the newest line there is none
pub newest_alone : (l : Sent) (ls : List Sent) (hi : ℕ) → l.serial + 1 ≡ hi → IsRising (l.serial + 1) ls hi → ls ≡ []
newest_alone l [] hi e is = refl
newest_alone l (m ∷ ms) hi e is = let rest = rising_le (m.serial + 1) hi ms is.1 in let first = is.0 in absurd (omega (arith, first, rest))

pub all_without : (P : Sent → Type 0) (k : ℕ) (ls : List Sent) → AllByRecursion P ls → AllByRecursion P (without k ls)
all_without P zero [] all = tt
all_without P (suc k) [] all = tt
all_without P zero (l ∷ ls) all = all.1
all_without P (suc k) (l ∷ ls) all = (all.0, all_without P k ls all.1)

pub none_without : (k : ℕ) (ls : List Sent) → ls ≡ [] → without k ls ≡ []
none_without zero [] e = refl
none_without (suc k) [] e = refl
none_without k (l ∷ ls) e = absurd (cc)
