-- Lists of numbers in turn.
use Rattle.std.proofs.Common.{◌≡◌, ℕ, ◌+◌, ◌++◌, List, [], ◌∷◌, suc, map, refl, sym, ap, ◌∙◌, arith}
use Rattle.std.proofs.lemmas.List.{map-append}
use Rattle.proxy_activation.specs.Passing.{counted_from}

pub counted_none : (first : ℕ) → counted_from first 0 ≡ []
unfolding counted_from
counted_none first = refl

counted_suc : (first more n : ℕ) → n ≡ suc more → counted_from first n ≡ counted_from first more ++ (first + more) ∷ []
unfolding counted_from
counted_suc first more n e = rw e refl

-- one number more
pub counted_next : (first more : ℕ) → counted_from first (more + 1) ≡ counted_from first more ++ (first + more) ∷ []
counted_next first more = counted_suc first more (more + 1) (omega arith)

-- one value more, with the next number
pub one_more : {A : Type 0} (f : A → ℕ) (before after : List A) (value : A) (first count : ℕ) → after ≡ before ++ value ∷ [] → map f before ≡ counted_from first count → f value ≡ first + count → map f after ≡ counted_from first (count + 1)
one_more f before after value first count is counted number =
    ap (λ l. map f l) is ∙ map-append f before (value ∷ []) ∙ ap (λ l. l ++ f value ∷ []) counted ∙ ap (λ n. counted_from first count ++ n ∷ []) number ∙ sym (counted_next first count)
