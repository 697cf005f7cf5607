-- Lists are equal where they have the same elements at the same places.
use Rattle.std.proofs.Common.{◌≡◌, ℕ, suc, ◌<◌, List, [], ◌∷◌, length, refl, arith, slice_get}

pub same_places : {X : Type 0} (xs ys : List X) → length xs ≡ length ys → ((k : ℕ) → k < length xs → slice_get xs k ≡ slice_get ys k) → xs ≡ ys
same_places [] [] long each = refl
same_places [] (y ∷ ys) long each = absurd (omega (arith, long))
same_places (x ∷ xs) [] long each = absurd (omega (arith, long))
same_places (x ∷ xs) (y ∷ ys) long each =
    let first = each 0 (omega arith) in
    let head : x ≡ y = cc first in
    let tail : xs ≡ ys = same_places xs ys (omega (arith, long)) (λ k less. each (suc k) (omega (arith, less))) in
    λ i. head i ∷ tail i
