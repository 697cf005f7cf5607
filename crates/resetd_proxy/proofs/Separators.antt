-- Texts that a separator splits.
use Rattle.std.proofs.Common.{◌≡◌, ℕ, Bool, true, false, List, [], ◌∷◌, length, refl, arith}
use Rattle.std.proofs.lemmas.Grind.{common_steps}
use Rattle.std.specs.List.{list_any, position_or_len}

-- if the first separator is not before the end, the text has none
pub none_found : (p : ℕ → Bool) (text : List ℕ) → position_or_len p text ≡ length text → list_any p text ≡ false
none_found p [] is = refl
none_found p (x ∷ xs) is = go (p x) refl (none_found p xs)
  where
    go : (b : Bool) → p x ≡ b → (position_or_len p xs ≡ length xs → list_any p xs ≡ false) → list_any p (x ∷ xs) ≡ false
    go true same more = grind (arith, common_steps, same, is)
    go false same more = grind (arith, common_steps, same, is, more)
