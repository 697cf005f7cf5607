-- The text of a flight, a line after the other.
use Rattle.std.proofs.Common.{◌≡◌, ℕ, ◌+◌, ◌<◌, List, [], ◌∷◌, ◌++◌, length, drop, get_or, ap}
use Rattle.std.proofs.lemmas.List.{drop_more}
use Rattle.proxy_core.specs.Rules.{Rules, as_sent, next}
use Rattle.proxy_core.specs.Pending.{Pending, step, text_of}

pub text_more : (r : Rules) (number : ℕ) (xs : List Pending) (i : ℕ) (d : Pending) → i < length xs
    → text_of r number (drop i xs) ≡ (as_sent r (next number) (get_or xs i d).is_unnumbered (get_or xs i d).line ++ (10 ∷ [])) ++ text_of r (step (get_or xs i d).is_unnumbered number) (drop (i + 1) xs)
text_more r number xs i d h = ap (text_of r number) (drop_more xs i d h)
