-- Texts that are appended one after the other.
use Rattle.std.proofs.Common.{◌≡◌, ℕ, List, ◌++◌, ap, ◌∙◌, append_assoc}

-- three texts, appended in turn
pub three_appended : (before one two after a b c : List ℕ) → one ≡ before ++ a → two ≡ one ++ b → after ≡ two ++ c → after ≡ before ++ (a ++ (b ++ c))
three_appended before one two after a b c first second third =
    third ∙ ap (λ t. t ++ c) (second ∙ ap (λ t. t ++ b) first) ∙ append_assoc (before ++ a) b c ∙ append_assoc before a (b ++ c)
