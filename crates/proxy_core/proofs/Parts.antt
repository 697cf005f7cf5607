-- Lines that are picked one after the other.
use Rattle.std.proofs.Common.{◌≡◌, ℕ, ◌+◌, ◌<◌, Bool, true, false, List, [], ◌∷◌, ◌++◌, length, drop, get_or, sym, ap, ◌∙◌, append_assoc}
use Rattle.std.proofs.lemmas.List.{drop_more}
use Rattle.proxy_core.specs.Pending.{Pending}
use Rattle.proxy_core.specs.Machine.{left, picked}

rest_is : (P : List Bool) (i : ℕ) (b : Bool) → i < length P → get_or P i false ≡ b → drop i P ≡ b ∷ drop (i + 1) P
rest_is P i b less is = drop_more P i false less ∙ ap (λ x. x ∷ drop (i + 1) P) is

-- the next is picked, or it stays
pub pick_goes : (P : List Bool) (i : ℕ) (a : Pending) (waiting rest out all : List Pending) → i < length P → get_or P i false ≡ true → waiting ≡ a ∷ rest → out ++ picked (drop i P) waiting ≡ all → (out ++ a ∷ []) ++ picked (drop (i + 1) P) rest ≡ all
pick_goes P i a waiting rest out all less is first before = append_assoc out (a ∷ []) (picked (drop (i + 1) P) rest) ∙ sym (ap (λ p. out ++ picked p (a ∷ rest)) (rest_is P i true less is)) ∙ sym (ap (λ l. out ++ picked (drop i P) l) first) ∙ before

pub pick_leaves : (P : List Bool) (i : ℕ) (a : Pending) (waiting rest kept all : List Pending) → i < length P → get_or P i false ≡ true → waiting ≡ a ∷ rest → kept ++ left (drop i P) waiting ≡ all → kept ++ left (drop (i + 1) P) rest ≡ all
pick_leaves P i a waiting rest kept all less is first before = sym (ap (λ p. kept ++ left p (a ∷ rest)) (rest_is P i true less is)) ∙ sym (ap (λ l. kept ++ left (drop i P) l) first) ∙ before

pub stay_goes : (P : List Bool) (i : ℕ) (a : Pending) (waiting rest out all : List Pending) → i < length P → get_or P i false ≡ false → waiting ≡ a ∷ rest → out ++ picked (drop i P) waiting ≡ all → out ++ picked (drop (i + 1) P) rest ≡ all
stay_goes P i a waiting rest out all less is first before = sym (ap (λ p. out ++ picked p (a ∷ rest)) (rest_is P i false less is)) ∙ sym (ap (λ l. out ++ picked (drop i P) l) first) ∙ before

pub stay_leaves : (P : List Bool) (i : ℕ) (a : Pending) (waiting rest kept all : List Pending) → i < length P → get_or P i false ≡ false → waiting ≡ a ∷ rest → kept ++ left (drop i P) waiting ≡ all → (kept ++ a ∷ []) ++ left (drop (i + 1) P) rest ≡ all
stay_leaves P i a waiting rest kept all less is first before = append_assoc kept (a ∷ []) (left (drop (i + 1) P) rest) ∙ sym (ap (λ p. kept ++ left p (a ∷ rest)) (rest_is P i false less is)) ∙ sym (ap (λ l. kept ++ left (drop i P) l) first) ∙ before
