-- One more entry of a list is read.
use Rattle.std.proofs.Common.{◌≡◌, ℕ, suc, ◌+◌, ◌<◌, List, [], ◌∷◌, ◌++◌, length, get_or, drop, map, option_map, Option, Some, None, refl, sym, ap, ◌∙◌, arith, drop-cons, append_assoc}
use Rattle.std.proofs.lemmas.List.{map-append}
use Rattle.toml.specs.Data.{Data, Items, item}
use Rattle.proxy_policy.specs.Values.{each, in_front}

-- the entries read so far before those of the remaining items
abbrev with_rest : {X Y : Type 0} → (Y → X) → List Y → Option (List X) → Option (List X)
with_rest f ys rest = option_map (λ xs. map f ys ++ xs) rest

in_front_of : {X Y : Type 0} (f : Y → X) (ys : List Y) (y : Y) (rest : Option (List X)) → with_rest f ys (in_front (Some (f y)) rest) ≡ with_rest f (ys ++ y ∷ []) rest
in_front_of f ys y None = refl
in_front_of f ys y (Some xs) = ap Some (sym (ap (λ zs. zs ++ xs) (map-append f ys (y ∷ [])) ∙ append_assoc (map f ys) (f y ∷ []) xs))

pub each_next : {X Y V : Type 0} (f : Y → X) (read : Data → Option X) (view : V → Data) (items_of : List V → Items) (cons : (v : V) (vs : List V) → items_of (v ∷ vs) ≡ item (view v) (items_of vs))
    (whole : Option (List X)) (ys news : List Y) (y : Y) (items : List V) (i : ℕ) (v : V)
    → i < length items → v ≡ get_or items i v → news ≡ ys ++ y ∷ [] → read (view v) ≡ Some (f y)
    → whole ≡ option_map (λ xs. map f ys ++ xs) (each read (items_of (drop i items)))
    → whole ≡ option_map (λ xs. map f news ++ xs) (each read (items_of (drop (i + 1) items)))
each_next f read view items_of cons whole ys news y items i v within is_at new is so_far =
    let rest = drop (suc i) items in
    let one : i + 1 ≡ suc i = omega arith in
    let next : drop (i + 1) items ≡ rest = ap (λ n. drop n items) one in
    let here : drop i items ≡ v ∷ rest = drop-cons items i v within ∙ ap (λ x. x ∷ rest) (sym is_at) in
    let seen : each read (items_of (drop i items)) ≡ in_front (Some (f y)) (each read (items_of rest)) =
    ap (λ vs. each read (items_of vs)) here ∙ ap (each read) (cons v rest) ∙ ap (λ o. in_front o (each read (items_of rest))) is in
    so_far ∙ ap (with_rest f ys) seen ∙ in_front_of f ys y (each read (items_of rest)) ∙ ap (λ ns. with_rest f ns (each read (items_of rest))) (sym new)
    ∙ ap (λ vs. with_rest f news (each read (items_of vs))) (sym next)
