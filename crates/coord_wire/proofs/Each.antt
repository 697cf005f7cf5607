-- What each row is, row by row.
use Rattle.std.proofs.Common.{◌≡◌, ℕ, zero, suc, ◌+◌, ◌<◌, ◌≤◌, List, [], ◌∷◌, ◌++◌, Option, Some, None, drop, length, map, slice_get, refl, sym, ap, ◌∙◌, arith, append_assoc, append-nil}
use Rattle.serde_json.specs.Data.{Data, Items, item, no_items}
use Rattle.serde_json.specs.View.{items_of, items_view, view}
use Rattle.serde_json.specs.declared.value.Value.{Value}
use Rattle.coord_wire.specs.ShowLine.{each, from_each, in_front}

-- these in front of the others
abbrev pub with_all : {X : Type 0} → List X → Option (List X) → Option (List X)
with_all xs None = None
with_all xs (Some ys) = Some (xs ++ ys)

pub with_none : {X : Type 0} (rest : Option (List X)) → with_all [] rest ≡ rest
with_none None = refl
with_none (Some ys) = refl

one_more : {X : Type 0} (xs : List X) (x : X) (rest : Option (List X)) → with_all xs (in_front x rest) ≡ with_all (xs ++ (x ∷ [])) rest
one_more xs x None = refl
one_more xs x (Some ys) = ap Some (sym (append_assoc xs (x ∷ []) ys))

-- a row that is there
pub row_read : {X : Type 0} (read : Data → Option X) (xs : List X) (v : Value) (rows rest : List Value) (x : X) → rows ≡ v ∷ rest → read (view v) ≡ Some x →
    with_all xs (each read (items_view rows)) ≡ with_all (xs ++ (x ∷ [])) (each read (items_view rest))
row_read read xs v rows rest x is known =
    ap (λ l. with_all xs (each read (items_view l))) is
    ∙ ap (λ o. with_all xs (from_each o (each read (items_view rest)))) known ∙ one_more xs x (each read (items_view rest))

-- a row that is none
pub row_unread : {X : Type 0} (read : Data → Option X) (xs : List X) (v : Value) (rows rest : List Value) → rows ≡ v ∷ rest → read (view v) ≡ None → with_all xs (each read (items_view rows)) ≡ None
row_unread read xs v rows rest is known =
    ap (λ l. with_all xs (each read (items_view l))) is
    ∙ ap (λ o. with_all xs (from_each o (each read (items_view rest)))) known

pub all_read : {X : Type 0} (read : Data → Option X) (xs : List X) (rows : List Value) → rows ≡ [] → with_all xs (each read (items_view rows)) ≡ Some xs
all_read read xs rows none = ap (λ l. with_all xs (each read (items_view l))) none ∙ ap Some (append-nil xs)
