-- The lines of an array, row by row.
use Rattle.std.proofs.Common.{◌≡◌, List, [], ◌∷◌, ◌++◌, Option, Some, None, refl, sym, ap, ◌∙◌, append_assoc, append-nil}
use Rattle.std.specs.Option.{option_map}
use Rattle.serde_json.specs.View.{items_view, view}
use Rattle.serde_json.specs.declared.value.Value.{Value}
use Rattle.serde_json.specs.Find.{as_str}
use Rattle.coord_kept.specs.Start.{Line, in_front, lines_in}

-- these in front of the others
abbrev pub with_all : List Line → Option (List Line) → Option (List Line)
with_all xs rest = option_map (λ ys. xs ++ ys) rest

one_more : (xs : List Line) (x : Line) (rest : Option (List Line)) → with_all xs (option_map (λ ys. x ∷ ys) rest) ≡ with_all (xs ++ (x ∷ [])) rest
one_more xs x None = refl
one_more xs x (Some ys) = ap Some (sym (append_assoc xs (x ∷ []) ys))

-- a row that is a text
pub row_read : (xs : List Line) (v : Value) (rows rest : List Value) (x : Line) → rows ≡ v ∷ rest → as_str (view v) ≡ Some x → with_all xs (lines_in (items_view rows)) ≡ with_all (xs ++ (x ∷ [])) (lines_in (items_view rest))
row_read xs v rows rest x is known =
    ap (λ l. with_all xs (lines_in (items_view l))) is
    ∙ ap (λ o. with_all xs (in_front o (lines_in (items_view rest)))) known ∙ one_more xs x (lines_in (items_view rest))

-- a row that is none
pub row_unread : (xs : List Line) (v : Value) (rows rest : List Value) → rows ≡ v ∷ rest → as_str (view v) ≡ None → with_all xs (lines_in (items_view rows)) ≡ None
row_unread xs v rows rest is known =
    ap (λ l. with_all xs (lines_in (items_view l))) is
    ∙ ap (λ o. with_all xs (in_front o (lines_in (items_view rest)))) known

pub all_read : (xs : List Line) (rows : List Value) → rows ≡ [] → with_all xs (lines_in (items_view rows)) ≡ Some xs
all_read xs rows none = ap (λ l. with_all xs (lines_in (items_view l))) none ∙ ap Some (append-nil xs)
