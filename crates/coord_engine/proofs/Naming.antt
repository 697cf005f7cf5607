-- As many notes as steps, with the note of each step among them: then each once.
use Rattle.std.proofs.Common.{◌≡◌, ℕ, ◌+◌, ◌<◌, suc, zero, List, [], ◌∷◌, length, drop, get_or, refl, sym, ap, ◌∙◌, arith, Contains, remove, sum_by}
use Rattle.std.specs.List.Sorted.{IsPermutation}
use Rattle.std.proofs.lemmas.List.{length-drop}
use Rattle.std.proofs.lemmas.List.Concat.{length-flat_map}
use Rattle.std.proofs.lemmas.List.Edits.{length-remove}
use Rattle.std.proofs.lemmas.List.Elements.{All-contains, All-contains_itself, Contains-append_right}
use Rattle.std.proofs.lemmas.List.Sorted.{Contains-permutation, IsPermutation-cons, IsPermutation-remove, IsPermutation-sym, IsPermutation-trans}
use Rattle.std.proofs.lemmas.Map.Made.{Contains-tail}
use Rattle.coord_types.specs.declared.steps.Kind.{Kind}
use Rattle.coord_types.specs.declared.steps.Step.{Step}
use Rattle.coord_world.specs.Facade.{World, next}
use Rattle.coord_ledger.specs.declared.ticket.Note.{Note}
use Rattle.coord_ledger.specs.machine.Log.{kinds_of}
use Rattle.coord_engine.specs.Named.{AreNoted, IsNamed, all_notes, notes_of}

-- as many kinds of replies as steps
kinds_of-length : (w : World) (steps : List Step) → length (kinds_of w steps) ≡ length steps
kinds_of-length w [] = refl
kinds_of-length w (s ∷ steps) = ap suc (kinds_of-length (next w s) steps)

pub as_many_kinds : (w : World) (steps : List Step) (start : ℕ) → length (drop start (kinds_of w steps)) ≡ length (drop start steps)
as_many_kinds w steps start = omega (arith, length-drop start (kinds_of w steps), length-drop start steps, kinds_of-length w steps)

pub length-notes : (n : ℕ) (steps : List Step) (kinds : List Kind) → length kinds ≡ length steps → length (notes_of n steps kinds) ≡ length steps
length-notes n [] kinds same = refl
length-notes n (s ∷ steps) [] same = absurd (omega (arith, same))
length-notes n (s ∷ steps) (k ∷ kinds) same = ap suc (length-notes (n + 1) steps kinds (omega (arith, same)))

-- notes of later steps have greater numbers
number_at : (n k : ℕ) (steps : List Step) (kinds : List Kind) (d : Note) → k < length (notes_of n steps kinds) → (get_or (notes_of n steps kinds) k d).step ≡ n + k + 1
number_at n k [] kinds d lt = absurd (omega (arith, lt))
number_at n k (s ∷ steps) [] d lt = absurd (omega (arith, lt))
number_at n zero (s ∷ steps) (t ∷ kinds) d lt = omega arith
number_at n (suc k) (s ∷ steps) (t ∷ kinds) d lt = omega (arith, number_at (n + 1) k steps kinds d (omega (arith, lt)))

later : (n : ℕ) (steps : List Step) (kinds : List Kind) (y z : Note) → y.step ≡ n → Contains (notes_of n steps kinds) z → y ≡ z → ⊥
later n steps kinds y z is there same =
    omega (arith, is, number_at n there.0 steps kinds z there.1, ap (λ (w : Note). w.step) there.2, ap (λ (w : Note). w.step) same)

pigeon : (n : ℕ) (steps : List Step) (kinds : List Kind) (xs : List Note) → length kinds ≡ length steps → ((y : Note) → Contains (notes_of n steps kinds) y → Contains xs y) → length xs ≡ length steps → IsPermutation xs (notes_of n steps kinds)
pigeon n [] kinds [] same all count = record { moves = []; below = tt; is = refl }
pigeon n [] kinds (x ∷ xs) same all count = absurd (omega (arith, count))
pigeon n (s ∷ steps) [] xs same all count = absurd (omega (arith, same))
pigeon n (s ∷ steps) (k ∷ kinds) xs same all count =
    let y : Note = record { step = n + 1; what = s; kind = k } in
    let here : Contains xs y = all y (0, omega arith, refl) in
    let first : IsPermutation xs (y ∷ remove xs here.0) = IsPermutation-remove xs here.0 y here.1 (sym here.2) in
    let rest : IsPermutation (remove xs here.0) (notes_of (n + 1) steps kinds) =
    pigeon (n + 1) steps kinds (remove xs here.0) (omega (arith, same)) (λ z there. Contains-tail y (remove xs here.0) z (later (n + 1) steps kinds y z refl there) (Contains-permutation xs (y ∷ remove xs here.0) z first (all z (Contains-append_right (y ∷ []) (notes_of (n + 1) steps kinds) z there)))) (omega (arith, count, length-remove xs here.0 here.1)) in
    IsPermutation-trans xs (y ∷ remove xs here.0) (y ∷ notes_of (n + 1) steps kinds) first (IsPermutation-cons y (remove xs here.0) (notes_of (n + 1) steps kinds) rest)

-- where each of the steps was noted and there are as many notes as steps, the steps are what was noted
pub named : (shares : List (List Note)) (n : ℕ) (steps : List Step) (kinds : List Kind) → length kinds ≡ length steps → AreNoted shares n steps kinds → sum_by (λ notes. length notes) shares ≡ length steps → IsNamed shares n steps kinds
named shares n steps kinds same are count = record {
  ascending = are.ascending;
  each_once = pigeon n steps kinds (all_notes shares) same (λ y there. All-contains (Contains (all_notes shares)) (notes_of n steps kinds) y are.noted there) (length-flat_map (λ (notes : List Note). notes) shares ∙ count);
}

pub named_noted : (shares : List (List Note)) (n : ℕ) (steps : List Step) (kinds : List Kind) → IsNamed shares n steps kinds → AreNoted shares n steps kinds
named_noted shares n steps kinds is = record {
  ascending = is.ascending;
  noted = λ k d lt. Contains-permutation (notes_of n steps kinds) (all_notes shares) (get_or (notes_of n steps kinds) k d) (IsPermutation-sym (all_notes shares) (notes_of n steps kinds) is.each_once) (All-contains_itself (notes_of n steps kinds) k d lt);
}
