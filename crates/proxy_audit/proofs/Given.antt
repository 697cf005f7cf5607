-- The lines of the entries that an iterator over a map has given.
use Rattle.std.proofs.Common.{◌≡◌, ℕ, List, [], ◌∷◌, ◌++◌, map, Bor, refl, ap, sym, ◌∙◌, append_assoc, append-nil}
use Rattle.std.specs.List.{flat_map}
use Rattle.std.specs.Map.Iter.{deref_pair}

module _ {K X : Type 0} (line : K × X → List ℕ) where
  abbrev pub given_lines : List (Bor K × Bor X) → List ℕ
  given_lines [] = []
  given_lines (p ∷ ps) = line (deref_pair p) ++ given_lines ps

  pub with_one_line : (ps : List (Bor K × Bor X)) (p : Bor K × Bor X) → given_lines (ps ++ p ∷ []) ≡ given_lines ps ++ line (deref_pair p)
  with_one_line [] p = append-nil (line (deref_pair p))
  with_one_line (q ∷ ps) p = ap (λ t. line (deref_pair q) ++ t) (with_one_line ps p) ∙ sym (append_assoc (line (deref_pair q)) (given_lines ps) (line (deref_pair p)))

  pub lines_of_all : (ps : List (Bor K × Bor X)) → given_lines ps ≡ flat_map line (map deref_pair ps)
  lines_of_all [] = refl
  lines_of_all (p ∷ ps) = ap (λ t. line (deref_pair p) ++ t) (lines_of_all ps)

  -- one more line is added after those that were given
  pub line_added : (before text next : List ℕ) (ps : List (Bor K × Bor X)) (p : Bor K × Bor X) (added : List ℕ) → text ≡ before ++ given_lines ps → next ≡ text ++ added → added ≡ line (deref_pair p) → next ≡ before ++ given_lines (ps ++ p ∷ [])
  line_added before text next ps p added is more same =
      more ∙ ap (λ t. t ++ added) is ∙ append_assoc before (given_lines ps) added
      ∙ ap (λ t. before ++ t) (ap (λ t. given_lines ps ++ t) same ∙ sym (with_one_line ps p))

  -- all lines are added after a head
  pub all_added : (before text start head : List ℕ) (ps : List (Bor K × Bor X)) (entries : List (K × X)) → text ≡ start ++ given_lines ps → start ≡ before ++ head → map deref_pair ps ≡ entries → text ≡ before ++ (head ++ flat_map line entries)
  all_added before text start head ps entries is begins same =
      is ∙ ap (λ t. t ++ given_lines ps) begins ∙ append_assoc before head (given_lines ps)
      ∙ ap (λ t. before ++ (head ++ t)) (lines_of_all ps ∙ ap (λ es. flat_map line es) same)
