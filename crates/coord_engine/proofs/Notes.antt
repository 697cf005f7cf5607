-- Where a note stands among the notes of some steps, of a share, and of all shares.
use Rattle.std.proofs.Common.{◌≡◌, ◌⊎◌, ◌↔◌, ℕ, ◌+◌, ◌<◌, ◌≤◌, suc, zero, List, [], ◌∷◌, length, get_or, Result, Ok, Err, sym, ap, ◌∙◌, arith, inl, inr, Contains, MatchResult}
use Rattle.std.specs.List.Sorted.{IsBinarySearchResult, IsNonDecreasingBy, IsSearchInRange}
use Rattle.std.specs.Ordering.{nat_cmp, ordering_index}
use Rattle.std.proofs.lemmas.Cmp.{ranked}
use Rattle.std.proofs.lemmas.Bool.Decides.{nat_tests}
use Rattle.std.proofs.lemmas.List.Elements.{Contains-append_cases, Contains-append_left, Contains-append_right}
use Rattle.std.proofs.lemmas.List.Sorted.{IsNonDecreasingBy-from_all_adjacent}
use Rattle.coord_types.specs.declared.steps.Kind.{Kind}
use Rattle.coord_types.specs.declared.steps.Step.{Step}
use Rattle.coord_ledger.specs.declared.ticket.Note.{Note}
use Rattle.coord_engine.specs.Named.{IsAscending, all_notes, notes_of}

-- notes with the same fields are the same
pub same_note : (a b : Note) → a.step ≡ b.step → a.what ≡ b.what → a.kind ≡ b.kind → a ≡ b
same_note a b step what kind = λ i. record { step = step i; what = what i; kind = kind i }

-- ---- the notes of some steps

pub note_at : (n k : ℕ) (steps : List Step) (kinds : List Kind) (d : Note) (x : Step) (y : Kind) → length kinds ≡ length steps → k < length steps
    → get_or (notes_of n steps kinds) k d ≡ record { step = n + k + 1; what = get_or steps k x; kind = get_or kinds k y }
note_at n k [] kinds d x y same lt = absurd (omega (arith, lt))
note_at n k (s ∷ steps) [] d x y same lt = absurd (omega (arith, same))
note_at n zero (s ∷ steps) (t ∷ kinds) d x y same lt = let e : n + 1 ≡ n + 0 + 1 = omega arith in (λ i. record { step = e i; what = s; kind = t })
note_at n (suc k) (s ∷ steps) (t ∷ kinds) d x y same lt =
    let e : n + 1 + k + 1 ≡ n + suc k + 1 = omega arith in
    note_at (n + 1) k steps kinds d x y (omega (arith, same)) (omega (arith, lt)) ∙ (λ i. record { step = e i; what = get_or steps k x; kind = get_or kinds k y })

-- the note of the step at a place
pub note_here : (n i : ℕ) (steps : List Step) (kinds : List Kind) (item : Step) (sort : Kind) (d : Note) → length kinds ≡ length steps → i < length steps → item ≡ get_or steps i item → sort ≡ get_or kinds i sort
    → get_or (notes_of n steps kinds) i d ≡ record { step = n + i + 1; what = item; kind = sort }
note_here n i steps kinds item sort d same lt here there = note_at n i steps kinds d item sort same lt ∙ (λ j. record { step = n + i + 1; what = sym here j; kind = sym there j })

-- ---- the notes of a share

module _ (notes : List Note) (ascending : IsAscending notes) where
  never_falls : IsNonDecreasingBy (λ a. a.step) notes
  never_falls = IsNonDecreasingBy-from_all_adjacent (λ a. a.step) notes (λ k d lt. omega (arith, ascending k d lt))

  pub rises : (i j : ℕ) (d : Note) → i < j → j < length notes → (get_or notes i d).step < (get_or notes j d).step
  rises i j d lt within = omega (arith, ascending i d (omega (arith, lt, within)), never_falls (i + 1) j d (omega (arith, lt)) within)

  -- notes with one number stand at one place
  one_place : (i j : ℕ) (d : Note) → i < length notes → j < length notes → (get_or notes i d).step ≡ (get_or notes j d).step → i ≡ j
  one_place i j d within_i within_j same = grind (arith, nat_tests, rises i j d, rises j i d)

  module _ (note : Note) where
    -- the comparisons with the note's number rise along the list, as a binary search asks
    comparisons_rise : IsNonDecreasingBy (λ a. ordering_index (nat_cmp a.step note.step)) notes
    comparisons_rise i j d le within = let falls = never_falls i j d le within in grind (arith, nat_tests)

    -- a binary search by numbers finds the note, where it is there
    pub searched : (r : Result ℕ ℕ) → IsSearchInRange r (length notes) → IsBinarySearchResult (λ a. nat_cmp a.step note.step) notes r
        → MatchResult r (λ at. (get_or notes at note ≡ note) ↔ Contains notes note) (λ _. Contains notes note → ⊥)
    searched (Ok at) within equal =
        let number : (get_or notes at note).step ≡ note.step = ranked _ note.step _ (sym (equal note)) in (
          λ is. (at, within, is),
          λ there.
              let place : there.0 ≡ at = one_place there.0 at note there.1 within (ap (λ (x : Note). x.step) there.2 ∙ sym number) in
              rw (sym place) there.2,
        )
    searched (Err at) within parted = λ there.
        let number = ap (λ (x : Note). x.step) there.2 in
        let below : there.0 < at → (get_or notes there.0 note).step < note.step = λ lt. ranked _ note.step _ (sym ((parted comparisons_rise).0 there.0 note (omega arith) lt)) in
        let above : at ≤ there.0 → note.step < (get_or notes there.0 note).step = λ le. ranked _ note.step _ (sym ((parted comparisons_rise).1 there.0 note le there.1)) in
        grind (arith, nat_tests, number, below, above)

-- ---- the notes of all shares

pub in_share : (shares : List (List Note)) (y : Note) (k : ℕ) (d : List Note) → k < length shares → Contains (get_or shares k d) y → Contains (all_notes shares) y
in_share [] y k d lt there = absurd (omega (arith, lt))
in_share (x ∷ shares) y zero d lt there = Contains-append_left x (all_notes shares) y there
in_share (x ∷ shares) y (suc k) d lt there = Contains-append_right x (all_notes shares) y (in_share shares y k d (omega (arith, lt)) there)

not_in : (x : List Note) (shares : List (List Note)) (y : Note) (d : List Note) → ((k : ℕ) → k < length (x ∷ shares) → ¬ Contains (get_or (x ∷ shares) k d) y) → Contains x y ⊎ Contains (all_notes shares) y → ((k : ℕ) → k < length shares → ¬ Contains (get_or shares k d) y) → (Contains (all_notes shares) y → ⊥) → ⊥
not_in x shares y d none (inl here) rest later = none 0 (omega arith) here
not_in x shares y d none (inr there) rest later = later there

-- a note that stands in no share isn't among all notes
pub in_none : (shares : List (List Note)) (y : Note) (d : List Note) → ((k : ℕ) → k < length shares → ¬ Contains (get_or shares k d) y) → ¬ Contains (all_notes shares) y
in_none [] y d none there = absurd (omega (arith, there.1))
in_none (x ∷ shares) y d none there =
    let rest : (k : ℕ) → k < length shares → ¬ Contains (get_or shares k d) y = λ k lt. none (suc k) (omega (arith, lt)) in
    not_in x shares y d none (Contains-append_cases x (all_notes shares) y there) rest (in_none shares y d rest)
