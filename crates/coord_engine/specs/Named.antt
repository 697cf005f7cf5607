-- The callers' notes compared with the accepted steps.
use Rattle.std.specs.List.{AllAdjacentBelow}
use Rattle.std.specs.List.Sorted.{IsPermutation}
use Rattle.std.specs.Prelude.{◌≡◌, ℕ, ◌+◌, ◌-◌, ◌<◌, List, [], ◌∷◌, All, Contains, flat_map, length, Some, slice_get}
use Rattle.coord_types.specs.declared.steps.Kind.{Kind}
use Rattle.coord_types.specs.declared.steps.Step.{Step}
use Rattle.coord_ledger.specs.declared.ticket.Note.{Note}

-- the notes of these steps, which follow n other steps and have replies of these kinds
abbrev pub notes_of : ℕ → List Step → List Kind → List Note
notes_of n [] kinds = []
notes_of n (s ∷ steps) [] = []
notes_of n (s ∷ steps) (k ∷ kinds) = record { step = n + 1; what = s; kind = k } ∷ notes_of (n + 1) steps kinds

-- the notes of all shares, one share after another
abbrev pub all_notes : List (List Note) → List Note
all_notes shares = flat_map (λ notes. notes) shares

-- Each note has a smaller step number than the next.
abbrev pub IsAscending : List Note → Type 0
IsAscending notes = AllAdjacentBelow (λ a b. a.step < b.step) notes (length notes)

-- Each share noted its steps in order. Some share noted each of these steps, with the kind of its reply. The
-- steps follow n other steps.
pub record AreNoted (shares : List (List Note)) (n : ℕ) (steps : List Step) (kinds : List Kind) : Type 0 where
  pub ascending : All IsAscending shares
  pub noted : All (Contains (all_notes shares)) (notes_of n steps kinds)

-- The shares noted exactly these steps, each once and with the kind of its reply. Each share noted its steps
-- in order. The steps follow n other steps.
pub record IsNamed (shares : List (List Note)) (n : ℕ) (steps : List Step) (kinds : List Kind) : Type 0 where
  pub ascending : All IsAscending shares
  pub each_once : IsPermutation (all_notes shares) (notes_of n steps kinds)

-- The list `steps`, which follows `base` other steps, has the note's step at the place that the note's number
-- gives.
pub record IsAmong (base : ℕ) (steps : List Step) (note : Note) : Type 0 where
  pub newer : base < note.step
  pub there : slice_get steps (note.step - base - 1) ≡ Some note.what
