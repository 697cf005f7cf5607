-- Sublists, and the releases of steps.
use Rattle.std.specs.Prelude.{◌≡◌, ◌⊎◌, ◌==◌, not, List, [], ◌∷◌, filter}
use Rattle.coord_ledger.specs.declared.release.Release.{Release}

-- The first list is the second list without some of its items, in the same order.
abbrev pub IsPartOf : {A : Type 0} → List A → List A → Type 0
IsPartOf [] ys = Unit {0}
IsPartOf (x ∷ xs) [] = ⊥
IsPartOf (x ∷ xs) (y ∷ ys) = ((x ≡ y) × IsPartOf xs ys) ⊎ IsPartOf (x ∷ xs) ys

-- the releases of steps, without resent packets
abbrev pub released_first : List Release → List Release
released_first = filter (λ r. not (r.step == 0))
