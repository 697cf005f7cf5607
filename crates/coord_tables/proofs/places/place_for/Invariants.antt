use Rattle.std.proofs.Common.{◌≡◌, ◌<◌, ℕ, Some, Greater, map, slice_get}
use Rattle.coord_tables.specs.Links.{Lanes, link_entry}
use Rattle.coord_tables.specs.Pairs.{pair_cmp}
use Rattle.coord_tables.proofs.places.place_for.Given as goal

abbrev pub invariant-loop-at : goal.invariant-loop-at
invariant-loop-at l = (j : ℕ) (e : (ℕ × ℕ) × Lanes) → j < l.at → slice_get (map link_entry l.links) j ≡ Some e → pair_cmp (l.a, l.b) e.0 ≡ Greater
