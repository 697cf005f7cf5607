use Rattle.std.proofs.Common.{map}
use Rattle.coord_tables.specs.Links.{link_entry}
use Rattle.coord_tables.specs.Places.{IsIndexOfFirst}
use Rattle.coord_tables.proofs.places.index_all.Given as goal

abbrev pub invariant-loop-at : goal.invariant-loop-at
invariant-loop-at l = IsIndexOfFirst l.at l.places.items (map link_entry l.links)
