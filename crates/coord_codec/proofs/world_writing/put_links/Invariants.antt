-- What the rows that are left give is missing.
use Rattle.std.proofs.Common.{◌≡◌, ◌++◌, [], ◌∷◌, drop, length}
use Rattle.std.specs.List.{flat_map}
use Rattle.coord_codec.specs.Worlds.{link_row}
use Rattle.coord_codec.proofs.world_writing.put_links.Given as goal

abbrev pub invariant-loop-row : goal.invariant-loop-row
invariant-loop-row l =
    l.out.items ++ flat_map (link_row l.world.version 0 [] []).text (drop l.row-index l.rows) ≡ (l.fn.out.items ++ length l.rows ∷ []) ++ flat_map (link_row l.world.version 0 [] []).text l.rows
