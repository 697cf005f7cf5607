use Rattle.std.proofs.Common.{◌≡◌, ◌++◌, take}
use Rattle.std.specs.List.{flat_map}
use Rattle.coord_look.specs.Reading.{link_entries, node_entries}
use Rattle.coord_look.proofs.reading.party_in.Given as goal

abbrev pub invariant-loop-row : goal.invariant-loop-row
invariant-loop-row l = l.party.items ≡ flat_map (node_entries l.reached) (take l.row-index l.view.nodes)

abbrev pub invariant-loop-link : goal.invariant-loop-link
invariant-loop-link l = l.party.items ≡ flat_map (node_entries l.reached) l.view.nodes ++ flat_map (link_entries l.reached) (take l.link-index l.view.links)
