-- The nodes that were passed have no fault.
use Rattle.std.proofs.Common.{◌≡◌}
use Rattle.std.specs.List.{flat_map}
use Rattle.coord_check.specs.Faults.{first, node_faults, nodes_from}
use Rattle.coord_check.proofs.search.first_of_nodes.Given as goal

abbrev pub invariant-loop-number : goal.invariant-loop-number
invariant-loop-number l = first (flat_map (node_faults l.world) (nodes_from l.number)) ≡ first (flat_map (node_faults l.world) (nodes_from 1))
