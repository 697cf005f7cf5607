-- The links of the lesser ends that were passed have no fault.
use Rattle.std.proofs.Common.{◌≡◌}
use Rattle.std.specs.List.{flat_map}
use Rattle.coord_check.specs.Faults.{first, faults_from, nodes_from}
use Rattle.coord_check.proofs.search.first_of_links.Given as goal

abbrev pub invariant-loop-number : goal.invariant-loop-number
invariant-loop-number l = first (flat_map (faults_from l.world) (nodes_from l.number)) ≡ first (flat_map (faults_from l.world) (nodes_from 1))
