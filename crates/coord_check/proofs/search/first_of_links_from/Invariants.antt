-- The neighbours that were passed have no fault.
use Rattle.std.proofs.Common.{◌≡◌}
use Rattle.std.specs.List.{flat_map}
use Rattle.coord_types.specs.NodeSet as set
use Rattle.coord_check.specs.Faults.{first, faults_from}
use Rattle.coord_check.proofs.Walk.{reported_above}
use Rattle.coord_check.proofs.search.first_of_links_from.Given as goal

abbrev pub invariant-loop-b : goal.invariant-loop-b
invariant-loop-b l = first (flat_map (reported_above l.world l.a) (set.items l.rest)) ≡ first (faults_from l.world l.a)

abbrev pub decreases-loop-b : goal.decreases-loop-b
decreases-loop-b l = set.len l.rest
