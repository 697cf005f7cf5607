-- Runs from the empty world, computed through the definitions.
use Rattle.std.proofs.Common.{refl}
use Rattle.coord_types.specs.Table as table
use Rattle.coord_types.specs.NodeSet as set
use Rattle.coord_tables.specs.Links.{lane_at}
use Rattle.coord_world.specs.laws.WorkedSteps.{StoredRun, TwoInitiators, TwoInitiatorsWithDistances, Distances, DropInAbort, DropInConverge}

-- two nodes and one reset
pub stored_computes : StoredRun
unfolding table.empty table.get table.insert table.remove table.change table.len set.contains set.empty set.insert set.remove set.len lane_at
stored_computes = (refl, refl)

-- two initiators
pub two_compute : TwoInitiators
unfolding table.empty table.get table.insert table.remove table.change table.len set.contains set.empty set.insert set.remove set.len lane_at
two_compute = (refl, refl)

-- a drop while the wave goes out
pub abort_computes : DropInAbort
unfolding table.empty table.get table.insert table.remove table.change table.len set.contains set.empty set.insert set.remove set.len lane_at
abort_computes = (refl, refl)

-- a drop after it has come back
pub converge_computes : DropInConverge
unfolding table.empty table.get table.insert table.remove table.change table.len set.contains set.empty set.insert set.remove set.len lane_at
converge_computes = (refl, refl)

-- waves of version 2
pub two_waves_compute : TwoInitiatorsWithDistances
unfolding table.empty table.get table.insert table.remove table.change table.len set.contains set.empty set.insert set.remove set.len lane_at
two_waves_compute = (refl, refl)

pub distances_compute : Distances
unfolding table.empty table.get table.insert table.remove table.change table.len set.contains set.empty set.insert set.remove set.len lane_at
distances_compute = record { taken = (refl, refl); orphan = refl; child = refl; signalled = refl }
