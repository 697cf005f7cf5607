-- The releases of the stored run's reset, computed through the definitions.
use Rattle.std.proofs.Common.{refl}
use Rattle.coord_types.specs.Table as table
use Rattle.coord_types.specs.NodeSet as set
use Rattle.coord_tables.specs.Links.{lane_at}
use Rattle.coord_world.specs.laws.ReleasedRun.{ReleasedRun}
use Rattle.coord_world.proofs.waves.StoredWave.{reset_is_trail}

pub released_run : ReleasedRun
unfolding table.empty table.get table.insert table.remove table.change table.len set.contains set.empty set.insert set.remove set.len lane_at
released_run = record { trail = reset_is_trail; abort = refl; ack = refl; receipt = refl; ready = refl; given = refl; resent = refl }
