-- Exchanges, computed through the definitions.
use Rattle.std.proofs.Common.{refl}
use Rattle.coord_types.specs.Table as table
use Rattle.coord_types.specs.NodeSet as set
use Rattle.coord_tables.specs.Links.{lane_at}
use Rattle.coord_orders.specs.WorkedExchange.{WorkedExchange}

pub worked_exchange : WorkedExchange
unfolding table.empty table.get table.insert table.remove table.change table.len set.contains set.empty set.insert set.remove set.len lane_at
worked_exchange = record { repeated = refl; once = refl; kept = refl; refused = refl; free = refl; carried_out = refl }
