use Rattle.std.proofs.Common.{◌≡◌, ◌-◌, []}
use Rattle.coord_batch.specs.Format.{items_at}
use Rattle.coord_codec.specs.Worlds.{node_row}
use Rattle.coord_codec.proofs.world_reading.read_node_list.Given as goal

abbrev pub invariant-loop : goal.invariant-loop
invariant-loop l = items_at (node_row l.version l.count) (l.rows - l.counter) l.list.rows.items l.input ≡ items_at (node_row l.version l.count) l.rows [] l.fn.input
