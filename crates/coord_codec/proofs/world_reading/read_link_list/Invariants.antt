use Rattle.std.proofs.Common.{◌≡◌, ◌≤◌, ◌-◌, [], length}
use Rattle.coord_batch.specs.Format.{items_at}
use Rattle.coord_codec.specs.Worlds.{link_row}
use Rattle.coord_codec.proofs.world_reading.read_link_list.Given as goal

abbrev pub invariant-loop : goal.invariant-loop
invariant-loop l = (items_at (link_row l.version l.count l.nodes.rows.items) (l.rows - l.counter) l.list.rows.items l.input ≡ items_at (link_row l.version l.count l.nodes.rows.items) l.rows [] l.fn.input) × (length l.list.rows.items ≤ l.counter)
