use Rattle.std.proofs.Common.{◌≡◌, ◌-◌, []}
use Rattle.coord_batch.specs.Format.{items_at}
use Rattle.coord_codec.specs.Worlds.{client_row, last_by}
use Rattle.coord_codec.proofs.world_reading.read_client_list.Given as goal

abbrev pub invariant-loop : goal.invariant-loop
invariant-loop l = (items_at (client_row l.count) (l.rows - l.counter) l.list.items l.input ≡ items_at (client_row l.count) l.rows [] l.fn.input) × (l.last ≡ last_by (λ r. r.client) 0 l.list.items)
