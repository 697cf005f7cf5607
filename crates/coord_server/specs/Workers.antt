-- The worker to which a packet is carried.
use Rattle.std.specs.Prelude.{ℕ, ◌%◌}
use Rattle.coord_types.specs.declared.packets.Packet.{Packet}
use Rattle.coord_types.specs.declared.packets.Packet.TheVariants.{Carried, Receipted}

-- Each of the eight workers has the nodes whose number modulo 8 is the worker's number. A data packet is carried to the node
-- `to`, and a receipt back to the node `from`.
abbrev pub worker_of : Packet → ℕ
worker_of (Carried p) = p.to % 8
worker_of (Receipted p) = p.from % 8
