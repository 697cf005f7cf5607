-- The packets that wait for another attempt: at most one for each lane and kind (data or receipt), in the
-- order in which their lanes and kinds first arrived.
use Rattle.std.specs.Prelude.{List, [], ◌∷◌, Bool, false, ◌&&◌, ◌==◌, if◌then◌else◌}
use Rattle.coord_types.specs.declared.packets.Packet.{Packet}
use Rattle.coord_types.specs.declared.packets.Packet.TheVariants.{Carried, Receipted}

-- whether two packets have the same lane and kind
abbrev pub is_alike : Packet → Packet → Bool
is_alike (Carried p) (Carried q) = (p.from == q.from) && (p.to == q.to)
is_alike (Receipted p) (Receipted q) = (p.from == q.from) && (p.to == q.to)
is_alike (Carried p) (Receipted q) = false
is_alike (Receipted p) (Carried q) = false

-- the waiting packets after one more packet arrived: it replaces the packet of its lane and kind, or is
-- appended
abbrev pub with_packet : List Packet → Packet → List Packet
with_packet [] p = p ∷ []
with_packet (q ∷ qs) p = if is_alike p q then p ∷ qs else q ∷ with_packet qs p
