-- Worked examples: packets that wait.
use Rattle.std.specs.Prelude.{◌≡◌, ℕ, [], ◌∷◌}
use Rattle.coord_types.specs.declared.messages.Msg.TheVariants.{Abort}
use Rattle.coord_types.specs.declared.packets.Packet.{Packet}
use Rattle.coord_types.specs.declared.packets.Packet.TheVariants.{Carried, Receipted}
use Rattle.coord_engine.specs.Waiting.{with_packet}

-- data from u to v with this number, and its receipt
abbrev pub sent : ℕ → ℕ → ℕ → Packet
sent u v n = Carried (record { from = u; to = v; inc = 3; number = n; msg = Abort 0 })

abbrev pub receipt : ℕ → ℕ → ℕ → Packet
receipt u v n = Receipted (record { from = u; to = v; inc = 3; number = n })

-- Later data of a lane takes the place of the lane's earlier data.
abbrev pub LaterInPlace : Type 0
LaterInPlace = with_packet (with_packet (with_packet [] (sent 1 2 1)) (sent 2 1 1)) (sent 1 2 2) ≡ sent 1 2 2 ∷ sent 2 1 1 ∷ []

-- Data and a receipt of one lane both wait.
abbrev pub BothKinds : Type 0
BothKinds = with_packet (with_packet [] (sent 1 2 1)) (receipt 1 2 1) ≡ sent 1 2 1 ∷ receipt 1 2 1 ∷ []
