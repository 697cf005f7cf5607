-- The waiting packets as a map. The key of a packet is its lane and kind.
use Rattle.std.specs.Prelude.{◌≡◌, List, [], ◌∷◌, Bool, true, false, ◌&&◌, ◌==◌}
use Rattle.std.proofs.Math.Bool.{beq}
use Rattle.coord_types.specs.declared.packets.Packet.{Packet}
use Rattle.coord_types.specs.declared.packets.Packet.TheVariants.{Carried, Receipted}
use Rattle.coord_engine.specs.declared.waiting.Slot.{Slot}

-- the key of a packet
abbrev pub slot_of : Packet → Slot
slot_of (Carried p) = record { from = p.from; to = p.to; is_receipt = false }
slot_of (Receipted p) = record { from = p.from; to = p.to; is_receipt = true }

-- whether two keys are equal, as the map compares them
abbrev pub is_same_slot : Slot → Slot → Bool
is_same_slot a b = (a.from == b.from) && ((a.to == b.to) && beq a.is_receipt b.is_receipt)

-- Each packet is stored under its own lane and kind.
abbrev pub SlotsMatch : List (Slot × Packet) → Type 0
SlotsMatch [] = Unit {0}
SlotsMatch (e ∷ es) = (e.0 ≡ slot_of e.1) × SlotsMatch es
