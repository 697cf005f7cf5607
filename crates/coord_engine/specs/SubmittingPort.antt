-- A port that submits packets itself: its state, and its possible states after each request.
use Rattle.std.specs.Prelude.{◌≡◌, ◌≤◌, ℕ, Bool, true, false, List, [], ◌∷◌, ◌++◌, length}
use Rattle.coord_types.specs.declared.packets.Packet.{Packet}
use Rattle.coord_ledger.specs.declared.ticket.Note.{Note}
use Rattle.coord_engine.specs.State.{Basis}
use Rattle.coord_engine.specs.Working.{WorksAndTries}
use Rattle.coord_engine.specs.declared.hand.Hand.{Hand}

-- The state of a port that submits packets itself: the other port, which gets the signals; the gathered
-- packets, and the room for them; the notes of the packets that were accepted; and the packets that wait, with
-- the counts of a worker.
pub record Submitting (P : Type 0) : Type 0 where
  pub signals : P
  pub gathered : List Packet
  pub room : ℕ
  pub notes : List Note
  pub hand : Hand

-- Nothing but the gathered packets has changed, and there is at least as much room as before.
pub record KeepsRest {P : Type 0} (port later : Submitting P) : Type 0 where
  pub signals : later.signals ≡ port.signals
  pub notes : later.notes ≡ port.notes
  pub hand : later.hand ≡ port.hand
  pub room : port.room ≤ later.room

-- A packet is appended to the gathered packets. It may be lost only if there is no room.
abbrev pub Gathers : {P : Type 0} → Submitting P → ℕ → Packet → Bool → Submitting P → Type 0
Gathers port to packet true later = (later.gathered ≡ port.gathered ++ packet ∷ []) × KeepsRest port later
Gathers port to packet false later = (later.gathered ≡ port.gathered) × (port.room ≤ length port.gathered) × KeepsRest port later

-- A signal is passed on to the other port, whose answer is returned. `signalled` gives the possible states of
-- the other port afterwards.
abbrev pub PassesOn : {P : Type 0} → (P → ℕ → ℕ → ℕ → Bool → P → Type 0) → Submitting P → ℕ → ℕ → ℕ → Bool → Submitting P → Type 0
PassesOn signalled port step node epoch answer later =
    signalled port.signals step node epoch answer later.signals × (later.gathered ≡ port.gathered) × (later.room ≡ port.room) × (later.notes ≡ port.notes) × (later.hand ≡ port.hand)

-- The gathered packets are submitted in order, and then the waiting packets are tried again. Afterwards no
-- gathered packet is left, and each of them is counted as handled.
abbrev pub SubmitsGathered : {D P : Type 0} → Basis D → Submitting P → ℕ → Submitting P → Type 0
SubmitsGathered b port lost later =
    (lost ≡ 0) × (later.signals ≡ port.signals) × (later.gathered ≡ []) × (port.room ≤ later.room) × WorksAndTries b port.notes port.hand port.gathered later.notes later.hand
