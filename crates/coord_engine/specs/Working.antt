-- The work of a worker: the packets that arrive, the attempts to submit them, the waiting packets, and the
-- notes of the worker's share.
use Rattle.std.specs.Prelude.{◌≡◌, ◌⊎◌, ℕ, ◌+◌, ◌-◌, ◌^◌, min, Bool, true, false, List, [], ◌∷◌, ◌++◌, All, Result, Ok, Err, Vec, flat_map}
use Rattle.std.specs.declared.alloc.Global.{Global}
use Rattle.coord_types.specs.declared.packets.Packet.{Packet}
use Rattle.coord_types.specs.declared.refusals.Refusal.{Refusal}
use Rattle.coord_types.specs.declared.refusals.Refusal.TheVariants.{OutOfMemory, PendingFull}
use Rattle.coord_ledger.specs.declared.ticket.Note.{Note}
use Rattle.coord_ledger.specs.ledger.State.{Claim}
use Rattle.coord_engine.specs.Port.{step_of}
use Rattle.coord_engine.specs.State.{Basis}
use Rattle.coord_engine.specs.Threads.{AtSomeMoment, Submits}
use Rattle.coord_engine.specs.Waiting.{with_packet}
use Rattle.coord_engine.specs.declared.hand.Hand.{Hand}

-- This is the note of a step that a packet became.
abbrev pub IsOfPacket : Note → Type 0
IsOfPacket n = (p : Packet) × (n.what ≡ step_of p)

-- The later notes are the earlier notes followed by notes of packets.
pub record AddsPackets (notes later : List Note) : Type 0 where
  pub added : List Note
  pub are : later ≡ notes ++ added
  pub packets : All IsOfPacket added

-- whether a packet waits for another attempt after this refusal, because there was no room for its step
abbrev pub has_to_wait : Refusal → Bool
has_to_wait PendingFull = true
has_to_wait OutOfMemory = true
has_to_wait refusal = false

-- whether a packet waits for another attempt after this answer
abbrev pub waits_after : Result Claim Refusal → Bool
waits_after (Ok claim) = false
waits_after (Err refusal) = has_to_wait refusal

-- the next number, or the greatest u64 if n is that number
abbrev pub one_more : ℕ → ℕ
one_more n = min (n + 1) (2 ^ 64 - 1)

-- the state after one more packet was counted as handled
abbrev pub with_put_down : Hand → Hand
with_put_down hand = record hand { put_down = one_more hand.put_down }

-- The state of a worker after it submitted a packet. A packet that has to wait is kept; if memory for that
-- runs out, the packet is lost and counted as lost. If the packet need not wait, the state is unchanged.
abbrev pub Keeps : Bool → Hand → Packet → Hand → Type 0
Keeps true hand p kept = (kept ≡ record hand { waiting = with_packet hand.waiting p }) ⊎ (kept ≡ record hand { lost = one_more hand.lost })
Keeps false hand p kept = kept ≡ hand

-- the packets of all parcels, in order
abbrev pub all_packets : List (Vec Packet Global) → List Packet
all_packets parcels = flat_map (λ parcel. parcel.items) parcels

module _ {D : Type 0} (b : Basis D) where
  -- The packet's step was submitted. `waits` says whether the packet has to wait.
  pub record Tries (notes : List Note) (p : Packet) (waits : Bool) (later : List Note) : Type 0 where
    pub answer : Result Claim Refusal
    pub submits : AtSomeMoment b (Submits {D = D} (step_of p) answer notes later)
    pub follows : waits ≡ waits_after answer

  -- The waiting packets were submitted in order, up to the first packet that still has to wait.
  abbrev pub TriesAll : List Note → List Packet → List Note → List Packet → Type 0
  TriesAll notes [] later left = (later ≡ notes) × (left ≡ [])
  TriesAll notes (p ∷ ps) later left =
      (next : List Note) × (waits : Bool) × Tries notes p waits next
      × (((waits ≡ true) × (later ≡ next) × (left ≡ p ∷ ps)) ⊎ ((waits ≡ false) × TriesAll next ps later left))

  -- The packet was submitted, kept if it has to wait, and counted as handled.
  pub record TakesPacket (notes : List Note) (hand : Hand) (p : Packet) (later : List Note) (left : Hand) : Type 0 where
    pub waits : Bool
    pub tries : Tries notes p waits later
    pub kept : Hand
    pub keeps : Keeps waits hand p kept
    pub puts_down : left ≡ with_put_down kept

  -- These packets arrived in this order. Each was submitted, and then the waiting packets were tried before
  -- the next packet.
  abbrev pub Works : List Note → Hand → List Packet → List Note → Hand → Type 0
  Works notes hand [] later left = (later ≡ notes) × (left ≡ hand)
  Works notes hand (p ∷ came) later left =
      (taken : List Note) × (kept : Hand) × (next : List Note) × (rest : List Packet)
      × TakesPacket notes hand p taken kept × TriesAll taken kept.waiting next rest × Works next (record kept { waiting = rest }) came later left

  -- These packets arrived in this order and were submitted. At the end the waiting packets were tried again.
  abbrev pub WorksAndTries : List Note → Hand → List Packet → List Note → Hand → Type 0
  WorksAndTries notes hand came later left =
      (next : List Note) × (kept : Hand) × (rest : List Packet) × Works notes hand came next kept × TriesAll next kept.waiting later rest × (left ≡ record kept { waiting = rest })
