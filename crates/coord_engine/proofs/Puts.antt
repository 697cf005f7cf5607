-- A map from lanes and kinds to packets, once a packet was put into it.
use Rattle.std.proofs.Common.{◌≡◌, List, [], ◌∷◌, Bool, true, false, ◌&&◌, refl, sym, ap, ◌∙◌, if◌then◌else◌, arith}
use Rattle.std.proofs.Math.Bool.{beq}
use Rattle.std.proofs.lemmas.Bool.Decides.{Decides-eqb}
use Rattle.std.specs.Map.{values_of}
use Rattle.indexmap.specs.IndexMap.{insert_entry}
use Rattle.coord_types.specs.declared.packets.Packet.{Packet}
use Rattle.coord_engine.specs.declared.waiting.Slot.{Slot}
use Rattle.coord_engine.specs.Waiting.{is_alike, with_packet}
use Rattle.coord_engine.specs.code.Slots.{slot_of, is_same_slot, SlotsMatch}

beq_same : (a b : Bool) → beq a b ≡ true → a ≡ b
beq_same a b h1 = grind arith

both : (a b : Bool) → (a && b) ≡ true → (a ≡ true) × (b ≡ true)
both true b e = (refl, e)
both false b e = cc

same_slot : (a b : Slot) → is_same_slot a b ≡ true → a ≡ b
same_slot a b e = grind (arith, both, beq, Decides-eqb, beq_same)

and_true : (a b : Bool) → (a && (b && true)) ≡ (a && b)
and_true a b = grind arith

and_false : (a b : Bool) → (a && (b && false)) ≡ false
and_false a b = grind arith

-- two packets are alike where they are kept under the same
alike : (p q : Packet) → is_same_slot (slot_of p) (slot_of q) ≡ is_alike p q
alike p q = grind (arith, and_true, and_false)

match_by : (e : Slot × Packet) (es : List (Slot × Packet)) (p : Packet) → SlotsMatch (insert_entry is_same_slot es (slot_of p) p) → e.0 ≡ slot_of e.1 → SlotsMatch es → (b : Bool) → is_same_slot (slot_of p) e.0 ≡ b → SlotsMatch (if b then (e.0, p) ∷ es else e ∷ insert_entry is_same_slot es (slot_of p) p)
match_by e es p h k ks true same = (sym (same_slot _ _ same), ks)
match_by e es p h k ks false same = (k, h)

-- each packet is still kept under its own lane and kind
pub match_put : (es : List (Slot × Packet)) (p : Packet) → SlotsMatch es → SlotsMatch (insert_entry is_same_slot es (slot_of p) p)
match_put [] p h = (refl, tt)
match_put (e ∷ es) p h = match_by e es p (match_put es p h.1) h.0 h.1 (is_same_slot (slot_of p) e.0) refl

values_by : (e : Slot × Packet) (es : List (Slot × Packet)) (p : Packet) → values_of (insert_entry is_same_slot es (slot_of p) p) ≡ with_packet (values_of es) p → (b : Bool) → values_of (if b then (e.0, p) ∷ es else e ∷ insert_entry is_same_slot es (slot_of p) p) ≡ (if b then p ∷ values_of es else e.1 ∷ with_packet (values_of es) p)
values_by e es p h true = refl
values_by e es p h false = ap (λ l. e.1 ∷ l) h

-- the packets are those that wait once it was put
pub values_put : (es : List (Slot × Packet)) (p : Packet) → SlotsMatch es → values_of (insert_entry is_same_slot es (slot_of p) p) ≡ with_packet (values_of es) p
values_put [] p h = refl
values_put (e ∷ es) p h = values_by e es p (values_put es p h.1) (is_same_slot (slot_of p) e.0) ∙ ap (λ b. if b then p ∷ values_of es else e.1 ∷ with_packet (values_of es) p) (ap (is_same_slot (slot_of p)) h.0 ∙ alike p e.1)
