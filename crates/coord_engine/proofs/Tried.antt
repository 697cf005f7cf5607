-- Packets that wait, tried one after the other.
use Rattle.std.proofs.Common.{◌≡◌, ◌+◌, true, false, Bool, List, [], ◌∷◌, Option, Some, None, drop, length, refl, ap, arith, inl, inr, slice_get}
use Rattle.coord_types.specs.declared.packets.Packet.{Packet}
use Rattle.coord_ledger.specs.declared.ticket.Note.{Note}
use Rattle.coord_engine.specs.Facade.{Basis, Tries, TriesAll}

abbrev some_is : {A : Type 0} (d : A) → Option A → A
some_is d None = d
some_is d (Some x) = x

pub drops_one : (waiting : List Packet) (p : Packet) → slice_get waiting 0 ≡ Some p → length (drop 1 waiting) + 1 ≡ length waiting
drops_one [] p is = cc
drops_one (q ∷ waiting) p is = omega arith

module _ {D : Type 0} (b : Basis D) (notes next : List Note) where
  -- the first still has to wait
  pub tries_stuck : (waiting : List Packet) (p : Packet) (waits : Bool) → slice_get waiting 0 ≡ Some p → Tries b notes p waits next → waits ≡ true → TriesAll b notes waiting next waiting
  tries_stuck [] p waits is tried stays = cc
  tries_stuck (q ∷ waiting) p waits is tried stays = (next, waits, rw (ap (some_is p) is) tried, inl (stays, refl, refl))

  -- the first that waits is done with, and the others are tried
  pub tries_on : (waiting : List Packet) (p : Packet) (waits : Bool) (later : List Note) (left : List Packet) → slice_get waiting 0 ≡ Some p → Tries b notes p waits next → waits ≡ false
      → TriesAll b next (drop 1 waiting) later left → TriesAll b notes waiting later left
  tries_on [] p waits later left is tried goes rest = cc
  tries_on (q ∷ waiting) p waits later left is tried goes rest = (next, waits, rw (ap (some_is p) is) tried, inr (goes, rest))
