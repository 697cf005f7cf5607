use Rattle.std.proofs.Common.{◌≡◌, ◌<◌, ℕ}
use Rattle.coord_tables.specs.Slots.{slot_at}
use Rattle.coord_tables.proofs.slots.is_same_slots.Given as goal

abbrev pub invariant-loop-at : goal.invariant-loop-at
invariant-loop-at g l = (i : ℕ) → i < l.at → slot_at l.a i ≡ slot_at l.b i
