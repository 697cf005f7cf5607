use Rattle.std.proofs.Common.{◌≡◌, ◌+◌, ◌≤◌, ℕ, List, Option, drop, length}
use Rattle.coord_tables.specs.Slots.{slot_entries}
use Rattle.coord_tables.proofs.slots.count.Given as goal

-- what the slots that are left have is not counted
pub record AreCounted {X : Type 0} (slots : List (Option X)) (count at : ℕ) : Type 0 where
  pub few : count ≤ at
  pub left : count + length (slot_entries (at + 1) (drop at slots)) ≡ length (slot_entries 1 slots)

abbrev pub invariant-loop-slot : goal.invariant-loop-slot
invariant-loop-slot g l = AreCounted l.slots l.count l.slot-index
