-- Values in slots: the value of key k is in slot k - 1, and a slot may be empty.
use Rattle.std.specs.Prelude.{◌≡◌, ℕ, suc, ◌-◌, ◌==◌, List, [], ◌∷◌, slice_get, Option, Some, None, if◌then◌else◌}
use Rattle.std.specs.Cmp.{nat_cmp_total}
use Rattle.coord_types.specs.Table.{Table, from_sorted}

-- the values with their keys; the first slot of the list has key n
abbrev pub slot_entries : {X : Type 0} → ℕ → List (Option X) → List (ℕ × X)
slot_entries n [] = []
slot_entries n (None ∷ xs) = slot_entries (suc n) xs
slot_entries n (Some x ∷ xs) = (n, x) ∷ slot_entries (suc n) xs

abbrev pub flat : {X : Type 0} → Option (Option X) → Option X
flat None = None
flat (Some o) = o

-- the content of slot i; a slot beyond the end of the list is empty
abbrev pub slot_at : {X : Type 0} → List (Option X) → ℕ → Option X
slot_at xs i = flat (slice_get xs i)

-- the table that a list of slots represents
abbrev pub slot_table : {X : Type 0} → List (Option X) → Table nat_cmp_total X
slot_table xs = from_sorted (slot_entries 1 xs)

-- `xs` equals `ys`, except that the slot of key k has the content o
abbrev pub IsSetAt : {X : Type 0} → ℕ → Option X → List (Option X) → List (Option X) → Type 0
IsSetAt {X} k o xs ys = (i : ℕ) → slot_at xs i ≡ (if i == k - 1 then o else slot_at ys i)
