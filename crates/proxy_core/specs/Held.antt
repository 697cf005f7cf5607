-- A map with the number of each connection's lines that have no answer.
use Rattle.std.specs.Prelude.{◌≡◌, ℕ, ◌+◌, List, count_by}
use Rattle.std.specs.BTreeMap.{BTreeMap, get}
use Rattle.std.specs.Map.{count_at}
use Rattle.std.specs.Ordering.{nat_cmp}
use Rattle.proxy_core.specs.Pending.{Pending, is_from}

abbrev pub held_at : BTreeMap ℕ ℕ → ℕ → ℕ
held_at held c = count_at (get nat_cmp held) c

-- for each connection, the map has the number of its lines that are in flight or waiting
abbrev pub AreHeld : BTreeMap ℕ ℕ → List Pending → List Pending → Type 0
AreHeld held flight waiting = (c : ℕ) → held_at held c ≡ count_by (is_from c) flight + count_by (is_from c) waiting
