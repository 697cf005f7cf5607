-- Fairness between connections: which waiting lines are in the next flight, however busy other connections are.
use Rattle.std.specs.Prelude.{◌≡◌, ℕ, ◌≤◌, ◌==◌, ◌&&◌, not, Bool, true, List, [], ◌∷◌, Option, Some, None, if◌then◌else◌, count_by}
use Rattle.proxy_core.specs.Pending.{Pending, is_from}
use Rattle.proxy_core.specs.Machine.{is_among, is_ready, joins, kind_of, picked, picks_of}

-- the oldest line that may fly: no older line of its connection waits, and if the line is an unnumbered order, the last number is
-- known. `seen` has the connections of the lines before this list
abbrev pub oldest_of : Bool → List ℕ → List Pending → Option Pending
oldest_of counted seen [] = None
oldest_of counted seen (a ∷ more) = if is_ready counted a && not (is_among a.from seen) then Some a else oldest_of counted (a.from ∷ seen) more

-- the first waiting line of a connection
abbrev pub first_from : ℕ → List Pending → Option Pending
first_from c [] = None
first_from c (a ∷ more) = if a.from == c then Some a else first_from c more

abbrev pub first_of : List Pending → Option Pending
first_of [] = None
first_of (a ∷ more) = Some a

abbrev pub next_flight : Bool → Bool → List Pending → List Pending
next_flight counted together waiting = picked (picks_of counted together waiting) waiting

-- the oldest line that may fly is the first one of the next flight
abbrev pub OldestFlies : Type 0
OldestFlies = (counted together : Bool) (waiting : List Pending) (oldest : Pending) → oldest_of counted [] waiting ≡ Some oldest → first_of (next_flight counted together waiting) ≡ Some oldest

-- if a connection's first waiting line may fly and is of the flight's kind, but the flight has no line of that connection, then
-- the flight has at most one line of each connection
abbrev pub FairShares : Type 0
FairShares = (counted together : Bool) (waiting : List Pending) (oldest a : Pending) (c : ℕ)
    → oldest_of counted [] waiting ≡ Some oldest → first_from c waiting ≡ Some a → is_ready counted a ≡ true → joins (kind_of oldest) a ≡ true
    → count_by (is_from c) (next_flight counted together waiting) ≡ 0 → (d : ℕ) → count_by (is_from d) (next_flight counted together waiting) ≤ 1
