-- How long a connection's oldest unanswered line has waited.
use Rattle.std.specs.Prelude.{ℕ, ◌-◌, List, [], ◌∷◌, Option, Some, None}
use Rattle.std.specs.Duration.{as_nanos}
use Rattle.std.specs.declared.time.Duration.{Duration}

-- the time since the first of these times, in nanoseconds, or 0 if no line waits
abbrev pub waited_since : ℕ → List Duration → ℕ
waited_since now [] = 0
waited_since now (asked ∷ more) = now - as_nanos asked

-- the role of a connection; before its header has arrived, the proxy's own role
abbrev pub role_of : Option ℕ → ℕ
role_of None = 0
role_of (Some role) = role
