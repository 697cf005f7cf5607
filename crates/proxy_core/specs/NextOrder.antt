-- The line that the server's next answer belongs to.
use Rattle.std.specs.Prelude.{ℕ, List, [], ◌∷◌, Option, Some, None, if◌then◌else◌}
use Rattle.proxy_core.specs.Rules.{next}
use Rattle.proxy_core.specs.Pending.{Pending}

-- the first line of the flight, if it is an order; None if it is a query, or if nothing is in flight
abbrev pub next_order : List Pending → Option (List ℕ)
next_order [] = None
next_order (a ∷ more) = if a.is_query then None else Some a.line

-- the number that the proxy gave to the first line of the flight; None if the proxy gave it no number, or if nothing is in flight
abbrev pub next_number : ℕ → List Pending → Option ℕ
next_number number [] = None
next_number number (a ∷ more) = if a.is_unnumbered then Some (next number) else None
