-- A duration in nanoseconds, written as seconds with six decimal places.
use Rattle.std.specs.Prelude.{ℕ, ◌+◌, ◌/◌, ◌%◌, List, ◌∷◌, ◌++◌, drop, decimal}

-- a number of microseconds below 1,000,000, written with six digits
abbrev pub six_digits : ℕ → List ℕ
six_digits micros = drop 1 (decimal (1_000_000 + micros))

unfoldable pub seconds_text : ℕ → List ℕ
seconds_text nanos = decimal (nanos / 1_000_000_000) ++ 46 ∷ six_digits (nanos % 1_000_000_000 / 1_000)
