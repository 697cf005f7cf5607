-- Lists of consecutive numbers.
use Rattle.std.specs.Prelude.{ℕ, ◌+◌, ◌-◌, List}
use Rattle.std.specs.List.{range_with_len}

-- the numbers from u to `most`, both included, in ascending order
unfoldable pub numbers : ℕ → ℕ → List ℕ
numbers most u = range_with_len u (most + 1 - u)
