-- The numbers up to a greatest one, one after the other.
use Rattle.std.proofs.Common.{◌≡◌, ℕ, suc, ◌+◌, ◌-◌, ◌<◌, ◌≤◌, [], ◌∷◌, ap, arith}
use Rattle.std.specs.List.{range_with_len}
use Rattle.coord_types.specs.Numbers.{numbers}

-- the first of the numbers, and those after it
pub numbers_next : (most u : ℕ) → u ≤ most → numbers most u ≡ u ∷ numbers most (u + 1)
unfolding numbers
numbers_next most u le = let one_more : most + 1 - u ≡ suc (most + 1 - (u + 1)) = omega (arith, le) in ap (range_with_len u) one_more

pub no_more_numbers : (most u : ℕ) → most < u → numbers most u ≡ []
unfolding numbers
no_more_numbers most u past = let none : most + 1 - u ≡ 0 = omega (arith, past) in ap (range_with_len u) none
