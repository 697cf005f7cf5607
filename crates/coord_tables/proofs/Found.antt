-- Look-ups in a table after a change of it.
use Rattle.std.proofs.Common.{◌≡◌, ℕ, true, Some, None, IsSome, cond, eqb, arith}
use Rattle.std.specs.Ordering.{eq_by_cmp, nat_cmp}
use Rattle.std.specs.Cmp.{nat_cmp_total}
use Rattle.std.proofs.lemmas.Bool.Decides.{nat_tests}
use Rattle.coord_types.specs.Table as table
use Rattle.coord_types.specs.Table.{Table, get}
use Rattle.coord_types.proofs.Tables.{get-insert, get-remove}
use Rattle.coord_tables.specs.Pairs.{pair_cmp}

-- numbers that tie are equal
pub same_number : (p q : ℕ) → eq_by_cmp nat_cmp p q ≡ true → p ≡ q
same_number p q h = grind (arith, nat_tests)

-- pairs of numbers that tie are equal
pub same_pair : (p q : ℕ × ℕ) → eq_by_cmp pair_cmp p q ≡ true → p ≡ q
same_pair p q h = grind arith

-- by number
pub get-set : {X : Type 0} (m : Table nat_cmp_total X) (u : ℕ) (x : X) (q : ℕ) → get (table.insert m u x) q ≡ cond (eqb q u) (Some x) (get m q)
get-set m u x q = grind (arith, get-insert)

-- who is there stays
pub set_stays : {X : Type 0} (m : Table nat_cmp_total X) (u : ℕ) (x : X) (q : ℕ) → IsSome (get m q) → IsSome (get (table.insert m u x) q)
set_stays m u x q h1 = grind (arith, get-set)

-- who is there after a removal
pub get-unset : {X : Type 0} (m : Table nat_cmp_total X) (u q : ℕ) → get (table.remove m u) q ≡ cond (eqb q u) None (get m q)
get-unset m u q = grind (arith, get-remove)
