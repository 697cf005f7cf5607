-- How many entries tables have.
use Rattle.std.proofs.Common.{◌≡◌, ℕ, ◌+◌, ◌≤◌, true, List, [], ◌∷◌, cond, length, refl, ap, arith, Ordering}
use Rattle.std.specs.Cmp.{IsTotalOrder}
use Rattle.std.specs.FinMap.Entries.{length-put, length_without}
use Rattle.coord_types.specs.NodeSet as set
use Rattle.coord_types.specs.NodeSet.{NodeSet}
use Rattle.coord_types.specs.Table.{Table, change, changed_by, get, has, insert, len, remove}

module _ {K X : Type 0} {R : K → K → Ordering} {o : IsTotalOrder R} where
  -- one more if the key is new
  pub len-insert : (m : Table o X) (k : K) (x : X) → len (insert m k x) ≡ cond (has m k) (len m) (len m + 1)
  unfolding len insert get
  len-insert m k x = length-put R o k x m.list m.sorted

  -- one fewer if the key was there
  pub len-remove : (m : Table o X) (k : K) → cond (has m k) 1 0 + len (remove m k) ≡ len m
  unfolding len remove get
  len-remove m k = length_without R o k m.list m.sorted

-- changed values are as many
length-changed : {K X : Type 0} (R : K → K → Ordering) (f : K → X → X) (es : List (K × X)) → length (changed_by R f es) ≡ length es
length-changed R f [] = refl
length-changed R f (e ∷ es) = omega (arith, length-changed R f es)

-- a change of values keeps the number
pub len-change : {K X : Type 0} {R : K → K → Ordering} {o : IsTotalOrder R} (f : K → X → X) (m : Table o X) → len (change f m) ≡ len m
unfolding len change
len-change {R = R} f m = length-changed R f m.list

-- a set without a node has no more
pub len-remove_le : (s : NodeSet) (k : ℕ) → set.len (set.remove s k) ≤ set.len s
unfolding set.len set.remove
len-remove_le s k = omega (arith, len-remove s k)

-- a set without a node has one fewer if the node was there
pub len-remove_one : (s : NodeSet) (k : ℕ) → set.contains s k ≡ true → set.len (set.remove s k) + 1 ≡ set.len s
unfolding set.len set.remove set.contains
len-remove_one s k there = omega (arith, len-remove s k, ap (λ t. cond t 1 0 + len (remove s k)) there)

-- a set with one more has one more at most
pub len-insert_le : (s : NodeSet) (k : ℕ) → set.len (set.insert s k) ≤ set.len s + 1
unfolding set.len set.insert
len-insert_le s k = grind (arith, len-insert s k tt)
