-- A set of nodes as a number with a bit for each node: node k is bit k - 1.
use Rattle.std.specs.Prelude.{◌≡◌, ◌≤◌, ℕ, zero, suc, ◌+◌, ◌^◌, ◌==◌, Bool, true, if◌then◌else◌}
use Rattle.std.specs.Int.{bit_at}
use Rattle.coord_types.specs.declared.limits.TheConstants.{MAX_NODES}
use Rattle.coord_types.specs.NodeSet as set

-- the set of the nodes from 1 to n that pass the test; node k is tested at index k - 1
unfoldable pub nodes_where : (ℕ → Bool) → ℕ → set.NodeSet
nodes_where test zero = set.empty
nodes_where test (suc n) = if test n then set.insert (nodes_where test n) (suc n) else nodes_where test n

abbrev pub is_set : ℕ → ℕ → Bool
is_set bits i = bit_at bits i == 1

-- the set that a mask represents
abbrev pub nodes_of : ℕ → set.NodeSet
nodes_of bits = nodes_where (is_set bits) MAX_NODES

-- the number whose bit k is set if and only if k is less than n and passes the test
unfoldable pub bits_where : (ℕ → Bool) → ℕ → ℕ
bits_where test zero = 0
bits_where test (suc n) = if test n then bits_where test n + 2 ^ n else bits_where test n

-- the mask that represents a set
abbrev pub mask_of : set.NodeSet → ℕ
mask_of s = bits_where (λ i. set.contains s (suc i)) MAX_NODES

-- every member is a node number from 1 to 64, so the mask has a bit for it
abbrev pub IsMaskable : set.NodeSet → Type 0
IsMaskable s = (k : ℕ) → set.contains s k ≡ true → (1 ≤ k) × (k ≤ MAX_NODES)
