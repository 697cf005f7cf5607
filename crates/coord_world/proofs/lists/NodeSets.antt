-- Sets of nodes.
use Rattle.std.proofs.Common.{◌≡◌, ℕ, true, false, ap, ◌∙◌, arith, eqb}
use Rattle.std.proofs.lemmas.Bool.Decides.{nat_tests}
use Rattle.coord_types.specs.NodeSet.{NodeSet, contains, len}
use Rattle.coord_types.proofs.Sets.{contains-empty, contains-insert, empty_of_len}
use Rattle.coord_node.specs.Rules.{is_empty, only}

-- an empty set has no members
pub empty_has : (s : NodeSet) (x : ℕ) → is_empty s ≡ true → contains s x ≡ false
empty_has s x e =
    let zero : len s ≡ 0 = grind (arith, nat_tests) in
    ap (λ t. contains t x) (empty_of_len s zero) ∙ contains-empty x

-- a set of one node
pub has_only : (k q : ℕ) → contains (only k) q ≡ eqb q k
has_only k q = grind (arith, contains-insert, contains-empty, nat_tests)
