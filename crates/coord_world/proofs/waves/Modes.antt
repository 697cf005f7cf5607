-- What the modes of nodes say: who is in a reset, and who has Aborts on the way.
use Rattle.std.proofs.Common.{◌≡◌, ℕ, ◌≤◌, true, false, not, Some, refl, sym, ◌∙◌, arith}
use Rattle.std.proofs.lemmas.Bool.Decides.{nat_tests}
use Rattle.coord_types.specs.Facade.{Ideal, NodeState, contains}
use Rattle.coord_types.specs.declared.messages.Mode.{Mode}
use Rattle.coord_types.specs.declared.messages.Mode.TheVariants.{Ready, Abort}
use Rattle.coord_tables.proofs.Cases.{by_test}
use Rattle.coord_world.specs.protocol.Links.{aborts, is_abort, is_ready, one}
use Rattle.coord_node.specs.Rules.{is_empty}
use Rattle.coord_world.proofs.lists.NodeSets.{empty_has}
use Rattle.coord_world.proofs.legal.Sound.{Sound}
use Rattle.coord_world.proofs.legal.TransitionKept.{both_before}

-- 1 for a node that isn't Ready
abbrev pub busy : NodeState → ℕ
busy r = one (not (is_ready r.mode))

-- the neighbours stay
abbrev pub SameNear : Ideal → Ideal → Type 0
SameNear z y = (a b : ℕ) → contains (y.state a).neighbours b ≡ contains (z.state a).neighbours b

-- what is_ready says
pub mode_is_ready : (m : Mode) → is_ready m ≡ true → m ≡ Ready
mode_is_ready m h1 = grind (arith, nat_tests, h1)

-- what is_abort says
pub mode_is_abort : (m : Mode) → is_abort m ≡ true → m ≡ Abort
mode_is_abort m h1 = grind (arith, nat_tests, h1)

-- an Abort node isn't Ready
pub abort_busy : (m : Mode) → is_abort m ≡ true → is_ready m ≡ false
abort_busy m h1 = grind (arith, nat_tests, h1)

-- who has an Abort on the way is Abort
pub sender_aborts : (z : Ideal) → Sound z → (v t : ℕ) → contains (z.state t).neighbours v ≡ true → 1 ≤ aborts (z.in_transit v t) → is_abort (z.state v).mode ≡ true
sender_aborts z sound v t near came =
    let near_t = sym (sound.mirrored t v) ∙ near in
    let both = both_before z v sound t near_t in
    grind (arith, both.from.counted, both.here.waiting)

-- a node with a parent isn't Ready
pub child_busy : (z : Ideal) → Sound z → (x p : ℕ) → (z.state x).parent ≡ Some p → is_ready (z.state x).mode ≡ false
child_busy z sound x p up = by_test (is_ready (z.state x).mode) (λ b. b ≡ false) (λ h. absurd (let none = (sound.nodes x).no_parent (mode_is_ready (z.state x).mode h) in cc)) (λ _. refl)

-- a node that is another one's neighbour has a neighbour
pub linked_some : (z : Ideal) → Sound z → (a b : ℕ) → contains (z.state a).neighbours b ≡ true → is_empty (z.state b).neighbours ≡ false
linked_some z sound a b near = let back = sym (sound.mirrored a b) ∙ near in grind (arith, back, empty_has (z.state b).neighbours a)
