-- All faults of a world, in the order in which the checker reports them.
use Rattle.std.specs.Prelude.{◌≡◌, ℕ, ◌+◌, Bool, true, false, List, [], ◌∷◌, ◌++◌, Option, Some, None, if◌then◌else◌}
use Rattle.std.specs.List.{flat_map}
use Rattle.coord_types.specs.declared.limits.TheConstants.{MAX_NODES}
use Rattle.coord_types.specs.Facade.{has, numbers}
use Rattle.coord_link.specs.LaneMachine.{Lane, has_front_taken_at_most}
use Rattle.coord_world.specs.Facade.{Link, World, has_ack_in_one_place, has_no_early_ready, has_one_parent_at_most, has_one_ready_at_most, has_readies_first, has_ready_for_child, has_right_distances, is_legal_node, is_linked, lane_at, link, state, view}
use Rattle.coord_check.specs.LinkEnds.{lane_or_none}
use Rattle.coord_check.specs.declared.violation.Letter.{Letter}
use Rattle.coord_check.specs.declared.violation.Letter.TheVariants as letter
use Rattle.coord_check.specs.declared.violation.Violation.{Violation}

-- Whether the predicate with this letter holds for a link, seen from the sender's end. N concerns only nodes, so it
-- holds for every link.
abbrev pub holds_of : Letter → Lane → Link → Bool
holds_of letter.N lane l = true
holds_of letter.A lane l = has_front_taken_at_most lane
holds_of letter.B lane l = has_ack_in_one_place l
holds_of letter.C lane l = has_one_ready_at_most l
holds_of letter.D lane l = has_readies_first l
holds_of letter.E lane l = has_ready_for_child l
holds_of letter.F lane l = has_one_parent_at_most l
holds_of letter.G lane l = has_no_early_ready l
holds_of letter.H lane l = has_right_distances l

-- whether the predicate with this letter holds for the link of u and v, seen from the end u
abbrev pub link_holds : World → ℕ → ℕ → Letter → Bool
link_holds w u v x = holds_of x (lane_or_none (lane_at w.links u v)) (link (view w) u v)

-- the predicate with this letter fails: N at a present node, any other letter at a present link
abbrev pub FailsAt : World → ℕ → ℕ → Letter → Type 0
FailsAt w u v letter.N = (u ≡ v) × (has w.nodes u ≡ true) × (is_legal_node w.count (state w u) ≡ false)
FailsAt w u v x = (is_linked w u v ≡ true) × (link_holds w u v x ≡ false)

abbrev pub Fails : World → Violation → Type 0
Fails w v = FailsAt w v.a v.b v.letter

abbrev pub first : {X : Type 0} → List X → Option X
first [] = None
first (x ∷ xs) = Some x

-- the node numbers from u to the greatest, in ascending order
abbrev pub nodes_from : ℕ → List ℕ
nodes_from u = numbers MAX_NODES u

-- the violation if the test fails, otherwise nothing
abbrev pub fault_unless : Bool → Violation → List Violation
fault_unless b v = if b then [] else v ∷ []

-- The violation of N by a node, if any. A violation of N names the node twice.
abbrev pub node_faults : World → ℕ → List Violation
node_faults w u = if has w.nodes u then fault_unless (is_legal_node w.count (state w u)) (record { a = u; b = u; letter = letter.N }) else []

abbrev pub end_faults : World → ℕ → ℕ → Letter → List Violation
end_faults w u v x = fault_unless (link_holds w u v x) (record { a = u; b = v; letter = x })

-- the violations of one letter by the link of a and b, seen from each end
abbrev pub letter_faults : World → ℕ → ℕ → Letter → List Violation
letter_faults w a b x = end_faults w a b x ++ end_faults w b a x

unfoldable pub link_letters : List Letter
link_letters = letter.A ∷ letter.B ∷ letter.C ∷ letter.D ∷ letter.E ∷ letter.F ∷ letter.G ∷ letter.H ∷ []

abbrev pub link_faults : World → ℕ → ℕ → List Violation
link_faults w a b = if is_linked w a b then flat_map (letter_faults w a b) link_letters else []

-- the violations by a node's links to nodes with greater numbers
abbrev pub faults_from : World → ℕ → List Violation
faults_from w a = flat_map (link_faults w a) (nodes_from (a + 1))

-- all violations: first the violations by nodes, then the violations by links
abbrev pub faults : World → List Violation
faults w = flat_map (node_faults w) (nodes_from 1) ++ flat_map (faults_from w) (nodes_from 1)
