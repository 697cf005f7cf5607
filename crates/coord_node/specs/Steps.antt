-- The nodes that act on a step, and the kind of its reply, as functions of the states of all nodes. The transitions also depend
-- on the version of the world.
use Rattle.std.specs.Prelude.{ℕ, List, [], ◌∷◌, if◌then◌else◌}
use Rattle.coord_types.specs.NodeState.{NodeState}
use Rattle.coord_types.specs.declared.messages.Mode.{Mode}
use Rattle.coord_types.specs.declared.messages.Mode.TheVariants as mode
use Rattle.coord_types.specs.declared.steps.Command.{Command}
use Rattle.coord_types.specs.declared.steps.Command.TheVariants.{Add, Remove, Join, Drop, Reset, Confirm}
use Rattle.coord_types.specs.declared.steps.Step.{Step}
use Rattle.coord_types.specs.declared.steps.Step.TheVariants.{Order, Take, Clear}
use Rattle.coord_types.specs.declared.steps.Kind.{Kind}
use Rattle.coord_types.specs.declared.steps.Kind.TheVariants.{Done, Started, Finished, Joined, Taken, Cleared}
use Rattle.coord_node.specs.Rules.{Transition, transition, request, lost, is_empty}

-- the transitions of a command, in order; a Drop has one for each end, first for a, then for b
abbrev pub transitions_ordered : ℕ → (ℕ → NodeState) → Command → List (ℕ × Transition)
transitions_ordered version states (Add u g) = []
transitions_ordered version states (Remove u) = []
transitions_ordered version states (Join a b) = []
transitions_ordered version states (Drop a b) = (a, lost (states a) b) ∷ (b, lost (states b) a) ∷ []
transitions_ordered version states (Reset u) = (u, request version (states u)) ∷ []
transitions_ordered version states (Confirm u e) = []

abbrev pub transitions : ℕ → (ℕ → NodeState) → Step → List (ℕ × Transition)
transitions version states (Order c n x) = transitions_ordered version states x
transitions version states (Take p) = (p.to, transition version p.msg (states p.to) p.from) ∷ []
transitions version states (Clear p) = []

abbrev pub kind_of_request : Mode → NodeState → Kind
kind_of_request mode.Ready r = if is_empty r.neighbours then Finished else Started
kind_of_request mode.Abort r = Joined
kind_of_request mode.Converge r = Joined

abbrev pub kind_ordered : (ℕ → NodeState) → Command → Kind
kind_ordered states (Add u g) = Done
kind_ordered states (Remove u) = Done
kind_ordered states (Join a b) = Done
kind_ordered states (Drop a b) = Done
kind_ordered states (Reset u) = kind_of_request (states u).mode (states u)
kind_ordered states (Confirm u e) = Done

-- the kind of a step's reply
abbrev pub kind : (ℕ → NodeState) → Step → Kind
kind states (Order c n x) = kind_ordered states x
kind states (Take p) = Taken
kind states (Clear p) = Cleared
