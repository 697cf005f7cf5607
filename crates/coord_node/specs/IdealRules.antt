-- The ideal rules: the ideal world after each step.
use Rattle.std.specs.Prelude.{ℕ, ◌==◌, Bool, ◌&&◌, ◌||◌, not, List, [], ◌∷◌, ◌++◌, if◌then◌else◌}
use Rattle.coord_types.specs.NodeSet as set
use Rattle.coord_types.specs.Facade.{Ideal, NodeState, after_front, new_node, no_node}
use Rattle.coord_types.specs.declared.messages.Msg.{Msg}
use Rattle.coord_types.specs.declared.steps.Command.{Command}
use Rattle.coord_types.specs.declared.steps.Command.TheVariants.{Add, Remove, Join, Drop, Reset, Confirm}
use Rattle.coord_types.specs.declared.steps.Step.{Step}
use Rattle.coord_types.specs.declared.steps.Step.TheVariants.{Order, Take, Clear}
use Rattle.coord_node.specs.Rules.{Transition, with_neighbour}
use Rattle.coord_node.specs.Steps.{transitions}

-- the messages that a transition sends to node y
abbrev pub added : Transition → ℕ → List Msg
added d y = if set.contains d.to y then d.message ∷ [] else []

-- sets the state of node u to r
abbrev pub set_state : Ideal → ℕ → NodeState → Ideal
set_state w u r = record w { state = λ x. if x == u then r else w.state x }

-- node u makes a transition: its state changes, and its messages join the messages in transit
abbrev pub ideal_applied : Ideal → ℕ → Transition → Ideal
ideal_applied w u d = record w {
  state = λ x. if x == u then d.state else w.state x;
  in_transit = λ x y. if (x == u) && w.linked x y then w.in_transit x y ++ added d y else w.in_transit x y;
}

-- applies these transitions, one after the other
abbrev pub ideal_all_applied : Ideal → List (ℕ × Transition) → Ideal
ideal_all_applied w [] = w
ideal_all_applied w (d ∷ ds) = ideal_all_applied (ideal_applied w d.0 d.1) ds

-- removes the first message in transit from v to u
abbrev pub headed : Ideal → ℕ → ℕ → Ideal
headed w v u = record w { in_transit = λ x y. if (x == v) && (y == u) then after_front (w.in_transit x y) else w.in_transit x y }

-- whether x and y are a and b, in either order
abbrev pub is_link : ℕ → ℕ → ℕ → ℕ → Bool
is_link a b x y = ((x == a) && (y == b)) || ((x == b) && (y == a))

-- links a and b, with no message in transit
abbrev pub linked_up : Ideal → ℕ → ℕ → Ideal
linked_up w a b = record w {
  state = λ x. if x == b then with_neighbour (w.state b) a else (if x == a then with_neighbour (w.state a) b else w.state x);
  linked = λ x y. is_link a b x y || w.linked x y;
  in_transit = λ x y. if is_link a b x y then [] else w.in_transit x y;
}

-- removes the link of a and b, and the messages in transit on it
abbrev pub without_link : Ideal → ℕ → ℕ → Ideal
without_link w a b = record w { linked = λ x y. not (is_link a b x y) && w.linked x y; in_transit = λ x y. if is_link a b x y then [] else w.in_transit x y }

-- the part of a command's effect that comes before any transition
abbrev pub ideal_ordered : Ideal → Command → Ideal
ideal_ordered w (Add u g) = set_state w u (new_node g)
ideal_ordered w (Remove u) = set_state w u no_node
ideal_ordered w (Join a b) = linked_up w a b
ideal_ordered w (Drop a b) = without_link w a b
ideal_ordered w (Reset u) = w
ideal_ordered w (Confirm u e) = set_state w u (record (w.state u) { confirmed = e })

abbrev pub ideal_prepared : Ideal → Step → Ideal
ideal_prepared w (Order c n x) = ideal_ordered w x
ideal_prepared w (Take p) = headed w p.from p.to
ideal_prepared w (Clear p) = w

-- the ideal world after a step
abbrev pub ideal_next : Ideal → Step → Ideal
ideal_next w s = ideal_all_applied (ideal_prepared w s) (transitions w.version w.state s)
