-- The effect of each step on a numbered world. First come the changes that precede any node's action; then the transitions of
-- nodes, each computed from the world before the step; then the client's session and the step count. The step's signals are in
-- the order of the transitions. A drop has two transitions, of different nodes, so both can be computed from the world before the
-- drop.
use Rattle.std.specs.Prelude.{ℕ, ◌+◌, ◌==◌, List, [], ◌∷◌, if◌then◌else◌}
use Rattle.coord_types.specs.Table.{insert, remove}
use Rattle.coord_types.specs.NodeState.{NodeState, new_node}
use Rattle.coord_types.specs.declared.steps.Command.{Command}
use Rattle.coord_types.specs.declared.steps.Command.TheVariants.{Add, Remove, Join, Drop, Reset, Confirm}
use Rattle.coord_types.specs.declared.steps.Step.{Step}
use Rattle.coord_types.specs.declared.steps.Step.TheVariants.{Order, Take, Clear}
use Rattle.coord_types.specs.declared.steps.Reply.{Reply}
use Rattle.coord_link.specs.LaneMachine.{Lane, new_lane, sent, took, cleared}
use Rattle.coord_tables.specs.Links.{change_lane, change_lanes, joined, parted}
use Rattle.coord_node.specs.Facade.{Transition, added, kind, transitions, with_neighbour}
use Rattle.coord_world.specs.protocol.NumberedWorld.{World, state}

-- applies f to the lane from u to v
abbrev pub on_lane : World → ℕ → ℕ → (Lane → Lane) → World
on_lane w u v f = record w { links = change_lane w.links u v f }

abbrev pub with_state : World → ℕ → NodeState → World
with_state w u r = record w { nodes = insert w.nodes u r }

-- node u makes a transition: its state changes, and its messages are appended to its lanes
abbrev pub with_transition : World → ℕ → Transition → World
with_transition w u d = record w { nodes = insert w.nodes u d.state; links = change_lanes (λ k l. if k.0 == u then sent (added d k.1) l else l) w.links }

-- these transitions, one after the other
abbrev pub with_transitions : World → List (ℕ × Transition) → World
with_transitions w [] = w
with_transitions w (d ∷ ds) = with_transitions (with_transition w d.0 d.1) ds

-- the changes of a command that precede any node's action; the incarnation of a new link is the number of the step that makes the
-- link
abbrev pub with_command : World → Command → World
with_command w (Add u g) = with_state w u (new_node g)
with_command w (Remove u) = record w { nodes = remove w.nodes u }
with_command w (Join a b) = record w {
  nodes = insert (insert w.nodes a (with_neighbour (state w a) b)) b (with_neighbour (state w b) a);
  links = joined w.links a b (new_lane (w.count + 1));
}
with_command w (Drop a b) = record w { links = parted w.links a b }
with_command w (Reset u) = w
with_command w (Confirm u e) = with_state w u (record (state w u) { confirmed = e })

abbrev pub prepared : World → Step → World
prepared w (Order c n x) = with_command w x
prepared w (Take p) = on_lane w p.from p.to took
prepared w (Clear p) = on_lane w p.from p.to cleared

-- the reply to a step
abbrev pub reply : World → Step → Reply
reply w s = record { step = w.count + 1; kind = kind (state w) s }

-- records an order as its client's last one; packets do not change the sessions
abbrev pub with_reply : World → Reply → Step → World
with_reply w r (Order c n x) = record w { sessions = insert w.sessions c (record { number = n; command = x; reply = r }) }
with_reply w r (Take p) = w
with_reply w r (Clear p) = w

-- the world after a step
abbrev pub next : World → Step → World
next w s = record (with_reply (with_transitions (prepared w s) (transitions w.version (state w) s)) (reply w s) s) { count = w.count + 1 }

-- the world after these steps, one after the other
abbrev pub fold : World → List Step → World
fold w [] = w
fold w (s ∷ ss) = fold (next w s) ss
