-- The program's record of a node's transition, and the ideal transition that it represents.
use Rattle.std.specs.Prelude.{◌≡◌, ℕ, ◌-◌, ◌^◌, ◌<◌, true, List, [], ◌∷◌, length, Some, IsSome, if◌then◌else◌}
use Rattle.coord_link.specs.declared.lane.TheConstants.{PLACES}
use Rattle.coord_types.specs.NodeSet as set
use Rattle.coord_types.specs.Table.{get, insert}
use Rattle.coord_types.specs.NodeState.{NodeState}
use Rattle.coord_types.specs.declared.messages.Msg.{Msg}
use Rattle.coord_types.specs.declared.outputs.Output.{Output}
use Rattle.coord_types.specs.declared.outputs.Output.TheVariants.{Signalled}
use Rattle.coord_link.specs.LaneMachine.{Lane}
use Rattle.coord_node.specs.Rules.{Transition, sends_of}
use Rattle.coord_world.specs.declared.step.node_transition.NodeTransition.{NodeTransition}
use Rattle.coord_world.specs.protocol.NumberedWorld.{Links, World, lane_at, state}
use Rattle.coord_world.specs.code.Sends.{sent_lanes}

-- the program's record is the transition d of node u
pub record IsTransitionOf (node_transition : NodeTransition) (u : ℕ) (d : Transition) : Type 0 where
  pub id : node_transition.id ≡ u
  pub state : node_transition.node ≡ d.state
  pub sends : node_transition.effects.sends.items ≡ sends_of d
  pub finished : node_transition.effects.finished ≡ d.finished

-- the world after node u has entered the state r and sent these messages
abbrev pub node_changed : World → ℕ → NodeState → List (ℕ × Msg) → World
node_changed w u r sends = record w { nodes = insert w.nodes u r; links = sent_lanes u sends w.links }

-- the signal of a transition, if it finished a reset
abbrev pub signal_of : NodeTransition → List Output
signal_of node_transition = if node_transition.effects.finished then Signalled node_transition.id node_transition.node.epoch ∷ [] else []

-- a node can make a transition: it is present, its epoch can rise, and its lanes have room for its messages
pub record CanApply (w : World) (u : ℕ) (d : Transition) (links : Links) : Type 0 where
  pub there : IsSome (get w.nodes u)
  pub epoch : (state w u).epoch < 2 ^ 64 - 1
  pub room : (v : ℕ) (l : Lane) → lane_at links u v ≡ Some l → set.contains d.to v ≡ true → length l.queue < PLACES
