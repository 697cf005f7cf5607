-- Legal worlds, in which the node predicate N and the link predicates A to H hold.
use Rattle.std.specs.Prelude.{◌≡◌, ℕ, ◌==◌, ◌&&◌, not, nat_le, nat_lt, Bool, true, false, Option, Some, None}
use Rattle.coord_types.specs.NodeSet as set
use Rattle.coord_types.specs.Facade.{NodeSet, NodeState, get}
use Rattle.coord_types.specs.declared.messages.Mode.{Mode}
use Rattle.coord_types.specs.declared.messages.Mode.TheVariants.{Ready, Abort, Converge}
use Rattle.coord_link.specs.LaneMachine.{Lane, Counts}
use Rattle.coord_node.specs.Rules.{is_empty}
use Rattle.coord_world.specs.protocol.NumberedWorld.{World, lane_at, view, is_linked}
use Rattle.coord_world.specs.protocol.Links.{link, LegalLink}

-- a node is in Abort if and only if it awaits an acknowledgement
abbrev pub awaits_rightly : Mode → NodeSet → Bool
awaits_rightly Ready pend = is_empty pend
awaits_rightly Abort pend = not (is_empty pend)
awaits_rightly Converge pend = is_empty pend

-- a Ready node has no parent, and a Converge node has one
abbrev pub has_right_parent : Mode → Option ℕ → Bool
has_right_parent Ready None = true
has_right_parent Ready (Some p) = false
has_right_parent Abort parent = true
has_right_parent Converge None = false
has_right_parent Converge (Some p) = true

-- a parent is a neighbour that the node does not await
abbrev pub is_parent_near : Option ℕ → NodeSet → NodeSet → Bool
is_parent_near None pend neighbours = true
is_parent_near (Some p) pend neighbours = not (set.contains pend p) && set.contains neighbours p

-- a Ready node has distance 0, and any other node a distance less than the number of steps
abbrev pub is_distance_right : Mode → ℕ → ℕ → Bool
is_distance_right Ready distance count = distance == 0
is_distance_right Abort distance count = nat_lt distance count
is_distance_right Converge distance count = nat_lt distance count

-- N: the conditions above hold, a node awaits only neighbours, and confirmed ≤ epoch ≤ the number of steps
abbrev pub is_legal_node : ℕ → NodeState → Bool
is_legal_node count r =
    awaits_rightly r.mode r.pend && has_right_parent r.mode r.parent && is_parent_near r.parent r.pend r.neighbours && set.is_subset r.pend r.neighbours && nat_le r.confirmed r.epoch && nat_le r.epoch count && is_distance_right r.mode r.distance count

-- N holds for each node, A for each lane, and B to H for each link as seen from each of its ends
pub record Legal (w : World) : Type 0 where
  pub nodes : (u : ℕ) (r : NodeState) → get w.nodes u ≡ Some r → is_legal_node w.count r ≡ true
  pub lanes : (u v : ℕ) (l : Lane) → lane_at w.links u v ≡ Some l → Counts l
  pub links : (u v : ℕ) → is_linked w u v ≡ true → LegalLink (link (view w) u v)
