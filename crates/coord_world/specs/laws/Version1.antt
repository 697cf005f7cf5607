-- In a world of version 1, the predicates demand nothing of distances.
use Rattle.std.specs.Prelude.{◌≡◌, ℕ, ◌&&◌, nat_le, Bool, true, Some}
use Rattle.coord_types.specs.NodeSet as set
use Rattle.coord_types.specs.Facade.{NodeState, get}
use Rattle.coord_world.specs.protocol.Legal.{awaits_rightly, has_right_parent, is_legal_node, is_parent_near}
use Rattle.coord_world.specs.protocol.Links.{has_right_distances, link}
use Rattle.coord_world.specs.protocol.NumberedWorld.{World, view}
use Rattle.coord_world.specs.protocol.Ranges.{InRange}

-- the node predicate N without its condition on the distance
abbrev pub is_legal_but_for_distance : ℕ → NodeState → Bool
is_legal_but_for_distance count r =
    awaits_rightly r.mode r.pend && has_right_parent r.mode r.parent && is_parent_near r.parent r.pend r.neighbours && set.is_subset r.pend r.neighbours && nat_le r.confirmed r.epoch && nat_le r.epoch count

-- H holds for any two nodes, and N holds for a node if N without its condition on the distance does
pub record AsksNoDistance (w : World) : Type 0 where
  pub links : (u v : ℕ) → has_right_distances (link (view w) u v) ≡ true
  pub nodes : (u : ℕ) (r : NodeState) → get w.nodes u ≡ Some r → is_legal_node w.count r ≡ is_legal_but_for_distance w.count r

abbrev pub Version1AsksNoDistance : Type 0
Version1AsksNoDistance = (w : World) → InRange w → w.version ≡ 1 → AsksNoDistance w
