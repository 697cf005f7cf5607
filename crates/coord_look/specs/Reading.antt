-- Reading the rows of a view.
use Rattle.std.specs.Prelude.{◌≡◌, ◌⊎◌, ◌↔◌, ℕ, ◌==◌, ◌&&◌, ◌||◌, not, Bool, false, true, List, [], ◌∷◌, ◌++◌, Option, Some, None, find, if◌then◌else◌}
use Rattle.std.specs.Bool.{beq}
use Rattle.std.specs.List.{list_all, flat_map}
use Rattle.coord_types.specs.NodeSet.{NodeSet, contains}
use Rattle.coord_types.specs.declared.messages.Mode.{Mode}
use Rattle.coord_types.specs.declared.messages.Mode.TheVariants.{Ready, Abort, Converge}
use Rattle.coord_view.specs.Shown.{Shown}
use Rattle.coord_view.specs.declared.view.LinkView.{LinkView}
use Rattle.coord_view.specs.declared.view.NodeView.{NodeView}
use Rattle.coord_member.specs.NoMix.{IsOneOf}
use Rattle.coord_member.specs.declared.view.Entry.{Entry}
use Rattle.coord_member.specs.declared.view.Entry.TheVariants.{Node, Link}
use Rattle.coord_member.specs.declared.view.Row.{Row}

-- ---- which nodes are connected

-- whether the link joins one of these nodes with a node that is not one of them
abbrev pub crosses : NodeSet → LinkView → Bool
crosses reached link = not (beq (contains reached link.a) (contains reached link.b))

-- some link joins x and y
pub record AreLinked (links : List LinkView) (x y : ℕ) : Type 0 where
  pub link : LinkView
  pub shown : IsOneOf link links
  pub ends : ((link.a ≡ x) × (link.b ≡ y)) ⊎ ((link.a ≡ y) × (link.b ≡ x))

-- a path from u to v: each node of the path is linked with the node before it
abbrev pub IsWay : List LinkView → ℕ → List ℕ → ℕ → Type 0
IsWay links u [] v = u ≡ v
IsWay links u (x ∷ way) v = AreLinked links u x × IsWay links x way v

-- the set has exactly the nodes to which there is a path from u
abbrev pub AreConnected : List LinkView → ℕ → NodeSet → Type 0
AreConnected links u reached = (v : ℕ) → (contains reached v ≡ true) ↔ ((way : List ℕ) × IsWay links u way v)

-- ---- the state of the connected nodes

abbrev pub is_of : ℕ → NodeView → Bool
is_of node row = row.node == node

abbrev pub is_ready_mode : Mode → Bool
is_ready_mode Ready = true
is_ready_mode Abort = false
is_ready_mode Converge = false

-- if the node is one of these nodes, it is in no reset
abbrev pub is_quiet : NodeSet → NodeView → Bool
is_quiet reached row = not (contains reached row.node) || is_ready_mode row.mode

-- if the node is one of these nodes, it is in no reset and has confirmed its epoch
abbrev pub is_through : NodeSet → NodeView → Bool
is_through reached row = not (contains reached row.node) || (is_ready_mode row.mode && (row.epoch == row.confirmed))

-- ---- the entries of the party

abbrev pub node_entries : NodeSet → NodeView → List Entry
node_entries reached row = if contains reached row.node then Node row.node row.epoch ∷ [] else []

abbrev pub link_entries : NodeSet → LinkView → List Entry
link_entries reached link = if contains reached link.a then Link link.a link.b link.inc ∷ [] else []

abbrev pub party_in : NodeSet → Shown → List Entry
party_in reached view = flat_map (node_entries reached) view.nodes ++ flat_map (link_entries reached) view.links

-- ---- a look

abbrev pub row_in : NodeSet → Shown → NodeView → Row
row_in reached view row = record { epoch = row.epoch; confirmed = row.confirmed; through = list_all (is_through reached) view.nodes; quiet = list_all (is_quiet reached) view.nodes }

-- a member's look at this view: the row of the member's node, and the party of the nodes that are
-- connected with it
pub record IsReadOf (view : Shown) (node : ℕ) (own : NodeView) (row : Row) (party : List Entry) : Type 0 where
  pub reached : NodeSet
  pub connected : AreConnected view.links node reached
  pub row_is : row ≡ row_in reached view own
  pub party_is : party ≡ party_in reached view
