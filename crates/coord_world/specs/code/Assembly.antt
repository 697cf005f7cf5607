-- The world that some rows describe.
use Rattle.std.specs.Prelude.{◌≡◌, ℕ, ◌-◌, ◌==◌, List, [], ◌∷◌, map, slice_index_or, if◌then◌else◌}
use Rattle.coord_types.specs.NodeSet as set
use Rattle.coord_types.specs.Facade.{IsNode, NodeSet, NodeState}
use Rattle.coord_types.specs.Table.{from_sorted}
use Rattle.coord_types.specs.declared.steps.Session.{Session}
use Rattle.coord_tables.specs.Links.{links_of}
use Rattle.coord_tables.specs.declared.links.LinkRow.{LinkRow}
use Rattle.coord_world.specs.protocol.NumberedWorld.{World}
use Rattle.coord_world.specs.protocol.Rows.{Rows}
use Rattle.coord_world.specs.declared.rows.parts.NodeRow.{NodeRow}
use Rattle.coord_world.specs.declared.rows.parts.ClientRow.{ClientRow}

-- the set `near` together with the other ends of u's links
abbrev pub near_with : ℕ → NodeSet → List LinkRow → NodeSet
near_with u near [] = near
near_with u near (r ∷ rs) = near_with u (if u == r.a then set.insert near r.b else (if u == r.b then set.insert near r.a else near)) rs

-- the neighbours of node u: the set at index u - 1
abbrev pub near_in : List NodeSet → ℕ → NodeSet
near_in near u = slice_index_or near (u - 1) set.empty

-- each node's set has exactly the neighbours that these links give it
abbrev pub AreNear : List LinkRow → List NodeSet → Type 0
AreNear links near = (u : ℕ) → IsNode u → near_in near u ≡ near_with u set.empty links

-- the state in a node's row, with these neighbours
abbrev pub state_with : (ℕ → NodeSet) → NodeRow → NodeState
state_with near r = record { group = r.group; mode = r.mode; parent = r.parent; pend = r.pend; neighbours = near r.id; epoch = r.epoch; confirmed = r.confirmed; distance = r.distance }

abbrev pub entry_with : (ℕ → NodeSet) → NodeRow → ℕ × NodeState
entry_with near r = (r.id, state_with near r)

-- the state in a node's row, with the neighbours that the links give it
abbrev pub state_of : List LinkRow → NodeRow → NodeState
state_of links = state_with (λ u. near_with u set.empty links)

abbrev pub node_entry : List LinkRow → NodeRow → ℕ × NodeState
node_entry links = entry_with (λ u. near_with u set.empty links)

abbrev pub client_entry : ClientRow → ℕ × Session
client_entry r = (r.client, r.session)

abbrev pub assembled : Rows → World
assembled rows = record {
  version = rows.version;
  count = rows.count;
  nodes = from_sorted (map (node_entry rows.links) rows.nodes);
  links = links_of rows.links;
  sessions = from_sorted (map client_entry rows.clients);
}
