-- A world as lists of rows, and the conditions under which such lists are the rows of a world.
use Rattle.std.specs.Prelude.{◌≡◌, ℕ, ◌+◌, ◌≤◌, ◌<◌, ◌==◌, ◌||◌, Bool, true, List, [], ◌∷◌, map, length, Option, Some, None, if◌then◌else◌}
use Rattle.coord_link.specs.declared.lane.TheConstants.{PLACES}
use Rattle.std.specs.Ordering.{nat_cmp}
use Rattle.std.specs.List.{AllByRecursion}
use Rattle.std.specs.FinMap.Entries.{is_sorted, find}
use Rattle.coord_types.specs.Facade.{IsMaskable, NodeState, entries}
use Rattle.coord_types.specs.declared.limits.TheConstants.{MAX_DEGREE, MAX_GROUPS, MAX_LINKS, MAX_NODES, MAX_STEPS, MAX_VERSIONS}
use Rattle.coord_types.specs.declared.steps.Session.{Session}
use Rattle.coord_tables.specs.Links.{link_rows}
use Rattle.coord_tables.specs.declared.links.LinkRow.{LinkRow}
use Rattle.coord_world.specs.protocol.NumberedWorld.{World, pair_cmp}
use Rattle.coord_world.specs.protocol.Ranges.{CarryWithin, IsNode, LaneInRange, SessionInRange, farthest}
use Rattle.coord_types.specs.declared.messages.Mode.TheVariants.{Ready}
use Rattle.coord_world.specs.declared.rows.parts.NodeRow.{NodeRow}
use Rattle.coord_world.specs.declared.rows.parts.ClientRow.{ClientRow}
use Rattle.coord_world.specs.declared.rows.parts.Parts.{Parts}

pub record Rows : Type 0 where
  pub version : ℕ
  pub count : ℕ
  pub nodes : List NodeRow
  pub links : List LinkRow
  pub clients : List ClientRow

-- the rows in the program's record, as lists
abbrev pub listed : Parts → Rows
listed p = record { version = p.version; count = p.count; nodes = p.nodes.items; links = p.links.items; clients = p.clients.items }

abbrev pub node_row : ℕ × NodeState → NodeRow
node_row e = record { id = e.0; group = e.1.group; mode = e.1.mode; parent = e.1.parent; pend = e.1.pend; epoch = e.1.epoch; confirmed = e.1.confirmed; distance = e.1.distance }

abbrev pub client_row : ℕ × Session → ClientRow
client_row e = record { client = e.0; session = e.1 }

-- the rows of a world, each list in ascending order
abbrev pub rows_of : World → Rows
rows_of w = record {
  version = w.version;
  count = w.count;
  nodes = map node_row (entries w.nodes);
  links = link_rows w.links;
  clients = map client_row (entries w.sessions);
}

-- the rows, each with its key
abbrev pub by_id : List NodeRow → List (ℕ × NodeRow)
by_id = map (λ r. (r.id, r))

abbrev pub by_ends : List LinkRow → List ((ℕ × ℕ) × LinkRow)
by_ends = map (λ r. ((r.a, r.b), r))

abbrev pub by_client : List ClientRow → List (ℕ × ClientRow)
by_client = map (λ r. (r.client, r))

pub record NodeRowFits (count : ℕ) (r : NodeRow) : Type 0 where
  pub least : 1 ≤ r.id
  pub greatest : r.id ≤ MAX_NODES
  pub group_least : 1 ≤ r.group
  pub group_greatest : r.group ≤ MAX_GROUPS
  pub parent : (p : ℕ) → r.parent ≡ Some p → IsNode p
  pub pend : IsMaskable r.pend
  pub epoch : r.epoch ≤ count
  pub confirmed : r.confirmed ≤ count

-- the group of a node, if the node has a row
abbrev pub group_in : Option NodeRow → Option ℕ
group_in None = None
group_in (Some r) = Some r.group

abbrev pub group_of : List NodeRow → ℕ → Option ℕ
group_of nodes u = group_in (find nat_cmp u (by_id nodes))

-- both ends of a link have rows, in one group
pub record HasEnds (nodes : List NodeRow) (r : LinkRow) : Type 0 where
  pub group : ℕ
  pub first : group_of nodes r.a ≡ Some group
  pub second : group_of nodes r.b ≡ Some group

pub record LinkRowFits (count : ℕ) (nodes : List NodeRow) (r : LinkRow) : Type 0 where
  pub turned : r.a < r.b
  pub ends : HasEnds nodes r
  pub forth : LaneInRange count r.forth
  pub back : LaneInRange count r.back
  pub forth_short : length r.forth.queue ≤ PLACES
  pub back_short : length r.back.queue ≤ PLACES
  pub one_incarnation : r.forth.inc ≡ r.back.inc

abbrev pub is_end : ℕ → LinkRow → Bool
is_end u r = (u == r.a) || (u == r.b)

-- the number of links of a node
abbrev pub degree : ℕ → List LinkRow → ℕ
degree u [] = 0
degree u (r ∷ rs) = if is_end u r then 1 + degree u rs else degree u rs

-- the distance in a node's row is in range
pub record RowIsDistant (version count : ℕ) (r : NodeRow) : Type 0 where
  pub within : r.distance ≤ farthest version count
  pub ready : r.mode ≡ Ready → r.distance ≡ 0

-- the distances that the messages in a link's row carry are in range
pub record LanesCarryWithin (n : ℕ) (r : LinkRow) : Type 0 where
  pub forth : CarryWithin n r.forth.queue
  pub back : CarryWithin n r.back.queue

-- the conditions under which these lists are the rows of a world
pub record RowsFit (rows : Rows) : Type 0 where
  pub first : 1 ≤ rows.version
  pub last : rows.version ≤ MAX_VERSIONS
  pub count : rows.count ≤ MAX_STEPS
  pub nodes_rise : is_sorted nat_cmp (by_id rows.nodes) ≡ true
  pub nodes : AllByRecursion (NodeRowFits rows.count) rows.nodes
  pub distances : AllByRecursion (RowIsDistant rows.version rows.count) rows.nodes
  pub links_rise : is_sorted pair_cmp (by_ends rows.links) ≡ true
  pub links : AllByRecursion (LinkRowFits rows.count rows.nodes) rows.links
  pub carried : AllByRecursion (LanesCarryWithin (farthest rows.version rows.count)) rows.links
  pub degrees : (u : ℕ) → degree u rows.links ≤ MAX_DEGREE
  pub most_links : length rows.links ≤ MAX_LINKS
  pub clients_rise : is_sorted nat_cmp (by_client rows.clients) ≡ true
  pub clients : AllByRecursion (λ r. SessionInRange rows.count r.client r.session) rows.clients
