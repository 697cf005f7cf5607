-- The TOML table of a written topology, and the law that reading the written text returns the topology.
use Rattle.std.specs.Prelude.{◌≡◌, ℕ, ◌≤◌, pos, Bool, List, [], ◌∷◌, codes, length, Ok}
use Rattle.std.specs.List.{AllByRecursion}
use Rattle.toml.specs.Data.{Data, integer, array, table, Items, no_items, item, Members, no_members, member}
use Rattle.toml.specs.Text.{IsDocumentText}
use Rattle.coord_types.specs.declared.limits.TheConstants.{MAX_GROUPS, MAX_NODES}
use Rattle.coord_config.specs.declared.reading.TheConstants.{MAX_TEXT_BYTES}
use Rattle.coord_config.specs.declared.values.TheConstants.{MAX_HALF, MIN_HALF}
use Rattle.coord_config.specs.declared.topology.NodeEntry.{NodeEntry}
use Rattle.coord_config.specs.declared.topology.LinkEntry.{LinkEntry}
use Rattle.coord_config.specs.Reading.{reading}
use Rattle.coord_config.specs.Topology.{Content}

abbrev pub number : ℕ → Data
number n = integer (pos n)

abbrev pub node_table : NodeEntry → Data
node_table n = table (member (codes "group") (number n.group) (member (codes "id") (number n.id) no_members))

abbrev pub link_table : LinkEntry → Data
link_table l = table (member (codes "a") (number l.a) (member (codes "b") (number l.b) no_members))

abbrev pub array_of : {X : Type 0} → (X → Data) → List X → Items
array_of f [] = no_items
array_of f (x ∷ xs) = item (f x) (array_of f xs)

-- the table has all three keys, in ascending order
abbrev pub written : Content → Members
written t =
    member (codes "half") (number t.half)
    (member (codes "link") (array (array_of link_table t.links))
    (member (codes "node") (array (array_of node_table t.nodes)) no_members))

abbrev pub IsNodeEntry : NodeEntry → Type 0
IsNodeEntry n = ((1 ≤ n.id) × (n.id ≤ MAX_NODES)) × ((1 ≤ n.group) × (n.group ≤ MAX_GROUPS))

abbrev pub IsLinkEntry : LinkEntry → Type 0
IsLinkEntry l = ((1 ≤ l.a) × (l.a ≤ MAX_NODES)) × ((1 ≤ l.b) × (l.b ≤ MAX_NODES))

pub record IsInLimits (t : Content) : Type 0 where
  pub half : (MIN_HALF ≤ t.half) × (t.half ≤ MAX_HALF)
  pub nodes : AllByRecursion IsNodeEntry t.nodes
  pub links : AllByRecursion IsLinkEntry t.links

-- reading returns the topology, for every TOML text that writes a topology within its limits, in either style of the
-- writer
abbrev pub WrittenIsRead : Type 0
WrittenIsRead = (t : Content) (pretty : Bool) (text : List ℕ) → IsInLimits t → IsDocumentText pretty (written t) text → length text ≤ MAX_TEXT_BYTES → reading text ≡ Ok t
