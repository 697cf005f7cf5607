-- The topology that a TOML table describes.
use Rattle.std.specs.Prelude.{ℕ, pos, ◌&&◌, nat_le, if◌then◌else◌, List, [], ◌∷◌, codes, Option, Some, None, option_and_then, Result, Ok, Err}
use Rattle.toml.specs.Data.{Data, integer, array, table, Items, no_items, item, Members, get_member}
use Rattle.coord_types.specs.declared.limits.TheConstants.{MAX_GROUPS, MAX_NODES}
use Rattle.coord_config.specs.declared.fault.ConfigFault.{ConfigFault}
use Rattle.coord_config.specs.declared.fault.ConfigFault.TheVariants.{BadKey, BadValue}
use Rattle.coord_config.specs.declared.topology.Topology.{Topology}
use Rattle.coord_config.specs.declared.topology.NodeEntry.{NodeEntry}
use Rattle.coord_config.specs.declared.topology.LinkEntry.{LinkEntry}
use Rattle.coord_config.specs.declared.values.TheConstants.{DEFAULT_HALF, MAX_HALF, MIN_HALF}
use Rattle.coord_config.specs.Keys.{Key, has_right_keys}

-- the content of a topology file: the size of a half in bytes, and the nodes and links in the order of the file
pub record Content : Type 0 where
  pub half : ℕ
  pub nodes : List NodeEntry
  pub links : List LinkEntry

abbrev pub content : Topology → Content
content t = record { half = t.half; nodes = t.nodes.items; links = t.links.items }

-- the value of f, if both arguments exist
abbrev pub with_both : {A B C : Type 0} → (A → B → C) → Option A → Option B → Option C
with_both f (Some a) (Some b) = Some (f a b)
with_both f a b = None

-- the value, if it is a whole number from `least` to `most`
abbrev pub number_within : ℕ → ℕ → Data → Option ℕ
number_within least most (integer (pos n)) = if nat_le least n && nat_le n most then Some n else None
number_within least most other = None

-- the value at this key of the table, if it is a whole number from `least` to `most`
abbrev pub number_at : Key → ℕ → ℕ → Members → Option ℕ
number_at key least most ms = option_and_then (number_within least most) (get_member key ms)

-- a node: a table with an id and a group
abbrev pub node_of : Data → Option NodeEntry
node_of (table ms) = with_both (λ id group. record { id = id; group = group }) (number_at (codes "id") 1 MAX_NODES ms) (number_at (codes "group") 1 MAX_GROUPS ms)
node_of other = None

-- a link: a table with two ends, each of which is the id of a node
abbrev pub link_of : Data → Option LinkEntry
link_of (table ms) = with_both (λ a b. record { a = a; b = b }) (number_at (codes "a") 1 MAX_NODES ms) (number_at (codes "b") 1 MAX_NODES ms)
link_of other = None

-- the results for all items, if each item has a result
abbrev pub each : {X : Type 0} → (Data → Option X) → Items → Option (List X)
each read no_items = Some []
each read (item d ds) = with_both (λ x xs. x ∷ xs) (read d) (each read ds)

-- the entries of an array; an absent array has no entries
abbrev pub entries_of : {X : Type 0} → (Data → Option X) → Option Data → Option (List X)
entries_of read None = Some []
entries_of read (Some (array ds)) = each read ds
entries_of read (Some other) = None

-- the size of a half, or the default if it is absent
abbrev pub half_of : Option Data → Option ℕ
half_of None = Some DEFAULT_HALF
half_of (Some d) = number_within MIN_HALF MAX_HALF d

abbrev pub content_of : Option ℕ → Option (List NodeEntry) → Option (List LinkEntry) → Option Content
content_of (Some half) (Some nodes) (Some links) = Some (record { half = half; nodes = nodes; links = links })
content_of half nodes links = None

-- the topology that these values describe, if each has its type and is in range
abbrev pub values_of : Members → Option Content
values_of ms =
    content_of
    (half_of (get_member (codes "half") ms))
    (entries_of node_of (get_member (codes "node") ms))
    (entries_of link_of (get_member (codes "link") ms))

abbrev pub or_bad_value : Option Content → Result Content ConfigFault
or_bad_value None = Err BadValue
or_bad_value (Some t) = Ok t

-- the topology that a table describes, or the fault; its keys are checked before its values
abbrev pub topology_of : Members → Result Content ConfigFault
topology_of ms = if has_right_keys ms then or_bad_value (values_of ms) else Err BadKey
