-- The keys that a topology file may have, and the keys that it must have.
use Rattle.std.specs.Prelude.{ℕ, Bool, true, false, ◌&&◌, ◌||◌, List, [], ◌∷◌, codes, Option, Some, is_some}
use Rattle.std.specs.Str.{bytes_eq}
use Rattle.toml.specs.Data.{Data, array, table, Items, no_items, item, Members, no_members, member, get_member}

abbrev pub Key : Type 0
Key = List ℕ

-- whether the key is one of these keys
abbrev pub is_among : List Key → Key → Bool
is_among [] key = false
is_among (k ∷ ks) key = bytes_eq key k || is_among ks key

-- whether the table has only these keys
abbrev pub has_only : List Key → Members → Bool
has_only ks no_members = true
has_only ks (member key d ms) = is_among ks key && has_only ks ms

-- whether the table has a value at each of these keys
abbrev pub has_all : List Key → Members → Bool
has_all [] ms = true
has_all (k ∷ ks) ms = is_some (get_member k ms) && has_all ks ms

-- whether the value, if it is a table, has exactly these keys
abbrev pub table_has_just : List Key → Data → Bool
table_has_just ks (table ms) = has_only ks ms && has_all ks ms
table_has_just ks other = true

-- whether each item that is a table has exactly these keys
abbrev pub items_have_just : List Key → Items → Bool
items_have_just ks no_items = true
items_have_just ks (item d ds) = table_has_just ks d && items_have_just ks ds

-- whether each table in the array has exactly these keys, if the value is an array
abbrev pub entries_have_just : List Key → Option Data → Bool
entries_have_just ks (Some (array ds)) = items_have_just ks ds
entries_have_just ks other = true

abbrev pub file_keys : List Key
file_keys = codes "half" ∷ codes "node" ∷ codes "link" ∷ []

abbrev pub node_keys : List Key
node_keys = codes "id" ∷ codes "group" ∷ []

abbrev pub link_keys : List Key
link_keys = codes "a" ∷ codes "b" ∷ []

-- whether every key is known, and no node or link lacks a key
abbrev pub has_right_keys : Members → Bool
has_right_keys ms =
    has_only file_keys ms
    && entries_have_just node_keys (get_member (codes "node") ms)
    && entries_have_just link_keys (get_member (codes "link") ms)
