-- The keys that a policy may have, and the keys that it must have.
use Rattle.std.specs.Prelude.{ℕ, Bool, true, false, ◌&&◌, ◌||◌, List, [], ◌∷◌, codes, Option, Some, is_some}
use Rattle.std.specs.Str.{bytes_eq}
use Rattle.toml.specs.Data.{Data, array, table, Items, no_items, item, Members, no_members, member, get_member}

abbrev pub Key : Type 0
Key = List ℕ

-- whether the key is one of these
abbrev pub is_among : List Key → Key → Bool
is_among [] key = false
is_among (k ∷ ks) key = bytes_eq key k || is_among ks key

-- whether the table has only these keys
abbrev pub has_only : List Key → Members → Bool
has_only ks no_members = true
has_only ks (member key d ms) = is_among ks key && has_only ks ms

-- whether the table has a value at each of these keys
abbrev pub has_all : List Key → Members → Bool
has_all [] ms = true
has_all (k ∷ ks) ms = is_some (get_member k ms) && has_all ks ms

abbrev pub rule_keys : List Key
rule_keys = codes "principals" ∷ codes "ops" ∷ codes "clients" ∷ codes "nodes" ∷ []

abbrev pub needed_keys : List Key
needed_keys = codes "principals" ∷ codes "ops" ∷ []

-- whether the value, if it is a table, has only known keys and all needed keys
abbrev pub has_keys : List Key → List Key → Data → Bool
has_keys known needed (table ms) = has_only known ms && has_all needed ms
has_keys known needed other = true

-- whether each table in an array has only known keys and all needed keys
abbrev pub items_have_keys : List Key → List Key → Items → Bool
items_have_keys known needed no_items = true
items_have_keys known needed (item d ds) = has_keys known needed d && items_have_keys known needed ds

abbrev pub entries_have_keys : List Key → List Key → Option Data → Bool
entries_have_keys known needed (Some (array ds)) = items_have_keys known needed ds
entries_have_keys known needed other = true

-- whether a policy has no key but `allow`, and each rule has only known keys and all needed keys
unfoldable pub has_right_keys : Members → Bool
has_right_keys ms = has_only (codes "allow" ∷ []) ms && entries_have_keys rule_keys needed_keys (get_member (codes "allow") ms)
