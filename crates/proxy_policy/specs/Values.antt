-- The rules of a TOML table.
use Rattle.std.specs.Prelude.{ℕ, pos, ◌&&◌, nat_le, if◌then◌else◌, List, [], ◌∷◌, map, codes, Option, Some, None, option_and_then, option_map, string_bytes}
use Rattle.toml.specs.Data.{Data, string, integer, array, table, Items, no_items, item, Members, get_member}
use Rattle.coord_types.specs.declared.limits.TheConstants.{MAX_CLIENTS, MAX_NODES}
use Rattle.proxy_request.specs.Ops.{op_named}
use Rattle.proxy_request.specs.declared.op.Op.{Op}
use Rattle.proxy_policy.specs.declared.rule.Rule.{Rule}
use Rattle.proxy_policy.specs.Names.{is_principal}

-- the entries of a rule
pub record Content : Type 0 where
  pub principals : List (List ℕ)
  pub ops : List Op
  pub clients : Option (List ℕ)
  pub nodes : Option (List ℕ)

abbrev pub content : Rule → Content
content rule = record {
  principals = map string_bytes rule.principals.items;
  ops = rule.ops.items;
  clients = option_map (λ entries. entries.items) rule.clients;
  nodes = option_map (λ entries. entries.items) rule.nodes;
}

-- the value, if it is a whole number from 1 to this maximum
abbrev pub number_in : ℕ → Data → Option ℕ
number_in most (integer (pos n)) = if nat_le 1 n && nat_le n most then Some n else None
number_in most other = None

abbrev pub client_in : Data → Option ℕ
client_in d = number_in MAX_CLIENTS d

abbrev pub node_in : Data → Option ℕ
node_in d = number_in MAX_NODES d

abbrev pub op_in : Data → Option Op
op_in (string name) = op_named name
op_in other = None

abbrev pub name_in : Data → Option (List ℕ)
name_in (string name) = if is_principal name then Some name else None
name_in other = None

abbrev pub in_front : {X : Type 0} → Option X → Option (List X) → Option (List X)
in_front (Some x) (Some xs) = Some (x ∷ xs)
in_front x xs = None

-- the values that `read` finds in the items, if it finds one in every item
abbrev pub each : {X : Type 0} → (Data → Option X) → Items → Option (List X)
each read no_items = Some []
each read (item d ds) = in_front (read d) (each read ds)

-- the list, unless it is empty
abbrev pub some_of : {X : Type 0} → List X → Option (List X)
some_of [] = None
some_of (x ∷ xs) = Some (x ∷ xs)

abbrev pub list_in : {X : Type 0} → (Data → Option X) → Data → Option (List X)
list_in read (array ds) = option_and_then some_of (each read ds)
list_in read other = None

unfoldable pub list_at : {X : Type 0} → (Data → Option X) → List ℕ → Members → Option (List X)
list_at read key ms = option_and_then (list_in read) (get_member key ms)

abbrev pub limit_in : {X : Type 0} → (Data → Option X) → Option Data → Option (Option (List X))
limit_in read None = Some None
limit_in read (Some d) = option_map Some (list_in read d)

-- the list at a key that may be absent; the inner None means that the key is absent, so everything is permitted
unfoldable pub limit_at : {X : Type 0} → (Data → Option X) → List ℕ → Members → Option (Option (List X))
limit_at read key ms = limit_in read (get_member key ms)

abbrev pub rule_with : Option (List (List ℕ)) → Option (List Op) → Option (Option (List ℕ)) → Option (Option (List ℕ)) → Option Content
rule_with (Some principals) (Some ops) (Some clients) (Some nodes) = Some (record { principals = principals; ops = ops; clients = clients; nodes = nodes })
rule_with principals ops clients nodes = None

-- the rule that a value contains; the value must be a table
abbrev pub rule_in : Data → Option Content
rule_in (table ms) =
    rule_with (list_at name_in (codes "principals") ms) (list_at op_in (codes "ops") ms) (limit_at client_in (codes "clients") ms) (limit_at node_in (codes "nodes") ms)
rule_in other = None

-- the rules in the value at the key `allow`; a policy without this key has no rules, and allows nothing
unfoldable pub rules_in : Option Data → Option (List Content)
rules_in None = Some []
rules_in (Some (array ds)) = each rule_in ds
rules_in (Some other) = None
