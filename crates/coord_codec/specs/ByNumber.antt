-- The entries of a table, looked up by number, and their rows.
use Rattle.std.specs.Prelude.{◌≡◌, ℕ, ◌≤◌, List, [], ◌∷◌, Option, Some, None}
use Rattle.std.specs.Cmp.{nat_cmp_total}
use Rattle.std.specs.Option.{option_map}
use Rattle.coord_types.specs.Facade.{NodeState, Table, get}
use Rattle.coord_types.specs.declared.steps.Session.{Session}
use Rattle.coord_world.specs.protocol.Rows as rows
use Rattle.coord_codec.specs.Worlds.{client_row, node_row}

abbrev pub one_or_none : {A : Type 0} → Option A → List A
one_or_none None = []
one_or_none (Some x) = x ∷ []

-- each key of the table is a number from 1 to `most`
abbrev pub HasKeysTo : {X : Type 0} → ℕ → Table nat_cmp_total X → Type 0
HasKeysTo {X} most m = (q : ℕ) (x : X) → get m q ≡ Some x → (1 ≤ q) × (q ≤ most)

-- a list of the entry with this number, or an empty list if there is no such entry
abbrev pub entry_at : {X : Type 0} → Table nat_cmp_total X → ℕ → List (ℕ × X)
entry_at m u = one_or_none (option_map (λ x. (u, x)) (get m u))

-- the encoding of a node's row
abbrev pub node_text : ℕ → ℕ × NodeState → List ℕ
node_text version e = (node_row version 0 []).text (rows.node_row e)

-- the encoding of the row of a client's last order
abbrev pub session_text : ℕ → ℕ × Session → List ℕ
session_text version e = (client_row 0 []).text (rows.client_row e)
