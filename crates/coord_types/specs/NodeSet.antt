-- A finite set of nodes, by their numbers, in ascending order.
use Rattle.std.specs.Prelude.{ℕ, Bool, List, [], ◌∷◌, Option, Some, None, is_some}
use Rattle.std.specs.List.{list_all}
use Rattle.std.specs.Cmp.{nat_cmp_total}
use Rattle.std.specs.Coded.{Coded, coded_ℕ}
use Rattle.coord_types.specs.Table as table
use base.Stored.{coded_unit}

abbrev pub NodeSet : Type 0
NodeSet = table.Table nat_cmp_total (Unit {0})

abbrev pub nodes_code : Coded NodeSet
nodes_code = table.code coded_ℕ coded_unit

unfoldable pub contains : NodeSet → ℕ → Bool
unfolding table.get
contains s q = is_some (table.get s q)

unfoldable pub empty : NodeSet
unfolding table.empty
empty = table.empty

unfoldable pub insert : NodeSet → ℕ → NodeSet
unfolding table.insert
insert s k = table.insert s k tt

unfoldable pub remove : NodeSet → ℕ → NodeSet
unfolding table.remove
remove s k = table.remove s k

unfoldable pub len : NodeSet → ℕ
unfolding table.len
len s = table.len s

-- the members, in ascending order
unfoldable pub items : NodeSet → List ℕ
unfolding table.keys
items s = table.keys s

unfoldable pub from_list : List ℕ → NodeSet
unfolding empty insert
from_list [] = empty
from_list (k ∷ ks) = insert (from_list ks) k

abbrev pub first_of : List ℕ → Option ℕ
first_of [] = None
first_of (k ∷ ks) = Some k

-- the smallest member, or None if the set is empty
abbrev pub first : NodeSet → Option ℕ
first s = first_of (items s)

-- whether the first set is a subset of the second
abbrev pub is_subset : NodeSet → NodeSet → Bool
is_subset s t = list_all (λ v. contains t v) (items s)
