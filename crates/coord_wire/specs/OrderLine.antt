-- The line of an order, which ends with a line feed (docs/FORMATS.md, "Administration lines").
use Rattle.std.specs.Prelude.{ℕ, List, ◌++◌, codes, decimal}
use Rattle.coord_types.specs.declared.steps.Command.{Command}
use Rattle.coord_types.specs.declared.steps.Command.TheVariants.{Add, Remove, Join, Drop, Reset, Confirm}
use Rattle.coord_orders.specs.declared.book.Line.{Line}

-- a JSON member whose value is a number, after a comma
unfoldable pub number_member : List ℕ → ℕ → List ℕ
number_member name n = codes ",\"" ++ (name ++ (codes "\":" ++ decimal n))

-- the members with which the line of every order begins
unfoldable pub head : List ℕ → ℕ → ℕ → List ℕ
head op c n = codes "{\"op\":\"" ++ (op ++ (codes "\",\"client\":" ++ (decimal c ++ (codes ",\"number\":" ++ decimal n))))

abbrev pub end : List ℕ
end = codes "}\n"

unfoldable pub add_line : ℕ → ℕ → ℕ → ℕ → List ℕ
add_line c n u g = head (codes "add") c n ++ (number_member (codes "node") u ++ (number_member (codes "group") g ++ end))

unfoldable pub confirm_line : ℕ → ℕ → ℕ → ℕ → List ℕ
confirm_line c n u e = head (codes "confirm") c n ++ (number_member (codes "node") u ++ (number_member (codes "epoch") e ++ end))

-- the line of an order that names one node
unfoldable pub node_line : List ℕ → ℕ → ℕ → ℕ → List ℕ
node_line op c n u = head op c n ++ (number_member (codes "node") u ++ end)

-- the line of an order that names two nodes
unfoldable pub link_line : List ℕ → ℕ → ℕ → ℕ → ℕ → List ℕ
link_line op c n a b = head op c n ++ (number_member (codes "a") a ++ (number_member (codes "b") b ++ end))

abbrev pub command_line : ℕ → ℕ → Command → List ℕ
command_line c n (Add u g) = add_line c n u g
command_line c n (Remove u) = node_line (codes "remove") c n u
command_line c n (Join a b) = link_line (codes "join") c n a b
command_line c n (Drop a b) = link_line (codes "drop") c n a b
command_line c n (Reset u) = node_line (codes "reset") c n u
command_line c n (Confirm u e) = confirm_line c n u e

abbrev pub order_line : ℕ → Line → List ℕ
order_line c line = command_line c line.number line.command
