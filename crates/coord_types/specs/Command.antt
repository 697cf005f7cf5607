-- Equality of commands, as a test that computes.
use Rattle.std.specs.Prelude.{◌==◌, ◌&&◌, Bool, false}
use Rattle.coord_types.specs.declared.steps.Command.{Command}
use Rattle.coord_types.specs.declared.steps.Command.TheVariants.{Add, Remove, Join, Drop, Reset, Confirm}

-- whether both commands have the same form and the same arguments
abbrev pub same_command : Command → Command → Bool
same_command (Add u g) (Add v h) = (u == v) && (g == h)
same_command (Remove u) (Remove v) = u == v
same_command (Join a b) (Join c d) = (a == c) && (b == d)
same_command (Drop a b) (Drop c d) = (a == c) && (b == d)
same_command (Reset u) (Reset v) = u == v
same_command (Confirm u e) (Confirm v f) = (u == v) && (e == f)
same_command x y = false
