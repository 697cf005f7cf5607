-- When two commands are the same.
use Rattle.std.proofs.Common.{◌≡◌, true, arith}
use Rattle.coord_types.specs.Command.{same_command}
use Rattle.coord_types.specs.declared.steps.Command.{Command}

pub same_is : (x y : Command) → same_command x y ≡ true → x ≡ y
same_is x y h1 = grind arith

pub same_self : (x : Command) → same_command x x ≡ true
same_self x = grind arith
