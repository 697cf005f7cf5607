-- When `==` says that two steps are the same.
use Rattle.std.proofs.Common.{◌≡◌, ℕ, arith}
use Rattle.std.proofs.lemmas.Bool.Decides.{nat_tests}
use Rattle.std.specs.Bool.{Decides}
use Rattle.coord_types.specs.contracts.steps.CommandPartialEq.TheImpl as same_commands
use Rattle.coord_types.specs.contracts.steps.StepPartialEq.TheImpl as same
use Rattle.coord_types.specs.declared.steps.Command.{Command}
use Rattle.coord_ledger.specs.Facade.{Step}
use Rattle.coord_types.specs.declared.steps.Step.TheVariants.{Order, Take, Clear}

command_eq : (x y : Command) → Decides (same_commands.eq-value.it x y) (x ≡ y)
command_eq x y = grind arith

order_eq : (c n d m : ℕ) (x y : Command) → Decides (same.eq-value.it (Order c n x) (Order d m y)) (Order c n x ≡ Order d m y)
order_eq c n d m x y = grind arith

pub step_eq : (a b : Step) → Decides (same.eq-value.it a b) (a ≡ b)
step_eq (Order c n x) (Order d m y) = order_eq c n d m x y
step_eq (Take p) (Take q) = (λ e. grind (arith, nat_tests, e), λ e. grind (arith, nat_tests, e))
step_eq (Clear p) (Clear q) = (λ e. grind (arith, nat_tests, e), λ e. grind (arith, nat_tests, e))
step_eq a b = (λ e. cc, λ e. cc)
