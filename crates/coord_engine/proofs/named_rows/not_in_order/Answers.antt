use Rattle.std.proofs.Common.{[], arith}
use Rattle.coord_engine.specs.WorkedNames.{third_note}
use Rattle.coord_engine.proofs.named_rows.not_in_order.Goals as goal

pub returns : goal.returns
returns c = λ is. omega (arith, is.ascending 0 [] (omega arith) 0 third_note (omega arith))
