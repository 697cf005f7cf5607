use Rattle.std.proofs.Common.{refl, arith}
use Rattle.coord_tables.proofs.SameTables.{same_places}
use Rattle.coord_tables.proofs.equality.is_same_list.Goals as goal

pub returns : goal.returns
returns g c = (λ _. same_places c.args.a.now c.args.b.now (omega arith) (λ k less. c.loop-i.invariant k (omega (arith, less))), λ _. refl)
