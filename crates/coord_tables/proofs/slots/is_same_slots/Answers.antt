use Rattle.std.proofs.Common.{refl, arith}
use Rattle.coord_tables.proofs.SlotTables.{all_slots}
use Rattle.coord_tables.proofs.slots.is_same_slots.Goals as goal

pub returns : goal.returns
returns g c = (λ _. all_slots c.args.a.now c.args.b.now c.loop-at.at (omega arith) (omega arith) c.loop-at.invariant, λ _. refl)
