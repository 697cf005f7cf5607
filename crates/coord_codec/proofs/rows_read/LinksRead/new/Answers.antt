use Rattle.std.proofs.Common.{◌-◌, refl, arith}
use Rattle.std.proofs.lemmas.List.{get_or-replicate}
use Rattle.coord_codec.proofs.rows_read.LinksRead.new.Goals as goal

pub invariant_of-result : goal.invariant_of-result
invariant_of-result c = rw c.new.ensures.items (record { last_first = refl; last_second = refl; counted = λ u low high. get_or-replicate 64 (u - 1) 0 0 (omega arith) })
