use Rattle.std.proofs.Common.{ℕ, ◌-◌, Option, None, refl, arith}
use Rattle.std.proofs.lemmas.List.{get_or-replicate}
use Rattle.coord_codec.proofs.rows_read.NodesRead.new.Goals as goal

pub invariant_of-result : goal.invariant_of-result
invariant_of-result c = rw c.new.ensures.items (record { last_row = refl; grouped = λ u low high. get_or-replicate {A = Option ℕ} 64 (u - 1) None None (omega arith) })
