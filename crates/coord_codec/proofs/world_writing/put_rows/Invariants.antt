use Rattle.std.proofs.Common.{◌+◌}
use Rattle.coord_codec.proofs.ByNumber.{IsWrittenTo}
use Rattle.coord_codec.proofs.world_writing.put_rows.Given as goal

abbrev pub invariant-loop-at : goal.invariant-loop-at
invariant-loop-at g l = IsWrittenTo l.rows g.row.MOST (g.R.Row.text l.version) (l.at + 1) l.fn.out.items l.out.items
