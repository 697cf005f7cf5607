use Rattle.std.proofs.Common.{sym, ◌∙◌}
use Rattle.std.proofs.lemmas.Result.{err_from_is_err_and}
use Rattle.coord_codec.specs.Worlds.{client_row}
use Rattle.coord_batch.proofs.Loops.{one_more, cut_short, all_read}
use Rattle.coord_codec.proofs.RowsRead.{last_push}
use Rattle.coord_codec.proofs.world_reading.read_client_list.Goals as goal

pub returns-in_err-row : goal.returns-in_err-row
returns-in_err-row c =
    let p = err_from_is_err_and c.from_residual.result c.from_residual.ensures.1 in
    rw (p.1, p.2) (cut_short (client_row c.args.count) _ c.loop.list.items c.args.rows c.loop.counter c.loop.input c.in_err-row.field-0.0 c.loop-test.true (c.in_err-row.ensures c.loop.list.items c.loop.invariant.1) c.loop.invariant.0)

pub loop-preserved : goal.loop-preserved
loop-preserved c = (
  rw c.in_ok-extend_from_slice.ensures.items (one_more (client_row c.args.count) _ c.loop.list.items c.args.rows c.loop.counter c.loop.input c.in_ok-row.row c.read_client_row.new.input c.loop-test.true (c.in_ok-row.ensures c.loop.list.items c.loop.invariant.1) c.loop.invariant.0),
  rw c.in_ok-extend_from_slice.ensures.items (c.number-last.ensures.value ∙ sym (last_push (λ r. r.client) 0 c.loop.list.items c.in_ok-row.row)),
)

pub returns : goal.returns
returns c = all_read (client_row c.args.count) _ c.loop.list.items c.args.rows c.loop.counter c.loop.input c.loop-test.false c.loop.invariant.0
