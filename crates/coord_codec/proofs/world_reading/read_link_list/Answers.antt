use Rattle.std.proofs.lemmas.Result.{err_from_is_err_and}
use Rattle.coord_codec.specs.Worlds.{link_row}
use Rattle.coord_batch.proofs.Loops.{one_more, cut_short, all_read, len_more}
use Rattle.coord_codec.proofs.world_reading.read_link_list.Goals as goal

pub returns-in_err-row : goal.returns-in_err-row
returns-in_err-row c =
    let p = err_from_is_err_and c.from_residual.result c.from_residual.ensures.1 in
    rw (p.1, p.2) (cut_short (link_row c.args.version c.args.count c.args.nodes.now.rows.items) _ c.loop.list.rows.items c.args.rows c.loop.counter c.loop.input c.in_err-row.field-0.0 c.loop-test.true c.in_err-row.ensures c.loop.invariant.0)

pub loop-preserved : goal.loop-preserved
loop-preserved c = (
  rw c.in_ok-push.ensures (one_more (link_row c.args.version c.args.count c.args.nodes.now.rows.items) _ c.loop.list.rows.items c.args.rows c.loop.counter c.loop.input c.in_ok-row.row c.read_link_row.new.input c.loop-test.true c.in_ok-row.ensures c.loop.invariant.0),
  rw c.in_ok-push.ensures (len_more c.loop.list.rows.items c.in_ok-row.row c.loop.counter c.loop.invariant.1),
)

pub returns : goal.returns
returns c = all_read (link_row c.args.version c.args.count c.args.nodes.now.rows.items) _ c.loop.list.rows.items c.args.rows c.loop.counter c.loop.input c.loop-test.false c.loop.invariant.0
