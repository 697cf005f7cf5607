use Rattle.std.proofs.Common.{◌+◌, arith}
use Rattle.coord_codec.proofs.ByNumber.{all_written, none_written, one_written}
use Rattle.coord_codec.proofs.world_writing.put_rows.Goals as goal

pub loop-at-init : goal.loop-at-init
loop-at-init g c = none_written c.args.rows.now g.row.MOST (g.R.Row.text c.args.version) c.requires c.args.out.now.items c.push.new.self.items c.len.result c.in_ok-push.ensures.items c.len.ensures

pub loop-at-preserved : goal.loop-at-preserved
loop-at-preserved g c =
    let before = c.loop-at-test.true in
    one_written c.args.rows.now g.row.MOST (g.R.Row.text c.args.version) (c.loop-at.at + 1) c.args.out.now.items c.loop-at.out.items c.put_row.new.out.items (omega (arith, before)) c.in_ok-put_row.ensures c.loop-at.invariant

pub returns : goal.returns
returns g c =
    let past = c.loop-at-test.false in
    all_written c.args.rows.now g.row.MOST (g.R.Row.text c.args.version) (c.loop-at.at + 1) c.args.out.now.items c.loop-at.out.items (omega (arith, past)) c.loop-at.invariant
