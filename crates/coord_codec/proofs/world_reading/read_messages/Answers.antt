use Rattle.std.proofs.Common.{ap, ◌∙◌}
use Rattle.std.proofs.lemmas.Result.{err_from_is_err_and}
use Rattle.coord_batch.specs.Fields.{message}
use Rattle.coord_batch.proofs.Loops.{one_more, cut_short, all_read, len_more}
use Rattle.coord_codec.proofs.world_reading.read_messages.Goals as goal

pub returns-in_err-msg-clause-read : goal.returns-in_err-msg-clause-read
returns-in_err-msg-clause-read c =
    let p = err_from_is_err_and c.from_residual.result c.from_residual.ensures.1 in
    rw (p.1, p.2) (cut_short (λ _. message c.args.version c.args.most) _ c.loop.lane.queue c.args.count c.loop.counter c.loop.input c.in_err-msg.field-0.0 c.loop-test.true c.in_err-msg.ensures c.loop.invariant.read)

pub loop-preserved : goal.loop-preserved
loop-preserved c = record {
  read = rw c.send.ensures (one_more (λ _. message c.args.version c.args.most) _ c.loop.lane.queue c.args.count c.loop.counter c.loop.input c.in_ok-msg.msg c.message.new.self c.loop-test.true c.in_ok-msg.ensures c.loop.invariant.read);
  few = rw c.send.ensures (len_more c.loop.lane.queue c.in_ok-msg.msg c.loop.counter c.loop.invariant.few);
  inc = ap (λ l. l.inc) c.send.ensures ∙ c.loop.invariant.inc;
  base = ap (λ l. l.base) c.send.ensures ∙ c.loop.invariant.base;
  got = ap (λ l. l.got) c.send.ensures ∙ c.loop.invariant.got;
}

pub returns-clause-read : goal.returns-clause-read
returns-clause-read c = all_read (λ _. message c.args.version c.args.most) _ c.loop.lane.queue c.args.count c.loop.counter c.loop.input c.loop-test.false c.loop.invariant.read
