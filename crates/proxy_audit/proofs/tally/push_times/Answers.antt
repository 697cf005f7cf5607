use Rattle.std.proofs.Common.{◌++◌, ap}
use Rattle.std.proofs.lemmas.Map.Iter.{iter_end}
use Rattle.std.specs.Duration.{as_nanos}
use Rattle.std.specs.Map.Iter.{deref_pair}
use Rattle.proxy_audit.specs.Tallies.{bucket_lines, histogram_lines, sum_lines}
use Rattle.proxy_audit.proofs.Given.{all_added, line_added}
use Rattle.proxy_audit.proofs.tally.push_times.Goals as goal

pub loop-op-preserved : goal.loop-op-preserved
loop-op-preserved c =
    let h = c.in-Some.histogram.now in
    line_added histogram_lines _ _ _ c.loop-op.yielded (c.in-Some.op, c.in-Some.histogram) _ c.loop-op.invariant c.in_ok-push.ensures
    (ap (λ w. bucket_lines w h.buckets.items ++ sum_lines w h.count (as_nanos h.sum)) c.as_str.ensures.value)

pub returns : goal.returns
returns c =
    let all = c.args.times.now in
    let given = c.into_iter-op-iterator.ensures.into_iter_gives in
    let ended = iter_end deref_pair all.entries c.loop-op.yielded c.into_iter-op-iterator.result c.loop-op.op-iterator c.next.new.self c.next.result given.0 c.loop-op.yielded_by c.in-None.is c.next.ensures.steps in
    all_added histogram_lines _ _ _ _ c.loop-op.yielded all.entries c.loop-op.invariant c.in_ok-push_str.ensures.bytes ended.0
