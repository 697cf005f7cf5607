use Rattle.std.proofs.Common.{ap}
use Rattle.std.proofs.lemmas.Map.Iter.{iter_end}
use Rattle.std.specs.Map.Iter.{deref_pair}
use Rattle.proxy_audit.specs.Tallies.{answer_line, count_line}
use Rattle.proxy_audit.proofs.Given.{all_added, line_added}
use Rattle.proxy_audit.proofs.tally.push_answers.Goals as goal

pub loop-labels-preserved : goal.loop-labels-preserved
loop-labels-preserved c =
    line_added answer_line _ _ _ c.loop-labels.yielded (c.in-Some.labels, c.in-Some.count) _ c.loop-labels.invariant c.in_ok-push_count.ensures
    (ap (λ w. count_line w c.in-Some.count.now) c.as_str.ensures.value)

pub returns : goal.returns
returns c =
    let all = c.args.answers.now in
    let given = c.into_iter-labels-iterator.ensures.into_iter_gives in
    let ended = iter_end deref_pair all.entries c.loop-labels.yielded c.into_iter-labels-iterator.result c.loop-labels.labels-iterator c.next.new.self c.next.result given.0 c.loop-labels.yielded_by c.in-None.is c.next.ensures.steps in
    all_added answer_line _ _ _ _ c.loop-labels.yielded all.entries c.loop-labels.invariant c.in_ok-push_str.ensures.bytes ended.0
