use Rattle.std.proofs.Common.{None, ap, sym, ◌∙◌}
use Rattle.std.proofs.lemmas.Map.Iter.{iter_end}
use Rattle.std.specs.Map.{values_of}
use Rattle.std.specs.Map.Iter.{deref_pair}
use Rattle.proxy_audit.specs.Quotas.{earliest_since, with_since}
use Rattle.proxy_audit.proofs.Earliest.{of_values, with_one_more}
use Rattle.proxy_audit.proofs.quotas.Quotas.left_out_since.Goals as goal

pub loop-quota-preserved : goal.loop-quota-preserved
loop-quota-preserved c =
    c.earlier-earliest.ensures ∙ ap (λ e. with_since e c.in-Some.quota.now) c.loop-quota.invariant ∙ sym (with_one_more None c.loop-quota.yielded _)

pub returns : goal.returns
returns c =
    let all = c.args.self.now.all in
    let given = c.into_iter-quota-iterator.ensures.into_iter_gives in
    let ended = iter_end deref_pair all.entries c.loop-quota.yielded c.into_iter-quota-iterator.result c.loop-quota.quota-iterator c.next.new.self c.next.result given.0 c.loop-quota.yielded_by c.in-None.is c.next.ensures.steps in
    c.loop-quota.invariant ∙ of_values None c.loop-quota.yielded ∙ ap (λ es. earliest_since None (values_of es)) ended.0
