use Rattle.resetd_proxy.proofs.Joined.{three_appended}
use Rattle.resetd_proxy.proofs.totals.push_counters.Goals as goal

pub returns : goal.returns
returns c = three_appended _ _ _ _ _ _ _ c.in_ok-push_counter.ensures c.in_ok-push_counter-2.ensures c.in_ok-push_counter-3.ensures
