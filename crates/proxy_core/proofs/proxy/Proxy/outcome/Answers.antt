use Rattle.std.proofs.Common.{rules, true, false}
use Rattle.proxy_core.proofs.Outcomes.{outcome_is}
use Rattle.proxy_core.proofs.proxy.Proxy.outcome.Goals as goal

pub returns-then-ends : goal.returns-then-ends
returns-then-ends g c = outcome_is (g.P.Policy.rules c.args.policy.now) c.args.answer.now c.args.self.now c.in-Some.first.now c.from-connection.result c.ends.result true (search rules) (search rules) (search rules) c.from-connection.ensures (search rules) c.ends.ensures (search rules)

pub returns : goal.returns
returns g c = outcome_is (g.P.Policy.rules c.args.policy.now) c.args.answer.now c.args.self.now c.in-Some.first.now c.from-connection.result c.ends.result false (search rules) (search rules) (search rules) c.from-connection.ensures (search rules) c.ends.ensures (search rules)
