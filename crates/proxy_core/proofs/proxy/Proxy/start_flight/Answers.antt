use Rattle.std.proofs.Common.{rules, arith}
use Rattle.proxy_core.proofs.Held.{held_flown, none_of}
use Rattle.proxy_core.proofs.Picks.{picks_may_go}
use Rattle.proxy_core.proofs.proxy.Proxy.start_flight.Goals as goal

pub invariant_of-self-2 : goal.invariant_of-self-2
invariant_of-self-2 c = (held_flown c.self.inside.held c.self.inside.flight.items c.in_ok-flight.flight.items c.self.inside.waiting.items c.take_out.new.waiting.items c.as_slice.result.now c.self.invariant.0 (none_of c.self.inside.flight.items (search rules)) c.in_ok-flight.ensures.out c.in_ok-flight.ensures.left, omega arith)

pub returns-clause-went : goal.returns-clause-went
returns-clause-went c some = (search (rules, picks_may_go), search (rules, picks_may_go))
