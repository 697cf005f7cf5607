use Rattle.std.proofs.Common.{rules}
use Rattle.proxy_core.proofs.Held.{held_without, within_dropped}
use Rattle.proxy_core.proofs.proxy.Proxy.forget.Goals as goal

pub invariant_of-self : goal.invariant_of-self
invariant_of-self c = (held_without c.self.inside.held c.release.new.held c.self.inside.flight.items c.self.inside.waiting.items c.keep_others.new.waiting.items c.args.connection c.saturating_sub.result c.self.invariant.0 c.keep_others.ensures (search rules) c.release.ensures, within_dropped c.args.connection c.self.inside.refused c.count_from-refused.result c.saturating_sub-self-inside.result c.self.inside.waiting.items c.keep_others.new.waiting.items c.self.invariant.1 c.count_from-refused.ensures (search rules) c.keep_others.ensures)
