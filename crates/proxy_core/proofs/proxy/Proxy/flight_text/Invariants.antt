use Rattle.std.proofs.Common.{◌≡◌, ◌++◌, drop}
use Rattle.proxy_core.specs.Pending.{text_of}
use Rattle.proxy_core.proofs.proxy.Proxy.flight_text.Given as goal

abbrev pub invariant-loop-i : goal.invariant-loop-i
invariant-loop-i g l = l.text.items ++ text_of (g.P.Policy.rules l.policy) l.number (drop l.i l.self-inside.flight.items) ≡ text_of (g.P.Policy.rules l.policy) l.self-inside.number l.self-inside.flight.items
