use Rattle.std.proofs.Common.{◌≡◌, drop}
use Rattle.std.specs.List.{list_any}
use Rattle.proxy_core.specs.Machine.{is_denied}
use Rattle.proxy_core.proofs.proxy.Proxy.has_denied.Given as goal

abbrev pub invariant-loop-i : goal.invariant-loop-i
invariant-loop-i g l = list_any (is_denied (g.P.Policy.rules l.policy) l.connection l.role) (drop l.i l.self-inside.waiting.items) ≡ list_any (is_denied (g.P.Policy.rules l.policy) l.connection l.role) l.self-inside.waiting.items
