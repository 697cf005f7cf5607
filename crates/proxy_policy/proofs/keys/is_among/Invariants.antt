use Rattle.std.proofs.Common.{◌≡◌, drop, map}
use Rattle.proxy_policy.specs.Keys.{is_among}
use Rattle.proxy_policy.proofs.keys.is_among.Given as goal

abbrev pub invariant-loop-name : goal.invariant-loop-name
invariant-loop-name l =
    is_among (map (λ name. name.now) (drop l.name-index l.names)) l.key ≡ is_among (map (λ name. name.now) l.names) l.key
