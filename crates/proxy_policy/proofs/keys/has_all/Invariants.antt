use Rattle.std.proofs.Common.{◌≡◌, drop, map}
use Rattle.toml.specs.View.{table_view}
use Rattle.proxy_policy.specs.Keys.{has_all}
use Rattle.proxy_policy.proofs.keys.has_all.Given as goal

abbrev pub invariant-loop-name : goal.invariant-loop-name
invariant-loop-name l =
    has_all (map (λ name. name.now) (drop l.name-index l.names)) (table_view l.table) ≡ has_all (map (λ name. name.now) l.names) (table_view l.table)
