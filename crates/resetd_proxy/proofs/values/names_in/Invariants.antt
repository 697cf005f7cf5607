use Rattle.std.proofs.Common.{◌≡◌, drop, map}
use Rattle.std.specs.List.{list_all}
use Rattle.proxy_policy.specs.Names.{is_socket_name}
use Rattle.resetd_proxy.proofs.values.names_in.Given as goal

abbrev pub invariant-loop-name : goal.invariant-loop-name
invariant-loop-name l =
    list_all is_socket_name (map (λ each. each.now) l.name-items) ≡ list_all is_socket_name (map (λ each. each.now) (drop l.name-index l.name-items))
