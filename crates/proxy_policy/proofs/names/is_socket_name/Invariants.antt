use Rattle.std.proofs.Common.{◌≡◌, drop}
use Rattle.std.specs.List.{list_all}
use Rattle.proxy_policy.specs.Names.{is_socket_byte}
use Rattle.proxy_policy.proofs.names.is_socket_name.Given as goal

abbrev pub invariant-loop-byte : goal.invariant-loop-byte
invariant-loop-byte l = list_all is_socket_byte l.name ≡ list_all is_socket_byte (drop l.byte-index l.name)
