use Rattle.std.proofs.Common.{◌≡◌, ◌+◌, map, take, string_bytes}
use Rattle.proxy_activation.specs.Passing.{counted_from}
use Rattle.proxy_activation.proofs.sockets.name_sockets.Given as goal

abbrev pub invariant-loop-name : goal.invariant-loop-name
invariant-loop-name l =
    (l.descriptor ≡ 3 + l.name-index)
    × (map (λ socket. socket.name.now) l.sockets.items ≡ map string_bytes (take l.name-index l.names))
    × (map (λ socket. socket.descriptor) l.sockets.items ≡ counted_from 3 l.name-index)
