use Rattle.std.proofs.Common.{◌≡◌, length}
use Rattle.coord_server.proofs.instance.channels.Given as goal

-- an end of each kind for each round
abbrev pub invariant-loop : goal.invariant-loop
invariant-loop l = (length l.to.items ≡ l.counter) × (length l.from.items ≡ l.counter)
