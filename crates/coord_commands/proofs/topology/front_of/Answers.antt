use Rattle.std.proofs.Common.{subst, take, ◌≡◌, IfSome}
use Rattle.coord_commands.proofs.SaidBytes.{up_to}
use Rattle.coord_commands.specs.declared.topology.TheConstants.{MOST_BYTES}
use Rattle.coord_commands.proofs.topology.front_of.Goals as goal

pub returns-in-Ok-clause-bytes : goal.returns-in-Ok-clause-bytes
returns-in-Ok-clause-bytes g c =
    let limited = c.take.result in
    let front = c.read_to_end.new.buf.items in
    let there = up_to (g.R.Read.remaining limited.inner) limited.limit front c.new-bytes.result.items c.new-bytes.ensures.items c.in-Ok.ensures.bytes in
    subst (λ r. IfSome (g.R.Read.remaining r) (λ bytes. front ≡ take MOST_BYTES bytes)) c.take.ensures.inner
    (subst (λ n. IfSome (g.R.Read.remaining limited.inner) (λ bytes. front ≡ take n bytes)) c.take.ensures.limit there)
