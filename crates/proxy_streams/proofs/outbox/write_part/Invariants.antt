use Rattle.std.proofs.Common.{◌≤◌, length, take}
use Rattle.std.specs.Io.KnownBytes.{Appends}
use Rattle.proxy_streams.proofs.outbox.write_part.Given as goal

abbrev pub invariant-loop : goal.invariant-loop
invariant-loop g l = (l.sent ≤ length l.text) × Appends (g.W.Write.contents l.fn.stream) (g.W.Write.contents l.stream) (take l.sent l.text)
