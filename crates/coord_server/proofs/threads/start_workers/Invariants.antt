use Rattle.std.proofs.Common.{◌≡◌, ◌+◌, vec_len}
use Rattle.std.specs.Vec.Iter.{into_iter_len}
use Rattle.coord_server.proofs.threads.start_workers.Given as goal

-- a worker runs on each channel so far
abbrev pub invariant-loop-inbox : goal.invariant-loop-inbox
invariant-loop-inbox g l = vec_len l.running + into_iter_len l.inbox-iterator ≡ vec_len l.fn.packets
