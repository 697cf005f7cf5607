use Rattle.std.proofs.Common.{◌≡◌, ◌+◌, ◌≤◌, [], ◌∷◌, vec_capacity, vec_len}
use Rattle.std.specs.Vec.Iter.{into_iter_len}
use Rattle.coord_server.specs.Ending.{AddsWorkers}
use Rattle.coord_server.proofs.threads.all_joined.Given as goal

-- the flusher and each worker so far have left their share, and there is room for the others'
abbrev pub invariant-loop-worker : goal.invariant-loop-worker
invariant-loop-worker g l =
    AddsWorkers (l.fn.own ∷ []) l.shares.items
    × (vec_len l.shares + into_iter_len l.worker-iterator ≡ vec_len l.fn.running + 2)
    × (vec_len l.fn.running + 2 ≤ vec_capacity l.shares)
