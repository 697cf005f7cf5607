use Rattle.std.proofs.Common.{[], ◌∷◌, arith, rules}
use Rattle.coord_server.proofs.Ends.{adds_flusher, adds_worker}
use Rattle.coord_server.proofs.threads.all_joined.Goals as goal

pub loop-worker-init : goal.loop-worker-init
loop-worker-init g c =
    let own = c.in-Ok.ensures in
    let flushed = c.in-Ok-push.ensures in (
      adds_flusher c.args.own c.into_share.result c.args.room.items c.push.new.self.items c.push-2.new.self.items c.requires.0 own.items flushed.items c.into_share.ensures.packets,
      search rules,
      search rules,
    )

pub loop-worker-preserved : goal.loop-worker-preserved
loop-worker-preserved g c =
    let pushed = c.in-Ok-push-2.ensures in (
      adds_worker (c.args.own ∷ []) c.loop-worker.shares.items c.push-in-loop-worker.new.self.items c.into_share-in-loop-worker.result c.loop-worker.invariant.0 pushed.items c.into_share-in-loop-worker.ensures.packets,
      omega (arith, c.in-Some.ensures.steps.1, pushed.len, c.loop-worker.invariant.1),
      omega (arith, pushed.capacity, c.loop-worker.invariant.2),
    )
