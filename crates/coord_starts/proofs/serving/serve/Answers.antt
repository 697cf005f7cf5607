use Rattle.std.proofs.Common.{subst}
use Rattle.coord_world.specs.Facade.{InRange}
use Rattle.coord_starts.proofs.Runs.{served_and_cut}
use Rattle.coord_starts.proofs.serving.serve.Goals as goal

pub returns-in-Ok-run_events-clause-once : goal.returns-in-Ok-run_events-clause-once
returns-in-Ok-run_events-clause-once g c k =
    let ran = c.in-Ok-run_events in
    (served_and_cut g.D.Disk.model g.D.CrashDisk.crashes c.args.store.world c.args.events.now ran.trace.answers.items ran.trace.released.items c.in-Ok.ledger ran.ledger c.args.store.disk c.cut.result c.in-Ok.ensures.adopted ran.ensures.same_model ran.ensures.ran c.cut.ensures.cut
    k (record { in_range = subst InRange c.world.ensures c.lemma_in_range.ensures; legal = c.lemma_images_give_world.ensures.legal }) c.lemma_all_named.ensures).0
