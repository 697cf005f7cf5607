use Rattle.std.proofs.Common.{refl, arith}
use Rattle.coord_store.proofs.Freshness.{all_carried, all_writable, each_fresh, first_number, led_soundly}
use Rattle.coord_store.proofs.Holding.{taken}
use Rattle.coord_store.proofs.store.commit.next_batch.Goals as goal

pub write_batch-requires-clause-first : goal.write_batch-requires-clause-first
write_batch-requires-clause-first c =
    let most = first_number c.args.steps.now c.args.world.now c.args.world.now c.requires.some.0 c.requires.fresh in (omega arith, omega (arith, most, c.count.ensures))

pub write_batch-requires-clause-writable : goal.write_batch-requires-clause-writable
write_batch-requires-clause-writable c =
    let w = c.args.world.now in
    let steps = c.args.steps.now in
    let carried = all_carried steps w (record { in_range = c.lemma_in_range.ensures; legal = c.requires.legal }) (each_fresh steps w w c.lemma_in_ranges.ensures c.requires.fresh) in
    all_writable c.version.result steps c.requires.numbered (rw c.version.ensures carried)

pub returns-in-Ok-clause-legal : goal.returns-in-Ok-clause-legal
returns-in-Ok-clause-legal c =
    let w = c.args.world.now in
    let steps = c.args.steps.now in
    let led = led_soundly steps w (record { in_range = c.lemma_in_range.ensures; legal = c.requires.legal }) (each_fresh steps w w c.lemma_in_ranges.ensures c.requires.fresh) in
    rw c.in_ok-next.ensures.world led.legal

pub returns-in-Ok-clause-taken : goal.returns-in-Ok-clause-taken
returns-in-Ok-clause-taken c =
    taken c.args.world.now c.version.result c.count.result c.in-Ok.body.items c.in-Ok.body.items c.args.steps.now c.version.ensures c.count.ensures refl c.in-Ok.ensures.spelled c.in-Ok.ensures.fits c.requires.fresh
