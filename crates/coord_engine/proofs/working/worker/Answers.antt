use Rattle.std.proofs.Common.{subst}
use Rattle.coord_engine.specs.Facade.{Works, all_packets, based_on}
use Rattle.coord_engine.proofs.Worked.{works_adds, works_parcel}
use Rattle.coord_engine.proofs.working.worker.Goals as goal

pub loop-packets-preserved : goal.loop-packets-preserved
loop-packets-preserved g c =
    let b = based_on g.D.Disk.model g.L.Origin.base g.L.Origin.before in
    let goes = c.in-Some.ensures.goes in
    let taken = subst (λ ps. Works b c.loop-packets.share c.loop-packets.hand ps c.take_together.new.share c.take_together.new.hand) c.deref.ensures.value c.take_together.ensures in (
      goes.keeps,
      (goes.on c.loop-packets.invariant.1).1,
      works_parcel b c.args.share c.loop-packets.share c.take_together.new.share c.args.hand.now c.loop-packets.hand c.take_together.new.hand c.loop-packets.yielded c.in-Some.packets c.loop-packets.invariant.2 taken,
    )

pub returns-clause-packets : goal.returns-clause-packets
returns-clause-packets g c =
    works_adds (based_on g.D.Disk.model g.L.Origin.base g.L.Origin.before) c.args.share c.loop-packets.share c.args.hand.now c.loop-packets.hand (all_packets c.loop-packets.yielded) c.loop-packets.invariant.2
