use Rattle.std.proofs.Common.{refl}
use Rattle.coord_ledger.specs.declared.events.Event.TheVariants.{Submit}
use Rattle.coord_ledger.specs.ledger.DriverState.{answer_to}
use Rattle.coord_drill.proofs.does.Moments.{leads_aside}
use Rattle.coord_drill.proofs.drill.submitting.hand_in.Goals as goal

pub returns : goal.returns
returns g c =
    let handed = c.submit-handed.result in
    record {
      handed = c.submit-handed.ensures.handed;
      flight = c.submit-handed.ensures.flight;
      stays = c.submit-handed.ensures.disk;
      moments = leads_aside g.D.Disk.model g.D.CrashDisk.crashes c.args.driver.now c.submit-handed.new.self (Submit c.args.step) (answer_to handed) c.lemma_in_range.ensures c.lemma_survives.ensures c.lemma_survives-2.ensures g.met.D.Disk.laws refl (λ s. refl) refl c.submit-handed.ensures.disk
          c.submit-handed.ensures.simulates;
    }
