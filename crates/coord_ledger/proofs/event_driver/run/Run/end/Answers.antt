use Rattle.std.proofs.Common.{refl}
use Rattle.coord_ledger.proofs.runs.Ends.{completed_home}
use Rattle.coord_ledger.proofs.event_driver.run.Run.end.Goals as goal

pub returns-in-Ok-clause-ran : goal.returns-in-Ok-clause-ran
returns-in-Ok-clause-ran g c start first events given disk so_far follows at_home =
    completed_home g.D.Disk.model g.D.CrashDisk.crashes start first events given c.args.self c.in-Ok.ledger c.args.self.released.items disk so_far follows c.in-Ok.ensures.home refl c.lemma_images_give_settled.ensures at_home
