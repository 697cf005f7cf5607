use Rattle.std.proofs.Common.{◌≡◌, Some, refl, ap, ◌∙◌}
use Rattle.coord_world.specs.protocol.NumberedWorld.{no_world}
use Rattle.coord_ledger.specs.Facade.{DriverState, LedgerState, disk_held, log_over}
use Rattle.coord_drill.proofs.course.Standing.{stands_first}
use Rattle.coord_drill.proofs.drill.Drill.new.Goals as goal

pub returns-clause-begun : goal.returns-clause-begun
returns-clause-begun g c on =
    let made = c.in_ok-new_ledger.ensures.made in
    let driver = c.over-driver.result in
    let over = c.over-driver.ensures in
    let there : disk_held driver ≡ Some made.begun = ap disk_held over ∙ ap (λ (l : LedgerState g.row.D.Denot). l.disk) made.is in
    let empty : driver.ledger.log ≡ log_over (no_world 1) = ap (λ (v : DriverState g.row.D.Denot). v.ledger.log) over ∙ ap (λ (l : LedgerState g.row.D.Denot). l.log) made.is in
    record { begun = made.begun; made = made.made on; unfailed = made.unfailed; stands = stands_first g.D.Disk.model g.D.CrashDisk.crashes _ made.begun c.lemma_begins.ensures there (made.keeps ∙ on) empty refl refl }
