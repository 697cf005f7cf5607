use Rattle.std.proofs.Common.{◌≡◌, ◌+◌, true, sym, ap, ◌∙◌, subst}
use Rattle.std.specs.Option.{option_map}
use Rattle.coord_world.specs.protocol.NumberedWorld.{World}
use Rattle.coord_ledger.specs.Facade.{Crash, DriverState, ImagesGiveOneOf, Opened, Simulates, at_home, disk_held, failed_in_run, flight_out, kept_by, model_held, settled_world}
use Rattle.coord_ledger.proofs.runs.Calls.{crash_fault, some_is, failed_as, failed_same, failed_so}
use Rattle.coord_ledger.proofs.runs.EachMoment.{crash_lost, crash_touches}
use Rattle.coord_ledger.proofs.Simulates.{simulates_opened, own_consistent}
use Rattle.coord_ledger.proofs.driver.Driver.crash.Goals as goal

pub returns-in-Ok-clause-anew : goal.returns-in-Ok-clause-anew
returns-in-Ok-clause-anew g c = record { world = c.in-Ok.ensures.opened.world; disk = c.in-Ok.ensures.opened.disk; is = c.over.ensures ∙ ap at_home c.in-Ok.ensures.opened.is }

pub returns-in-Err-clause-cause : goal.returns-in-Err-clause-cause
returns-in-Err-clause-cause g c =
    let d = c.into_disk.result in
    crash_fault (model_held g.D.Disk.model c.args.self) (g.D.Disk.model.keeps_model d) (g.D.Disk.model.present d) (g.D.Disk.model.present c.in-Err.refused.1) c.args.self.ledger.log (kept_by c.args.self.ledger.log.settled (option_map flight_out c.args.self.flight) c.args.self.ledger.log.doubt) c.in-Err.refused.0 (ap (option_map g.D.Disk.model.keeps_model) c.into_disk.ensures.disk) c.into_disk.ensures.images c.in-Err.ensures.cause

pub returns-in-Ok-clause-disk : goal.returns-in-Ok-clause-disk
returns-in-Ok-clause-disk g c s is represents =
    crash_touches g.D.Disk.model g.D.CrashDisk.crashes (disk_held c.args.self) s c.into_disk.result c.into_disk.ensures.disk (c.lemma_survives.ensures s is represents) c.in-Ok.ledger (disk_held c.over.result) c.in-Ok.ensures.opened (ap disk_held c.over.ensures)

pub returns-in-Err-clause-disk : goal.returns-in-Err-clause-disk
returns-in-Err-clause-disk g c s is represents =
    crash_lost g.D.Disk.model g.D.CrashDisk.crashes (disk_held c.args.self) s c.into_disk.result c.into_disk.ensures.disk (c.lemma_survives.ensures s is represents) c.in-Err.refused.0 c.in-Err.refused.1 c.in-Err.ensures.lost c.in-Err.ensures.cause

-- how often the device has failed

pub returns-in-Ok-clause-failures : goal.returns-in-Ok-clause-failures
returns-in-Ok-clause-failures g c n so =
    let before = failed_so g.D.Disk.model.failures (disk_held c.args.self) c.into_disk.result n so c.into_disk.ensures.disk in
    failed_same g.D.Disk.model.failures c.in-Ok.ledger.disk (disk_held c.over.result) n (ap disk_held c.over.ensures)
    (failed_as g.D.Disk.model.failures c.in-Ok.ledger.disk (g.D.Disk.model.failures c.into_disk.result) n before c.in-Ok.ensures.failures)

pub returns-in-Err-clause-failures : goal.returns-in-Err-clause-failures
returns-in-Err-clause-failures g c n so = c.in-Err.ensures.failures ∙ ap (λ k. k + failed_in_run c.in-Err.refused.0) (failed_so g.D.Disk.model.failures (disk_held c.args.self) c.into_disk.result n so c.into_disk.ensures.disk)

-- the call is an event of the driver's machine
pub returns-in-Ok-clause-simulates : goal.returns-in-Ok-clause-simulates
returns-in-Ok-clause-simulates g c on =
    let d = c.into_disk.result in
    let inside : DriverState g.row.D.Denot = record { ledger = c.self.inside.ledger; flight = c.self.inside.flight } in
    let keeps : g.D.Disk.model.keeps_model d ≡ true = some_is (g.D.Disk.model.keeps_model d) (sym (ap (option_map g.D.Disk.model.keeps_model) c.into_disk.ensures.disk) ∙ on) in
    let kept = c.lemma_log_is_consistent.ensures in
    let is = own_consistent inside c.self.invariant kept.log kept.out kept.doubted kept.stopped in
    let met : Simulates c.args.self Crash (Opened (settled_world c.in-Ok.ledger.log).count) (at_home c.in-Ok.ledger) =
    subst (λ (x : DriverState g.row.D.Denot). ImagesGiveOneOf (g.D.Disk.model.keeps_model d) (g.D.Disk.model.present d) x.ledger.log (kept_by x.ledger.log.settled (option_map flight_out x.flight) x.ledger.log.doubt) → Simulates x Crash (Opened (settled_world c.in-Ok.ledger.log).count) (at_home c.in-Ok.ledger)) c.self.view_is
    (λ images. simulates_opened inside c.in-Ok.ledger g.D.Disk.model g.D.CrashDisk.crashes d is images keeps c.in-Ok.ensures.opened) c.into_disk.ensures.images in
    let count = c.count-count.ensures ∙ ap (λ (w : World). w.count) c.settled.ensures in
    rw c.over.ensures (rw count met)
