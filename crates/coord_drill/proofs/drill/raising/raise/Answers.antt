use Rattle.std.proofs.Common.{◌≡◌, ◌+◌, false, true, None, refl, sym, ap, ◌∙◌, arith, subst, inl}
use Rattle.coord_disk.specs.Model.Moments.{LeavesOnly}
use Rattle.coord_store.specs.Facade.{risen}
use Rattle.coord_store.specs.Refused.{failed_in}
use Rattle.coord_ledger.specs.Facade.{DriverState, LedgerState, disk_held, has_stopped, ledger_over, settled_world}
use Rattle.coord_drill.specs.Facade.{GivesRaised, IsPassingFault, RaisesPart, failed_by}
use Rattle.coord_drill.proofs.course.Standing.{none_stopped}
use Rattle.coord_drill.proofs.does.Crashes.{reported_failures}
use Rattle.coord_drill.proofs.does.Moments.{passed_on}
use Rattle.coord_drill.proofs.does.Raising.{never_stopped, none_torn, raising_cause}
use Rattle.coord_drill.proofs.drill.raising.raise.Goals as goal

pub returns-in-Err-clause-cut : goal.returns-in-Err-clause-cut
returns-in-Err-clause-cut g c =
    let d = c.args.driver in
    let store = c.store_of-store.result in
    let taken = c.store_of-store.ensures in
    let going : has_stopped d.ledger.log ≡ false → store.torn ≡ None = λ on. none_torn store.torn (taken.stopped ∙ on) in
    let now = c.migrate.new.self in
    let moments : has_stopped d.ledger.log ≡ false → g.D.Disk.model.keeps_model store.disk ≡ true → LeavesOnly g.D.Disk.model store.disk now.disk (GivesRaised d) =
    λ on keeps. rw (sym taken.world) (c.migrate.ensures.changes.any_moment keeps (going on)) in
    let fault = c.in-Err.fault in
    let reported = c.into.ensures in
    let lost = c.into_disk.ensures.disk in
    let failed : g.D.Disk.model.failures now.disk ≡ g.D.Disk.model.failures store.disk + failed_in fault = c.in-Err.ensures.runs.failures in
    record {
      old = store.disk;
      there = taken.disk;
      moments = λ on keeps. rw lost (moments on keeps);
      cause = λ empty. subst IsPassingFault (sym reported) (raising_cause d.ledger.log store.world fault taken.world empty c.in-Err.ensures.fault (λ stopped. never_stopped store.torn (going (none_stopped g.D.Disk.model g.D.CrashDisk.crashes d.ledger.log empty)) fault stopped c.in-Err.ensures.stopped.0));
      failed = ap g.D.Disk.model.failures lost ∙ failed ∙ ap (λ n. g.D.Disk.model.failures store.disk + n) (sym (ap failed_by reported ∙ reported_failures fault));
    }

pub returns-in_err-adopt-clause-cut : goal.returns-in_err-adopt-clause-cut
returns-in_err-adopt-clause-cut g c =
    let d = c.args.driver in
    let store = c.store_of-store.result in
    let taken = c.store_of-store.ensures in
    let going : has_stopped d.ledger.log ≡ false → store.torn ≡ None = λ on. none_torn store.torn (taken.stopped ∙ on) in
    let now = c.migrate.new.self in
    let moments : has_stopped d.ledger.log ≡ false → g.D.Disk.model.keeps_model store.disk ≡ true → LeavesOnly g.D.Disk.model store.disk now.disk (GivesRaised d) =
    λ on keeps. rw (sym taken.world) (c.migrate.ensures.changes.any_moment keeps (going on)) in
    passed_on c.from_residual.result _ _ c.from_residual.ensures.1
    (subst (RaisesPart g.D.Disk.model d) (sym c.in_err-adopt.ensures.lost) (record {
      old = store.disk;
      there = taken.disk;
      moments = moments;
      cause = λ empty. inl refl;
      failed = c.in-Ok.ensures.runs.failures;
    }))

pub returns-clause-raised : goal.returns-clause-raised
returns-clause-raised g c =
    let d = c.args.driver in
    let store = c.store_of-store.result in
    let taken = c.store_of-store.ensures in
    let going : has_stopped d.ledger.log ≡ false → store.torn ≡ None = λ on. none_torn store.torn (taken.stopped ∙ on) in
    let now = c.migrate.new.self in
    let moments : has_stopped d.ledger.log ≡ false → g.D.Disk.model.keeps_model store.disk ≡ true → LeavesOnly g.D.Disk.model store.disk now.disk (GivesRaised d) =
    λ on keeps. rw (sym taken.world) (c.migrate.ensures.changes.any_moment keeps (going on)) in
    let over = c.over-driver.ensures in
    let adopted = c.in_ok-adopt.ensures.adopted in
    let raised : now.world ≡ risen (settled_world d.ledger.log) = c.in-Ok.ensures.changes.world ∙ ap risen taken.world in
    let failed : g.D.Disk.model.failures now.disk ≡ g.D.Disk.model.failures store.disk + 0 = c.in-Ok.ensures.runs.failures in
    record {
      begins = c.lemma_begins.ensures;
      old = store.disk;
      there = taken.disk;
      raised = now.disk;
      is = ap (λ (v : DriverState g.row.D.Denot). v.ledger) over ∙ adopted ∙ ap (λ w. ledger_over w now.disk) raised;
      now = ap disk_held over ∙ ap (λ (l : LedgerState g.row.D.Denot). l.disk) adopted;
      keeps = λ keeps. c.migrate.ensures.runs.model ∙ keeps;
      failed = omega (arith, failed);
      moments = moments;
    }
