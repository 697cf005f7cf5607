use Rattle.std.proofs.Common.{false, refl, sym, ap, ◌∙◌, subst}
use Rattle.coord_ledger.specs.Facade.{Answer, Commit, DiskEffect, DriverState, disk_held, disk_with, failed_at, found_by_crash, touches_disk}
use Rattle.coord_ledger.proofs.runs.EachMoment.{commit_touches, kept_untouched, commit_answer}
use Rattle.coord_ledger.proofs.runs.Calls.{failed_aside, failed_committing}
use Rattle.coord_ledger.proofs.driver.Driver.commit.Goals as goal
use Rattle.coord_ledger.proofs.driver.Driver.commit.Goals.{in-None, in-Some+in-Ok, in-Some+in-Err}

pub returns-clause-disk : goal.returns-clause-disk
returns-clause-disk g c s is represents =
    let new : DriverState g.row.D.Denot = record { ledger = c.match-self.self-inside.ledger; flight = c.match-self.self-inside.flight } in
    let Touched : Answer → Type 0 = λ a. DiskEffect {D = g.row.D.Denot} g.D.Disk.model g.D.CrashDisk.crashes (found_by_crash s Commit a) (touches_disk Commit a) Commit (disk_held c.args.self.now) (disk_held new) in
    elim c.match-self.branch [
      | in-None w ↦
          subst Touched (sym w.result-is)
          (kept_untouched g.D.Disk.model g.D.CrashDisk.crashes g.met.D.Disk.laws s false Commit (disk_held c.args.self.now) (disk_held new) refl
          ((λ i. disk_with (w.self-inside-is i).ledger.disk (w.self-inside-is i).flight) ∙ ap disk_held c.self.view_is) (c.lemma_survives.ensures s is represents))
      | in-Some+in-Ok w ↦
          subst Touched (ap commit_answer w.in-Ok.is ∙ sym w.result-is)
          (commit_touches g.D.Disk.model g.D.CrashDisk.crashes g.met.D.Disk.laws c.args.self.now s w.in-Some.flight w.commit.new.self is represents
          (sym (ap (λ (d : DriverState g.row.D.Denot). d.flight) c.self.view_is) ∙ w.in-Some.is) (c.lemma_survives.ensures s is represents) new
          (λ i. disk_with (w.self-inside-is i).ledger.disk (w.self-inside-is i).flight) w.commit.result
          w.commit.ensures.any_moment w.commit.ensures.any_moment_refused w.commit.ensures.tried w.commit.ensures.again w.commit.ensures.stopped)
      | in-Some+in-Err w ↦
          subst Touched (ap commit_answer w.in-Err.is ∙ sym w.result-is)
          (commit_touches g.D.Disk.model g.D.CrashDisk.crashes g.met.D.Disk.laws c.args.self.now s w.in-Some.flight w.commit.new.self is represents
          (sym (ap (λ (d : DriverState g.row.D.Denot). d.flight) c.self.view_is) ∙ w.in-Some.is) (c.lemma_survives.ensures s is represents) new
          (λ i. disk_with (w.self-inside-is i).ledger.disk (w.self-inside-is i).flight) w.commit.result
          w.commit.ensures.any_moment w.commit.ensures.any_moment_refused w.commit.ensures.tried w.commit.ensures.again w.commit.ensures.stopped)
    ]

pub returns-clause-failures : goal.returns-clause-failures
returns-clause-failures g c n so =
    let new : DriverState g.row.D.Denot = record { ledger = c.match-self.self-inside.ledger; flight = c.match-self.self-inside.flight } in
    elim c.match-self.branch [
      | in-None w ↦
          failed_aside g.D.Disk.model.failures (disk_held c.args.self.now) (disk_held new) Commit Commit c.match-self.result n refl (ap (failed_at Commit) w.result-is) ((λ i. disk_with (w.self-inside-is i).ledger.disk (w.self-inside-is i).flight) ∙ ap disk_held c.self.view_is) so
      | in-Some+in-Ok w ↦
          failed_committing g.D.Disk.model.failures (disk_held c.args.self.now) (disk_held new) w.in-Some.flight.disk w.commit.new.self.disk w.commit.result c.match-self.result n (ap (disk_with c.args.self.now.ledger.disk) (sym (ap (λ (d : DriverState g.row.D.Denot). d.flight) c.self.view_is) ∙ w.in-Some.is))
          (λ i. disk_with (w.self-inside-is i).ledger.disk (w.self-inside-is i).flight) w.commit.ensures.failures (w.result-is ∙ sym (ap commit_answer w.in-Ok.is)) so
      | in-Some+in-Err w ↦
          failed_committing g.D.Disk.model.failures (disk_held c.args.self.now) (disk_held new) w.in-Some.flight.disk w.commit.new.self.disk w.commit.result c.match-self.result n (ap (disk_with c.args.self.now.ledger.disk) (sym (ap (λ (d : DriverState g.row.D.Denot). d.flight) c.self.view_is) ∙ w.in-Some.is))
          (λ i. disk_with (w.self-inside-is i).ledger.disk (w.self-inside-is i).flight) w.commit.ensures.failures (w.result-is ∙ sym (ap commit_answer w.in-Err.is)) so
    ]
