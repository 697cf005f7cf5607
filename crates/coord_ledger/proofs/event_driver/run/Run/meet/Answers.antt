use Rattle.std.proofs.Common.{◌≡◌, ◌+◌, Vec, Global, Some, refl, sym, ap, ◌∙◌, arith}
use Rattle.coord_ledger.specs.Facade.{Begin, Collect, Commit, Finish, Release, Resend, Run, Show, Submit, disk_held, failed_at, is_crash}
use Rattle.coord_ledger.proofs.runs.Calls.{answered, cut_short, on_err_map, failed_as, failed_aside, failed_giving_up}
use Rattle.coord_ledger.proofs.runs.EachMoment.{lost_as_it_was, match_map, answered_without_disk, answered_commit}
use Rattle.coord_ledger.proofs.event_driver.run.Run.meet.Goals as goal
use Rattle.coord_ledger.proofs.event_driver.run.Run.meet.Goals.{in-Submit, in-Begin, in-Commit, in-Finish, in-Collect, in-Resend, in-Show}

pub returns-in-Ok-clause-answered : goal.returns-in-Ok-clause-answered
returns-in-Ok-clause-answered g c s is follows promised = elim c.match-event.branch [
  | in-Submit w ↦ answered s c.args.event _ w.submit-answer.result c.match-event.answer c.match-event.held w.submit-answer.new.self c.in-Ok.answer (w.submit-answer.ensures.answered s is follows) w.answer-is c.in-Ok.is w.in-Submit.is w.held-is
  | in-Begin w ↦ answered s c.args.event Begin _ c.match-event.answer c.match-event.held w.begin.new.self c.in-Ok.answer (w.begin.ensures.answered s is follows) w.answer-is c.in-Ok.is w.in-Begin.is w.held-is
  | in-Commit w ↦ answered s c.args.event Commit _ c.match-event.answer c.match-event.held w.commit.new.self c.in-Ok.answer (w.commit.ensures.answered s is follows) w.answer-is c.in-Ok.is w.in-Commit.is w.held-is
  | in-Finish w ↦ answered s c.args.event Finish w.finish-answer.result c.match-event.answer c.match-event.held w.finish-answer.new.self c.in-Ok.answer (w.finish-answer.ensures.answered s is follows) w.answer-is c.in-Ok.is w.in-Finish.is w.held-is
  | in-Collect w ↦ answered s c.args.event _ _ c.match-event.answer c.match-event.held w.collect.new.self c.in-Ok.answer (w.collect.ensures.answered s is follows) w.answer-is c.in-Ok.is w.in-Collect.is w.held-is
  | in-Resend w ↦ answered s c.args.event Resend w.resend-answer.result c.match-event.answer c.match-event.held w.resend-answer.new.self c.in-Ok.answer (w.resend-answer.ensures.answered s is follows) w.answer-is c.in-Ok.is w.in-Resend.is w.held-is
  | in-Show w ↦ answered s c.args.event Show _ c.match-event.answer c.match-event.held w.show.new.self c.in-Ok.answer (w.show.ensures.answered s is follows) w.answer-is c.in-Ok.is w.in-Show.is w.held-is
]

pub returns-in-Err-clause-answered : goal.returns-in-Err-clause-answered
returns-in-Err-clause-answered g c s is follows promised = elim c.match-event.branch [
  | in-Submit w ↦
      cut_short s c.args.event (Submit w.in-Submit.step) w.submit-answer.result c.match-event.answer c.match-event.held w.submit-answer.new.self c.in-Err.field-0 c.lose.result.kind c.lose.result.released.items
      (on_err_map w.submit-answer.result (λ same. ap (λ (v : Vec Release Global). v.items) same ∙ follows.released) w.submit-answer.ensures.err)
      w.answer-is c.in-Err.is w.in-Submit.is w.held-is c.lose.ensures.released c.lose.ensures.kind
  | in-Begin w ↦ cut_short s c.args.event Begin _ c.match-event.answer c.match-event.held w.begin.new.self c.in-Err.field-0 c.lose.result.kind c.lose.result.released.items tt w.answer-is c.in-Err.is w.in-Begin.is w.held-is c.lose.ensures.released c.lose.ensures.kind
  | in-Commit w ↦ cut_short s c.args.event Commit _ c.match-event.answer c.match-event.held w.commit.new.self c.in-Err.field-0 c.lose.result.kind c.lose.result.released.items tt w.answer-is c.in-Err.is w.in-Commit.is w.held-is c.lose.ensures.released c.lose.ensures.kind
  | in-Finish w ↦
      cut_short s c.args.event Finish w.finish-answer.result c.match-event.answer c.match-event.held w.finish-answer.new.self c.in-Err.field-0 c.lose.result.kind c.lose.result.released.items
      (w.finish-answer.ensures.cut s is follows) w.answer-is c.in-Err.is w.in-Finish.is w.held-is c.lose.ensures.released c.lose.ensures.kind
  | in-Collect w ↦ cut_short s c.args.event _ _ c.match-event.answer c.match-event.held w.collect.new.self c.in-Err.field-0 c.lose.result.kind c.lose.result.released.items tt w.answer-is c.in-Err.is w.in-Collect.is w.held-is c.lose.ensures.released c.lose.ensures.kind
  | in-Resend w ↦
      cut_short s c.args.event Resend w.resend-answer.result c.match-event.answer c.match-event.held w.resend-answer.new.self c.in-Err.field-0 c.lose.result.kind c.lose.result.released.items
      (w.resend-answer.ensures.cut s is follows) w.answer-is c.in-Err.is w.in-Resend.is w.held-is c.lose.ensures.released c.lose.ensures.kind
  | in-Show w ↦ cut_short s c.args.event Show _ c.match-event.answer c.match-event.held w.show.new.self c.in-Err.field-0 c.lose.result.kind c.lose.result.released.items tt w.answer-is c.in-Err.is w.in-Show.is w.held-is c.lose.ensures.released c.lose.ensures.kind
]

-- ---- the disk

pub returns-in-Ok-clause-disk : goal.returns-in-Ok-clause-disk
returns-in-Ok-clause-disk g c s is follows = elim c.match-event.branch [
  | in-Submit w ↦ answered_without_disk g.D.Disk.model g.D.CrashDisk.crashes g.met.D.Disk.laws s c.args.event (Submit w.in-Submit.step) c.in-Ok.answer (disk_held c.args.self.driver) (disk_held c.match-event.held.driver) w.in-Submit.is refl refl (ap (λ (h : Run g.row.D.Denot). disk_held h.driver) w.held-is ∙ w.submit-answer.ensures.disk) (c.lemma_survives.ensures s is follows.represents)
  | in-Begin w ↦ answered_without_disk g.D.Disk.model g.D.CrashDisk.crashes g.met.D.Disk.laws s c.args.event Begin c.in-Ok.answer (disk_held c.args.self.driver) (disk_held c.match-event.held.driver) w.in-Begin.is refl refl (ap (λ (h : Run g.row.D.Denot). disk_held h.driver) w.held-is ∙ w.begin.ensures.disk) (c.lemma_survives.ensures s is follows.represents)
  | in-Commit w ↦
      answered_commit g.D.Disk.model g.D.CrashDisk.crashes s c.args.event w.commit.result c.match-event.answer c.in-Ok.answer (disk_held c.args.self.driver) (disk_held c.match-event.held.driver) (disk_held w.commit.new.self.driver) w.in-Commit.is w.answer-is c.in-Ok.is (ap (λ (h : Run g.row.D.Denot). disk_held h.driver) w.held-is) (w.commit.ensures.disk s is follows)
  | in-Finish w ↦ answered_without_disk g.D.Disk.model g.D.CrashDisk.crashes g.met.D.Disk.laws s c.args.event Finish c.in-Ok.answer (disk_held c.args.self.driver) (disk_held c.match-event.held.driver) w.in-Finish.is refl refl (ap (λ (h : Run g.row.D.Denot). disk_held h.driver) w.held-is ∙ w.finish-answer.ensures.disk) (c.lemma_survives.ensures s is follows.represents)
  | in-Collect w ↦ answered_without_disk g.D.Disk.model g.D.CrashDisk.crashes g.met.D.Disk.laws s c.args.event (Collect w.in-Collect.index) c.in-Ok.answer (disk_held c.args.self.driver) (disk_held c.match-event.held.driver) w.in-Collect.is refl refl (ap (λ (h : Run g.row.D.Denot). disk_held h.driver) w.held-is ∙ w.collect.ensures.disk) (c.lemma_survives.ensures s is follows.represents)
  | in-Resend w ↦ answered_without_disk g.D.Disk.model g.D.CrashDisk.crashes g.met.D.Disk.laws s c.args.event Resend c.in-Ok.answer (disk_held c.args.self.driver) (disk_held c.match-event.held.driver) w.in-Resend.is refl refl (ap (λ (h : Run g.row.D.Denot). disk_held h.driver) w.held-is ∙ w.resend-answer.ensures.disk) (c.lemma_survives.ensures s is follows.represents)
  | in-Show w ↦ answered_without_disk g.D.Disk.model g.D.CrashDisk.crashes g.met.D.Disk.laws s c.args.event Show c.in-Ok.answer (disk_held c.args.self.driver) (disk_held c.match-event.held.driver) w.in-Show.is refl refl (ap (λ (h : Run g.row.D.Denot). disk_held h.driver) w.held-is ∙ w.show.ensures.disk) (c.lemma_survives.ensures s is follows.represents)
]

pub returns-in-Crash-clause-disk : goal.returns-in-Crash-clause-disk
returns-in-Crash-clause-disk g c s is follows =
    rw c.in-Crash.is (c.crash.ensures.disk s is follows)

pub returns-in-Err-clause-disk : goal.returns-in-Err-clause-disk
returns-in-Err-clause-disk g c s is follows =
    let lost = lost_as_it_was g.D.Disk.model g.D.CrashDisk.crashes s c.args.event c.lose.result.kind (disk_held c.args.self.driver) c.lose.result.disk in
    elim c.match-event.branch [
      | in-Submit w ↦ lost (ap is_crash w.in-Submit.is) (sym (ap (λ (h : Run g.row.D.Denot). disk_held h.driver) w.held-is ∙ w.submit-answer.ensures.disk) ∙ c.lose.ensures.disk)
      | in-Begin w ↦ lost (ap is_crash w.in-Begin.is) (sym (ap (λ (h : Run g.row.D.Denot). disk_held h.driver) w.held-is ∙ w.begin.ensures.disk) ∙ c.lose.ensures.disk)
      | in-Commit w ↦ let no : ⊥ = cc (w.answer-is, c.in-Err.is) in absurd no
      | in-Finish w ↦ lost (ap is_crash w.in-Finish.is) (sym (ap (λ (h : Run g.row.D.Denot). disk_held h.driver) w.held-is ∙ w.finish-answer.ensures.disk) ∙ c.lose.ensures.disk)
      | in-Collect w ↦ lost (ap is_crash w.in-Collect.is) (sym (ap (λ (h : Run g.row.D.Denot). disk_held h.driver) w.held-is ∙ w.collect.ensures.disk) ∙ c.lose.ensures.disk)
      | in-Resend w ↦ lost (ap is_crash w.in-Resend.is) (sym (ap (λ (h : Run g.row.D.Denot). disk_held h.driver) w.held-is ∙ w.resend-answer.ensures.disk) ∙ c.lose.ensures.disk)
      | in-Show w ↦ lost (ap is_crash w.in-Show.is) (sym (ap (λ (h : Run g.row.D.Denot). disk_held h.driver) w.held-is ∙ w.show.ensures.disk) ∙ c.lose.ensures.disk)
    ]

-- ---- how often the device has failed

pub returns-in-Ok-clause-failures : goal.returns-in-Ok-clause-failures
returns-in-Ok-clause-failures g c n so =
    let aside = failed_aside g.D.Disk.model.failures (disk_held c.args.self.driver) (disk_held c.match-event.held.driver) c.args.event in
    elim c.match-event.branch [
      | in-Submit w ↦ aside (Submit w.in-Submit.step) c.in-Ok.answer n w.in-Submit.is refl (ap (λ (h : Run g.row.D.Denot). disk_held h.driver) w.held-is ∙ w.submit-answer.ensures.disk) so
      | in-Begin w ↦ aside Begin c.in-Ok.answer n w.in-Begin.is refl (ap (λ (h : Run g.row.D.Denot). disk_held h.driver) w.held-is ∙ w.begin.ensures.disk) so
      | in-Commit w ↦
          let same : w.commit.result ≡ c.in-Ok.answer = cc (w.answer-is, c.in-Ok.is) in
          rw w.in-Commit.is (rw (sym same) (rw w.held-is (w.commit.ensures.failures n so)))
      | in-Finish w ↦ aside Finish c.in-Ok.answer n w.in-Finish.is refl (ap (λ (h : Run g.row.D.Denot). disk_held h.driver) w.held-is ∙ w.finish-answer.ensures.disk) so
      | in-Collect w ↦ aside (Collect w.in-Collect.index) c.in-Ok.answer n w.in-Collect.is refl (ap (λ (h : Run g.row.D.Denot). disk_held h.driver) w.held-is ∙ w.collect.ensures.disk) so
      | in-Resend w ↦ aside Resend c.in-Ok.answer n w.in-Resend.is refl (ap (λ (h : Run g.row.D.Denot). disk_held h.driver) w.held-is ∙ w.resend-answer.ensures.disk) so
      | in-Show w ↦ aside Show c.in-Ok.answer n w.in-Show.is refl (ap (λ (h : Run g.row.D.Denot). disk_held h.driver) w.held-is ∙ w.show.ensures.disk) so
    ]

pub returns-in-Err-clause-failures : goal.returns-in-Err-clause-failures
returns-in-Err-clause-failures g c n so =
    let lost = λ (there : disk_held c.args.self.driver ≡ Some c.lose.result.disk). failed_giving_up g.D.Disk.model.failures (disk_held c.args.self.driver) c.lose.result.disk c.lose.result.kind n there c.lose.ensures.kind so in
    elim c.match-event.branch [
      | in-Submit w ↦ lost (sym (ap (λ (h : Run g.row.D.Denot). disk_held h.driver) w.held-is ∙ w.submit-answer.ensures.disk) ∙ c.lose.ensures.disk)
      | in-Begin w ↦ lost (sym (ap (λ (h : Run g.row.D.Denot). disk_held h.driver) w.held-is ∙ w.begin.ensures.disk) ∙ c.lose.ensures.disk)
      | in-Commit w ↦ let no : ⊥ = cc (w.answer-is, c.in-Err.is) in absurd no
      | in-Finish w ↦ lost (sym (ap (λ (h : Run g.row.D.Denot). disk_held h.driver) w.held-is ∙ w.finish-answer.ensures.disk) ∙ c.lose.ensures.disk)
      | in-Collect w ↦ lost (sym (ap (λ (h : Run g.row.D.Denot). disk_held h.driver) w.held-is ∙ w.collect.ensures.disk) ∙ c.lose.ensures.disk)
      | in-Resend w ↦ lost (sym (ap (λ (h : Run g.row.D.Denot). disk_held h.driver) w.held-is ∙ w.resend-answer.ensures.disk) ∙ c.lose.ensures.disk)
      | in-Show w ↦ lost (sym (ap (λ (h : Run g.row.D.Denot). disk_held h.driver) w.held-is ∙ w.show.ensures.disk) ∙ c.lose.ensures.disk)
    ]

pub returns-in-Crash-clause-failures : goal.returns-in-Crash-clause-failures
returns-in-Crash-clause-failures g c n so =
    match_map c.crash.result
    (λ held now. failed_as g.D.Disk.model.failures (disk_held held.1.driver) n (n + failed_at c.args.event held.0) (let none : failed_at c.args.event held.0 ≡ 0 = ap (λ x. failed_at x held.0) c.in-Crash.is in omega (arith, none)) now)
    (λ broken now. now) (c.crash.ensures.failures n so)
