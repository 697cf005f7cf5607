use Rattle.std.proofs.Common.{◌≡◌, None, Some, true, false, sym, ap, ◌∙◌, rules, string_bytes}
use Rattle.std.proofs.lemmas.Result.{IfErr-weaker, IfOk-weaker}
use Rattle.std.specs.Option.{option_copied}
use Rattle.coord_drill.specs.Drilled.{asked_by, is_skipped}
use Rattle.coord_drill.specs.Facade.{CarriesLine, asked_in, state_of}
use Rattle.coord_drill.proofs.does.Moments.{if_err_both}
use Rattle.coord_drill.proofs.does.Reports.{reports_nothing}
use Rattle.coord_drill.proofs.course.Lines.{asks_nothing, cut_asked, goes_asked, goes_bad, goes_over, goes_skipped, of_disk, reports_bad, reported_lost}
use Rattle.coord_drill.proofs.console.lines.respond.Goals as goal

pub returns-in_default-clause-carried : goal.returns-in_default-clause-carried
returns-in_default-clause-carried g c =
    let d = c.args.drill in
    let over : option_copied c.args.line ≡ None = search rules in
    rw over
    (reports_bad g.D.Disk.model g.D.CrashDisk.crashes d c.args.number (string_bytes c.args.text.now) (string_bytes c.report_bad.new.text) c.report_bad.result None c.report_bad.ensures.same c.report_bad.ensures.reported (λ p at number. goes_over g.D.Disk.model g.D.CrashDisk.crashes d p at c.args.number number))

pub returns-then-is_skipped-clause-carried : goal.returns-then-is_skipped-clause-carried
returns-then-is_skipped-clause-carried g c =
    let d = c.args.drill in
    let line = c.in-Some.line.now in
    let here : option_copied c.args.line ≡ Some line = search rules in
    let skipped : is_skipped line ≡ true = search rules in
    reports_nothing (λ reported. CarriesLine g.D.Disk.model g.D.CrashDisk.crashes d c.args.number (option_copied c.args.line) reported d) (string_bytes c.args.text.now)
    (rw here (λ p at number. goes_skipped g.D.Disk.model g.D.CrashDisk.crashes d p at line skipped))

pub returns-in-Some-read-clause-carried : goal.returns-in-Some-read-clause-carried
returns-in-Some-read-clause-carried g c =
    let d = c.args.drill in
    let line = c.in-Some.line.now in
    let here : option_copied c.args.line ≡ Some line = search rules in
    let kept : is_skipped line ≡ false = search rules in
    let asks : asked_by (state_of d) line ≡ Some c.in-Some-read.request = sym c.read.ensures ∙ c.in-Some-read.is in
    rw here
    (IfOk-weaker c.answer.result _ _ (λ new reports. (reports.0, (reports.1.0, λ p at number. goes_asked g.D.Disk.model g.D.CrashDisk.crashes d p at line c.in-Some-read.request kept asks reports.0 new reports.1.1))) c.answer.ensures.reported)

pub returns-in-Some-read-clause-cut : goal.returns-in-Some-read-clause-cut
returns-in-Some-read-clause-cut g c =
    let d = c.args.drill in
    let line = c.in-Some.line.now in
    let here : option_copied c.args.line ≡ Some line = search rules in
    let kept : is_skipped line ≡ false = search rules in
    let asks : asked_by (state_of d) line ≡ Some c.in-Some-read.request = sym c.read.ensures ∙ c.in-Some-read.is in
    rw here
    (IfErr-weaker c.answer.result _ _ (λ refused cuts p at. cut_asked g.D.Disk.model g.D.CrashDisk.crashes d p at line c.in-Some-read.request kept asks refused cuts) c.answer.ensures.cut)

pub returns-in-None-clause-carried : goal.returns-in-None-clause-carried
returns-in-None-clause-carried g c =
    let d = c.args.drill in
    let line = c.in-Some.line.now in
    let here : option_copied c.args.line ≡ Some line = search rules in
    let kept : is_skipped line ≡ false = search rules in
    let asks : asked_by (state_of d) line ≡ None = sym c.read.ensures ∙ c.in-None.is in
    rw here
    (reports_bad g.D.Disk.model g.D.CrashDisk.crashes d c.args.number (string_bytes c.args.text.now) (string_bytes c.report_bad-in-None.new.text) c.report_bad-in-None.result (Some line) c.report_bad-in-None.ensures.same c.report_bad-in-None.ensures.reported (λ p at number. goes_bad g.D.Disk.model g.D.CrashDisk.crashes d p at line kept asks c.args.number number))

-- the disk is returned unchanged
pub returns-in_default-clause-cut : goal.returns-in_default-clause-cut
returns-in_default-clause-cut g c =
    let over : option_copied c.args.line ≡ None = search rules in
    IfErr-weaker c.report_bad.result _ _ (λ refused both p at. reported_lost g.D.Disk.model g.D.CrashDisk.crashes c.args.drill p at (option_copied c.args.line) refused (ap (asked_in p.state) over) both.0 both.1) (if_err_both _ _ c.report_bad.result c.report_bad.ensures.fault c.report_bad.ensures.lost)

pub returns-in-None-clause-cut : goal.returns-in-None-clause-cut
returns-in-None-clause-cut g c =
    let d = c.args.drill in
    let line = c.in-Some.line.now in
    let here : option_copied c.args.line ≡ Some line = search rules in
    let kept : is_skipped line ≡ false = search rules in
    let asks : asked_by (state_of d) line ≡ None = sym c.read.ensures ∙ c.in-None.is in
    IfErr-weaker c.report_bad-in-None.result _ _
    (λ refused both p at. reported_lost g.D.Disk.model g.D.CrashDisk.crashes d p at (option_copied c.args.line) refused (ap (asked_in p.state) here ∙ asks_nothing g.D.Disk.model g.D.CrashDisk.crashes d p at line kept asks) both.0 both.1) (if_err_both _ _ c.report_bad-in-None.result c.report_bad-in-None.ensures.fault c.report_bad-in-None.ensures.lost)

pub returns-in-Some-read-clause-fault : goal.returns-in-Some-read-clause-fault
returns-in-Some-read-clause-fault g c = IfErr-weaker c.answer.result _ _ (λ refused may. of_disk _ refused.0 may) c.answer.ensures.fault
