use Rattle.std.proofs.Common.{string_bytes}
use Rattle.std.proofs.lemmas.Result.{IfOk-weaker}
use Rattle.coord_drill.specs.declared.asked.Asked.TheVariants as ask
use Rattle.coord_drill.specs.Facade.{CarriesIf}
use Rattle.coord_drill.proofs.does.Reports.{reports_nothing}
use Rattle.coord_drill.proofs.drill.Drill.carry_out.Goals as goal

pub returns-in-Version2-clause-reported : goal.returns-in-Version2-clause-reported
returns-in-Version2-clause-reported g c =
    let d = c.args.self in
    rw c.in-Version2.is
    (IfOk-weaker c.begin_version_2.result _ _ (λ drill carries. reports_nothing (λ reported. CarriesIf g.D.Disk.model g.D.CrashDisk.crashes d ask.Version2 reported drill) (string_bytes c.args.text.now) carries) c.begin_version_2.ensures.reported)

pub returns-in-Hold-clause-reported : goal.returns-in-Hold-clause-reported
returns-in-Hold-clause-reported g c =
    let d = c.args.self in
    rw c.in-Hold.is
    (reports_nothing (λ reported. CarriesIf g.D.Disk.model g.D.CrashDisk.crashes d ask.Hold reported c.hold.result) (string_bytes c.args.text.now) c.hold.ensures.reported)

pub returns-in-Crash-clause-cut : goal.returns-in-Crash-clause-cut
returns-in-Crash-clause-cut g c = rw c.in-Crash.is c.crash.ensures.cut
