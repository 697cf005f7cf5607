use Rattle.std.proofs.Common.{inl}
use Rattle.std.proofs.lemmas.Result.{IfErr-weaker, IfOk-weaker}
use Rattle.coord_drill.proofs.prints.Prints.{broke_of, ended_of}
use Rattle.coord_drill.proofs.console.coord_drill_on.Goals as goal

pub returns-clause-ended : goal.returns-clause-ended
returns-clause-ended g c on =
    let console = c.in_ok-new.field-0 in
    let new = c.in_ok-new.ensures in
    IfOk-weaker c.run.result _ _
    (λ last ended.
    let out = ended.2 in
    (ended.0, ended.1, (out.0, out.1, ended_of g.D.Disk.model g.D.CrashDisk.crashes c.args.disk ended.0 console (new.begun on) new.line new.number out.0 last out.2)))
    c.run.ensures.ended

pub returns-clause-failed : goal.returns-clause-failed
returns-clause-failed g c on =
    let console = c.in_ok-new.field-0 in
    let new = c.in_ok-new.ensures in
    IfErr-weaker c.run.result _ _
    (λ refused broke.
    let out = broke.2 in
    inl (broke.0, broke.1, (out.0, out.1, (broke_of g.D.Disk.model g.D.CrashDisk.crashes c.args.disk broke.0 console (new.begun on) new.line new.number refused out.0 out.2.0, out.2.1))))
    c.run.ensures.failed
