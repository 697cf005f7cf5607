use Rattle.std.proofs.Common.{[], ◌∷◌}
use Rattle.std.proofs.KnownBytes.{Appends-kept}
use Rattle.coord_drill.proofs.does.Moments.{passed_on}
use Rattle.coord_drill.proofs.prints.Pieces.{last_breaks, last_ends, last_unflushed, works_early}
use Rattle.coord_drill.proofs.console.Console.finish.Goals as goal

pub returns-in_err-end_line-clause-failed : goal.returns-in_err-end_line-clause-failed
returns-in_err-end_line-clause-failed g c =
    let d = c.args.self in
    let refused = c.in_err-end_line.field-0.0 in
    let failed = c.in_err-end_line.ensures.failed in
    passed_on c.from_residual.result refused _ c.from_residual.ensures.1
    (failed.0, failed.1, last_breaks g.D.Disk.model g.D.CrashDisk.crashes d refused failed.0 c.end_line.ensures.within (works_early g.D.Disk.model g.D.CrashDisk.crashes d (d.line ∷ []) refused failed.0 failed.2))

pub returns-in-Ok-clause-ended : goal.returns-in-Ok-clause-ended
returns-in-Ok-clause-ended g c =
    let out = c.in_ok-end_line.ensures.carried in
    (out.0, Appends-kept _ _ _ _ out.1 c.in-Ok.ensures.bytes, last_ends g.D.Disk.model g.D.CrashDisk.crashes c.args.self c.in_ok-end_line.field-0 out.0 _ c.end_line.ensures.within out.2 c.into_disk-disk.ensures)

pub returns-in-Err-clause-failed : goal.returns-in-Err-clause-failed
returns-in-Err-clause-failed g c =
    let out = c.in_ok-end_line.ensures.carried in
    (out.0, Appends-kept _ _ _ _ out.1 c.in-Err.ensures.bytes, last_unflushed g.D.Disk.model g.D.CrashDisk.crashes c.args.self c.in_ok-end_line.field-0 out.0 (c.fault_of.result, c.into_disk-disk.result) c.end_line.ensures.within out.2 c.fault_of.ensures.fault c.into_disk-disk.ensures)
