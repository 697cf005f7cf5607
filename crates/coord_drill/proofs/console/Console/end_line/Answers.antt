use Rattle.std.proofs.Common.{[], rules, string_bytes}
use Rattle.std.proofs.KnownBytes.{Appends-nil}
use Rattle.coord_drill.specs.Facade.{WritesShort}
use Rattle.coord_drill.proofs.does.Moments.{passed_on}
use Rattle.coord_drill.proofs.prints.Pieces.{carries_line, line_cut, line_unwritten}
use Rattle.coord_drill.proofs.console.Console.end_line.Goals as goal

pub returns-in_err-console-clause-failed : goal.returns-in_err-console-clause-failed
returns-in_err-console-clause-failed g c =
    let d = c.args.self in
    let refused = c.in_err-console.field-0.0 in
    passed_on c.from_residual.result refused _ c.from_residual.ensures.1 ([], Appends-nil _, line_cut g.D.Disk.model g.D.CrashDisk.crashes d d.line refused c.in_err-console.ensures.cut)

pub returns-in-Ok-clause-carried : goal.returns-in-Ok-clause-carried
returns-in-Ok-clause-carried g c =
    let d = c.args.self in
    let console = c.in_ok-console.console in
    let text = string_bytes console.text in
    (text, search rules, carries_line g.D.Disk.model g.D.CrashDisk.crashes d console d.line text c.in_ok-console.ensures.carried c.in_ok-console.ensures.number)

pub returns-in-Err-clause-failed : goal.returns-in-Err-clause-failed
returns-in-Err-clause-failed g c =
    let d = c.args.self in
    let console = c.in_ok-console.console in
    let text = string_bytes console.text in
    let short : WritesShort (g.W.Write.contents c.args.writer.now) (g.W.Write.contents c.write_text.new.writer) text = search rules in
    (short.0, short.1, line_unwritten g.D.Disk.model g.D.CrashDisk.crashes d console d.line text short.0 (c.in-Err.fault, c.into_disk.result) c.in_ok-console.ensures.carried c.in_ok-console.ensures.number short.2 c.in-Err.ensures.fault c.into_disk.ensures)
