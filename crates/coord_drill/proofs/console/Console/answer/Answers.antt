use Rattle.std.proofs.Common.{[]}
use Rattle.std.proofs.lemmas.Result.{IfErr-weaker, IfOk-weaker}
use Rattle.coord_lines.specs.Lines.{lines_on}
use Rattle.coord_drill.specs.Facade.{LinesBreakOff, TakesPiece}
use Rattle.coord_drill.proofs.prints.FirstParts.{writes_list}
use Rattle.coord_drill.proofs.prints.Pieces.{breaks_unwritten, takes_unwritten}
use Rattle.coord_drill.proofs.console.Console.answer.Goals as goal

pub returns-in-Ok-clause-taken : goal.returns-in-Ok-clause-taken
returns-in-Ok-clause-taken g c =
    let d = c.args.self in
    let items = c.take-taken.new.writer.items in
    let all = rw c.deref.ensures.value at c.in-Ok.ensures.ok in
    IfOk-weaker c.take-taken.result _ _ (λ console taken. (items, all, writes_list items (λ text. TakesPiece g.D.Disk.model g.D.CrashDisk.crashes d c.args.piece.now [] text console) taken)) (rw c.new-text.ensures.items at c.take-taken.ensures.taken)

pub returns-in-Ok-clause-failed : goal.returns-in-Ok-clause-failed
returns-in-Ok-clause-failed g c =
    let d = c.args.self in
    let items = c.take-taken.new.writer.items in
    let all = rw c.deref.ensures.value at c.in-Ok.ensures.ok in
    IfErr-weaker c.take-taken.result _ _ (λ refused breaks. (items, all, writes_list items (LinesBreakOff g.D.Disk.model g.D.CrashDisk.crashes d (lines_on d.line c.args.piece.now) refused) breaks)) (rw c.new-text.ensures.items at c.take-taken.ensures.failed)

pub returns-in-Ok-taken-clause-failed : goal.returns-in-Ok-taken-clause-failed
returns-in-Ok-taken-clause-failed g c =
    let d = c.args.self in
    let items = c.take-taken.new.writer.items in
    let console = c.in-Ok-taken.console in
    let short = rw c.deref.ensures.value at c.in-Err.ensures.err in
    let taken = writes_list items (λ text. TakesPiece g.D.Disk.model g.D.CrashDisk.crashes d c.args.piece.now [] text console) (rw c.new-text.ensures.items at c.in-Ok-taken.ensures.taken) in
    (short.0, short.1, takes_unwritten g.D.Disk.model g.D.CrashDisk.crashes d c.args.piece.now items console taken short.0 (c.in-Err.fault, c.into_disk.result) short.2 c.in-Err.ensures.fault c.into_disk.ensures)

pub returns-clause-failed : goal.returns-clause-failed
returns-clause-failed g c =
    let d = c.args.self in
    let items = c.take-taken.new.writer.items in
    let lines = lines_on d.line c.args.piece.now in
    let fault = c.in-Err-taken.field-0-0 in
    let lost = c.in-Err-taken.disk in
    let short = rw c.deref.ensures.value at c.in-Err.ensures.err in
    let breaks = writes_list items (LinesBreakOff g.D.Disk.model g.D.CrashDisk.crashes d lines (fault, lost)) (rw c.new-text.ensures.items at c.in-Err-taken.ensures.failed) in
    (short.0, short.1, breaks_unwritten g.D.Disk.model g.D.CrashDisk.crashes d lines fault c.in-Err.fault lost items short.0 c.in-Err.ensures.fault breaks short.2)
