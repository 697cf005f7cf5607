use Rattle.std.proofs.Common.{◌++◌, [], false, ap, ◌∙◌, string_bytes}
use Rattle.coord_ledger.specs.Facade.{LedgerState}
use Rattle.coord_drill.specs.Answered.{asked_lines}
use Rattle.coord_drill.specs.Facade.{drill_of}
use Rattle.coord_drill.proofs.does.Cuts.{cut_before}
use Rattle.coord_drill.proofs.does.Reports.{no_version, reports}
use Rattle.coord_drill.proofs.drill.Drill.report.Goals as goal

pub returns-in-Ok-clause-reported : goal.returns-in-Ok-clause-reported
returns-in-Ok-clause-reported g c = reports g.D.Disk.model g.D.CrashDisk.crashes c.args.self c.args.wanted (string_bytes c.args.text.now) (string_bytes c.print_answer-printed.new.text) c.requires.nothing c.lemma_survives.ensures (c.in-Ok.ensures ∙ ap (λ (l : LedgerState g.row.D.Denot). string_bytes c.args.text.now ++ asked_lines (drill_of l false false) c.args.wanted []) c.ledger.ensures)

pub returns-in-Err-clause-cut : goal.returns-in-Err-clause-cut
returns-in-Err-clause-cut g c = cut_before g.D.Disk.model g.D.CrashDisk.crashes c.args.self c.args.wanted c.lost.result (no_version g.D.Disk.model g.D.CrashDisk.crashes c.args.wanted c.requires.nothing) c.lost.ensures.fault c.lemma_survives.ensures c.lost.ensures.disk
