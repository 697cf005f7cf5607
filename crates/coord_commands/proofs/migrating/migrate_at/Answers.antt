use Rattle.coord_commands.specs.Migrating.{EndsRaising, IsOfMigrating}
use Rattle.coord_commands.proofs.Endings.{of_writing}
use Rattle.coord_commands.proofs.Raising.{raised_unwritten, unwritten}
use Rattle.coord_commands.proofs.migrating.migrate_at.Goals as goal

pub returns-clause-fault : goal.returns-clause-fault
returns-clause-fault g c =
    let before = g.F.Folder.holds c.args.folder.now c.args.file.now in
    let after = g.F.Folder.holds c.migrate_named.new.folder c.args.file.now in
    of_writing (λ fault. IsOfMigrating before after fault × EndsRaising g.F.Disk.Disk.model before after fault) c.print.result
    (λ fault of. (unwritten before after _ c.in_ok-line.ensures.line fault of, raised_unwritten g.F.Disk.Disk.model before after c.in_ok-line.ensures.raises fault of)) c.print.ensures.fault
