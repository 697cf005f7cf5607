use Rattle.std.proofs.Common.{string_bytes}
use Rattle.coord_commands.proofs.Raising.{fault_named, line_named, raised_named}
use Rattle.coord_commands.proofs.migrating.migrate_named.Goals as goal

pub returns-clause-line : goal.returns-clause-line
returns-clause-line g c = line_named string_bytes c.migrate_disk-line.result.0 _ _ _ _ c.in_ok-disk.ensures.taken c.close.ensures c.migrate_disk-line.ensures.line

pub returns-clause-fault : goal.returns-clause-fault
returns-clause-fault g c = fault_named c.migrate_disk-line.result.0 _ _ _ _ c.in_ok-disk.ensures.taken c.close.ensures c.migrate_disk-line.ensures.fault

pub returns-clause-raises : goal.returns-clause-raises
returns-clause-raises g c =
    raised_named g.F.Disk.Disk.model c.migrate_disk-line.result.0 _ _ _ _ c.in_ok-disk.ensures.taken c.close.ensures c.migrate_disk-line.ensures.raises
