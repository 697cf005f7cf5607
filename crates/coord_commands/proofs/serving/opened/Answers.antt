use Rattle.std.proofs.Common.{◌≡◌, Err, inl, inr, refl, rules}
use Rattle.coord_commands.proofs.Endings.{err_last}
use Rattle.coord_commands.proofs.Opening.{if_keeps, opened, refused}
use Rattle.coord_commands.specs.Folders.{bytes_of}
use Rattle.coord_commands.specs.Inspection.{IsOfOpening}
use Rattle.coord_commands.specs.Serving.{IsNotOpened}
use Rattle.coord_commands.specs.declared.fault.Fault.TheVariants.{Store}
use Rattle.coord_store.specs.declared.faults.StoreFault.TheVariants.{Device}
use Rattle.coord_commands.proofs.serving.opened.Goals as goal

-- the disk is not available
pub returns-in_err-disk-clause-fault : goal.returns-in_err-disk-clause-fault
returns-in_err-disk-clause-fault g c =
    let before = g.F.Folder.holds c.args.folder.now c.args.file.now in
    let after = g.F.Folder.holds c.«open».new.self c.args.file.now in
    let answered : c.from_residual.result ≡ Err (Store Device) = search rules in
    err_last (IsNotOpened g.F.Disk.Disk.model before after) c.from_residual.result (Store Device) answered (record { fault = Device; named = refl; why = inl (refl, c.in_err-disk.ensures.refused) })

pub returns-in-Ok-clause-opened : goal.returns-in-Ok-clause-opened
returns-in-Ok-clause-opened g c =
    opened g.F.Disk.Disk.model (g.F.Folder.holds c.args.folder.now c.args.file.now) c.in_ok-disk.disk c.in-Ok.store c.in_ok-disk.ensures.taken c.in-Ok.ensures.world c.in-Ok.ensures.runs.failures c.in-Ok.ensures.runs.model c.in-Ok.ensures.any_moment c.in-Ok.ensures.bytes

pub returns-in-Err-clause-fault : goal.returns-in-Err-clause-fault
returns-in-Err-clause-fault g c =
    let taken = c.in_ok-disk.disk in
    let fault = c.in-Err.fault in
    let of : IsOfOpening (bytes_of g.F.Disk.Disk.model taken) (Store fault) = inr (c.in-Err.ensures.named, if_keeps _ _ _ c.in-Err.ensures.fault) in
    refused g.F.Disk.Disk.model (g.F.Folder.holds c.args.folder.now c.args.file.now) (g.F.Folder.holds c.close.new.self c.args.file.now) taken c.in-Err.disk fault c.in_ok-disk.ensures.taken c.close.ensures c.in-Err.ensures.runs.failures c.in-Err.ensures.unchanged of
