use Rattle.std.proofs.Common.{subst}
use Rattle.coord_server.proofs.Ends.{has_cause}
use Rattle.coord_server.proofs.Moments.{server_run}
use Rattle.coord_server.specs.ServerRun.{ServerRun}
use Rattle.coord_server.proofs.instances.fn.serve_and_print.scope.Goals as goal

-- a thread prints
pub returns-in-Ok : goal.returns-in-Ok
returns-in-Ok g c =
    let m = g.D.Disk.model in
    let most = c.captures.setting.now.instance_steps in
    subst (λ printer. ServerRun m g.C.Callers.talked g.C.Callers.failed most g.W.Write.contents g.O.SignalSource.gives c.captures.start.over.value c.captures.callers printer c.print_and_live.result)
    c.in-Ok.ensures.started c.print_and_live.ensures

-- none does
pub returns-in-Err : goal.returns-in-Err
returns-in-Err g c =
    let m = g.D.Disk.model in
    let talked = g.C.Callers.talked in
    let failed = g.C.Callers.failed in
    let most = c.captures.setting.now.instance_steps in
    let over = c.captures.start.over.value in
    let instance = c.live-instance in
    let ended = c.end_of.result in
    let last = c.end_of.ensures.last in
    let printed = c.in-Err.printed in
    let cause = has_cause m talked failed most over c.captures.callers instance.result ended instance.ensures.lived last.0 last.1 c.end_of.ensures.write instance.ensures.last in
    server_run m talked failed most g.W.Write.contents over c.captures.callers instance.result ended g.O.SignalSource.gives g.O.SignalSource.lasts c.captures.printing.printer printed.printer printed.reader.steps instance.ensures.lived last.0 last.1 last.2 cause last.3 c.end_of.ensures.read c.in-Err.ensures.refused.1
