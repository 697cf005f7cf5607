use Rattle.coord_server.proofs.Ends.{has_cause}
use Rattle.coord_server.proofs.Moments.{server_run}
use Rattle.coord_server.proofs.instances.print_and_live.Goals as goal

pub returns : goal.returns
returns g c =
    let m = g.D.Disk.model in
    let talked = g.C.Callers.talked in
    let failed = g.C.Callers.failed in
    let most = c.args.setting.now.instance_steps in
    let over = c.args.start.over.value in
    let instance = c.live-instance in
    let ended = c.end_of.result in
    let last = c.end_of.ensures.last in
    let printed = c.join-printed in
    let cause = has_cause m talked failed most over c.args.callers instance.result ended instance.ensures.lived last.0 last.1 c.end_of.ensures.write instance.ensures.last in
    server_run m talked failed most g.W.Write.contents over c.args.callers instance.result ended g.O.SignalSource.gives g.O.SignalSource.lasts c.args.printing.promise.first.value printed.result.printer printed.result.reader.steps instance.ensures.lived last.0 last.1 last.2 cause last.3 c.end_of.ensures.read printed.ensures.1
