use Rattle.std.proofs.Common.{subst}
use Rattle.coord_store.specs.Kept.{Kept}
use Rattle.coord_server.specs.Printed.{PrinterState}
use Rattle.coord_server.specs.ServerRun.{ServerRun}
use Rattle.coord_server.proofs.instances.serve_instances.Goals as goal

pub returns-clause-served : goal.returns-clause-served
returns-clause-served g c =
    let says_what_is_left : Kept g.row.D.Denot → PrinterState g.row.W.Denot → Type 0 = λ store printer. ServerRun g.D.Disk.model g.C.Callers.talked g.C.Callers.failed c.args.most g.W.Write.contents g.O.SignalSource.gives store c.args.callers printer c.serve_and_print.result in
    subst (λ store. says_what_is_left store c.args.printer) c.in-Ok.ensures.over (subst (says_what_is_left c.in-Ok.start.over.value) c.new-port.ensures c.serve_and_print.ensures)
