use Rattle.std.proofs.Common.{◌≡◌, ◌∙◌, ap, refl, rules}
use Rattle.coord_server.specs.Printed.{new_printer}
use Rattle.coord_commands.proofs.LentOutput.{run_back, served_with}
use Rattle.coord_commands.proofs.serving.serve_and_report.Goals as goal

pub returns-in-Ok-clause-served : goal.returns-in-Ok-clause-served
returns-in-Ok-clause-served g c =
    let ended = c.in-Ok.ended in
    let answered = c.into_closed-served.ensures in
    let since : c.count-since.result ≡ c.args.store.world.count = search rules in
    served_with g.D.Disk.model g.O.SignalSource.gives c.args.store _ _ ended c.into_closed-served.result.0
    (run_back g.D.Disk.model _ g.W.Write.contents g.O.SignalSource.gives c.args.store _ c.into_output-back.result _ ended _ _ _ _ _ _ c.in-Ok.ensures.served (c.new-printer.ensures ∙ ap (new_printer _) since) answered.printer c.into_output-back.ensures refl refl (λ same. search rules)) answered.closed answered.fault
