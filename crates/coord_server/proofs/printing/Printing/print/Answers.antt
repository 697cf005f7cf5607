use Rattle.std.proofs.Common.{subst, sym}
use Rattle.coord_server.specs.Printed.{IsPrinted}
use Rattle.coord_server.proofs.Starts.{printed_all, printed_failed}
use Rattle.coord_server.proofs.printing.Printing.print.Goals as goal

pub returns-in-Ok-print_listening-clause-printed : goal.returns-in-Ok-print_listening-clause-printed
returns-in-Ok-print_listening-clause-printed g c = printed_all g.W.Write.contents (g.O.SignalSource.gives c.print_signals.result.reader.steps) c.args.self.printer c.print_listening.new.printer c.print_signals.result.printer c.in-Ok-print_listening.ensures.printed c.print_signals.ensures.returned

pub returns-clause-printed : goal.returns-clause-printed
returns-clause-printed g c =
    subst (λ printer. IsPrinted g.W.Write.contents (g.O.SignalSource.gives c.args.self.reader.steps) c.args.self.printer printer) (sym c.into_printer-in-Err.ensures)
    (printed_failed g.W.Write.contents (g.O.SignalSource.gives c.args.self.reader.steps) c.args.self.printer c.print_listening.new.printer c.in-Ok.address c.in-Err.ensures.failed)
