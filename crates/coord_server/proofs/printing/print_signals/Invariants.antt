use Rattle.std.proofs.Common.{◌≡◌}
use Rattle.coord_server.specs.Printed.{HasPrinted, PrintsEach}
use Rattle.coord_server.proofs.printing.print_signals.Given as goal

-- those that came so far were printed or lost, and the reader has read the step of each that was printed
abbrev pub invariant-loop-signal : goal.invariant-loop-signal
invariant-loop-signal g l =
    (goal.iterator-loop-signal g).can_next l.signal-iterator × (goal.iterator-loop-signal g).is_finite l.signal-iterator
    × PrintsEach g.W.Write.contents l.fn.printer l.yielded l.printer
    × HasPrinted g.W.Write.contents (g.O.SignalSource.gives l.reader.steps) l.fn.printer l.printer × (l.reader.history ≡ g.O.SignalSource.history)
