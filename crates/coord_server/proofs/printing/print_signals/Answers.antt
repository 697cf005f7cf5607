use Rattle.std.proofs.Common.{◌≡◌, false, refl, subst, sym, ◌∙◌}
use Rattle.coord_server.proofs.Starts.{on_more, printed, prints_next, still_works, returned_last, returned_more, returned_next}
use Rattle.coord_server.specs.Printed.{HasPrinted, Prints}
use Rattle.coord_server.proofs.printing.print_signals.Goals as goal

pub loop-signal-preserved : goal.loop-signal-preserved
loop-signal-preserved g c =
    let contents = g.W.Write.contents in
    let p = c.args.printer in
    let m = c.loop-signal.printer in
    let q = c.print_signal.new.self in
    let s = c.in-Some.signal in
    let goes = c.in-Some.ensures.goes in
    let is = c.print_signal.ensures in
    let join = c.join.ensures in
    let read = c.loop-signal.reader.steps in
    let may = g.O.SignalSource.gives c.join.new.self.steps in
    let works : q.is_broken ≡ false = sym c.is_broken.ensures ∙ c.if-is_broken.false in
    let one : Prints contents m s q = printed contents m q s c.print_signal.result is.written is.next is.whole is.failed works in
    let returned : HasPrinted contents may p m = returned_more contents (g.O.SignalSource.gives read) may (on_more g.O.SignalSource.gives g.O.SignalSource.lasts read c.join.new.self.steps join.begins) p m c.loop-signal.invariant.3 in
    let mine = on_more g.O.SignalSource.gives g.O.SignalSource.lasts _ c.join.new.self.steps join.others s.step s.node s.epoch c.into_reader.ensures.1 in (
      goes.keeps,
      (goes.on c.loop-signal.invariant.1).1,
      prints_next contents p m q c.loop-signal.yielded s c.loop-signal.invariant.2 one,
      returned_next contents may p m q s returned (still_works contents m q m.is_broken refl (λ was. (is.broken was).1) works) mine one,
      join.same ∙ c.loop-signal.invariant.4,
    )

pub returns-then-is_broken-clause-returned : goal.returns-then-is_broken-clause-returned
returns-then-is_broken-clause-returned g c =
    let contents = g.W.Write.contents in
    let p = c.args.printer in
    let m = c.loop-signal.printer in
    let q = c.print_signal.new.self in
    let s = c.in-Some.signal in
    let is = c.print_signal.ensures in
    let join = c.join.ensures in
    let read = c.loop-signal.reader.steps in
    let may = g.O.SignalSource.gives c.join.new.self.steps in
    let returned : HasPrinted contents may p m = returned_more contents (g.O.SignalSource.gives read) may (on_more g.O.SignalSource.gives g.O.SignalSource.lasts read c.join.new.self.steps join.begins) p m c.loop-signal.invariant.3 in
    let mine = on_more g.O.SignalSource.gives g.O.SignalSource.lasts _ c.join.new.self.steps join.others s.step s.node s.epoch c.into_reader.ensures.1 in
    subst (HasPrinted contents may p) (sym c.into_printer.ensures) (returned_last contents may p m q s m.is_broken refl returned mine (sym c.is_broken.ensures ∙ c.if-is_broken.true) (λ was. (is.broken was).1) is.torn)
