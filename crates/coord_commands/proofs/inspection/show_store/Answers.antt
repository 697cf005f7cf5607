use Rattle.std.proofs.Common.{◌≡◌, inr, rules}
use Rattle.coord_commands.specs.Printed.{shown}
use Rattle.coord_commands.proofs.Endings.{cut_last, printed_last}
use Rattle.coord_commands.proofs.Opening.{if_keeps}
use Rattle.coord_commands.proofs.inspection.show_store.Goals as goal

pub returns-in_ok-text-in-Ok-clause-shown : goal.returns-in_ok-text-in-Ok-clause-shown
returns-in_ok-text-in-Ok-clause-shown g c =
    let w = c.in-Ok.store.world in
    let text : c.deref.result.now ≡ shown w = search rules in
    printed_last _ c.print.result _ _ c.deref.result.now (record { world = w; given = if_keeps _ _ _ c.in-Ok.ensures.world; answered = text }) c.print.ensures.ok

pub returns-in_ok-text-in-Ok-clause-cut : goal.returns-in_ok-text-in-Ok-clause-cut
returns-in_ok-text-in-Ok-clause-cut g c =
    let w = c.in-Ok.store.world in
    let text : c.deref.result.now ≡ shown w = search rules in
    cut_last _ c.print.result _ _ c.deref.result.now (record { world = w; given = if_keeps _ _ _ c.in-Ok.ensures.world; answered = text }) c.print.ensures.err c.print.ensures.fault

pub returns-in-Err-clause-fault : goal.returns-in-Err-clause-fault
returns-in-Err-clause-fault g c = inr (c.in-Err.ensures.named, if_keeps _ _ _ c.in-Err.ensures.fault)
