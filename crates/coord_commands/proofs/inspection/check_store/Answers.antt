use Rattle.std.proofs.Common.{◌≡◌, inl, inr, rules, subst}
use Rattle.coord_store.specs.Refused.{RefusesOpen}
use Rattle.coord_store.specs.declared.faults.StoreFault.{StoreFault}
use Rattle.coord_commands.specs.Ending.{OutputCutShort}
use Rattle.coord_commands.specs.Folders.{bytes_of}
use Rattle.coord_commands.specs.Inspection.{IsCheckedLine}
use Rattle.coord_commands.specs.Printed.{legal_line, violated_line}
use Rattle.coord_commands.specs.declared.fault.Fault.{Fault}
use Rattle.coord_commands.proofs.Endings.{err_last}
use Rattle.coord_commands.proofs.Opening.{if_keeps}
use Rattle.coord_commands.proofs.inspection.check_store.Goals as goal

pub returns-in_ok-print-in-Ok-clause-legal : goal.returns-in_ok-print-in-Ok-clause-legal
returns-in_ok-print-in-Ok-clause-legal g c = λ _.
    let w = c.in-Ok.store.world in
    let text : c.deref.result.now ≡ legal_line w.count = search rules in
    (c.deref.result.now, record { world = w; legal = c.lemma_images_give_world.ensures.legal; given = if_keeps _ _ _ c.in-Ok.ensures.world; counted = text }, c.in_ok-print-in-Ok.ensures.ok)

pub returns-in_err-print-in-Ok-clause-cut : goal.returns-in_err-print-in-Ok-clause-cut
returns-in_err-print-in-Ok-clause-cut g c =
    let w = c.in-Ok.store.world in
    let text : c.deref.result.now ≡ legal_line w.count = search rules in
    let P : Fault → Type 0 = OutputCutShort (IsCheckedLine (bytes_of g.D.Disk.model c.args.disk)) (g.W.Write.contents c.args.output.now) (g.W.Write.contents c.print.new.output) in
    err_last P _ c.in_err-print-in-Ok.field-0.0 (search rules)
    (inr (
      c.in_err-print-in-Ok.ensures.fault,
      (
        c.deref.result.now,
        inl (record { world = w; legal = c.lemma_images_give_world.ensures.legal; given = if_keeps _ _ _ c.in-Ok.ensures.world; counted = text }),
        c.in_err-print-in-Ok.ensures.err,
      ),
    ))

pub returns-in_err-print-in-Violated-clause-cut : goal.returns-in_err-print-in-Violated-clause-cut
returns-in_err-print-in-Violated-clause-cut g c =
    let violation = c.in-Violated.violation in
    let text : c.deref-in-Violated.result.now ≡ violated_line violation = search rules in
    let P : Fault → Type 0 = OutputCutShort (IsCheckedLine (bytes_of g.D.Disk.model c.args.disk)) (g.W.Write.contents c.args.output.now) (g.W.Write.contents c.print-in-Violated.new.output) in
    err_last P _ c.in_err-print-in-Violated.field-0.0 (search rules)
    (inr (
      c.in_err-print-in-Violated.ensures.fault,
      (
        c.deref-in-Violated.result.now,
        inr (record {
          violation = violation;
          refused = if_keeps _ _ _ (λ keeps. subst (λ (fault : StoreFault). RefusesOpen (g.D.Disk.model.present c.args.disk).read fault) c.in-Violated.is (c.in-Err.ensures.fault keeps));
          named = text;
        }),
        c.in_err-print-in-Violated.ensures.err,
      ),
    ))

pub returns-in_ok-print-in-Violated-clause-violated : goal.returns-in_ok-print-in-Violated-clause-violated
returns-in_ok-print-in-Violated-clause-violated g c = λ _.
    let violation = c.in-Violated.violation in
    let text : c.deref-in-Violated.result.now ≡ violated_line violation = search rules in
    let refused = if_keeps _ _ _ (λ keeps. subst (λ (fault : StoreFault). RefusesOpen (g.D.Disk.model.present c.args.disk).read fault) c.in-Violated.is (c.in-Err.ensures.fault keeps)) in
    (c.deref-in-Violated.result.now, record { violation = violation; refused = refused; named = text }, c.in_ok-print-in-Violated.ensures.ok)

pub returns-in_default-clause-fault : goal.returns-in_default-clause-fault
returns-in_default-clause-fault g c = inr (c.in-Err.ensures.named, if_keeps _ _ _ c.in-Err.ensures.fault)
