use Rattle.std.proofs.Common.{Ok, ap, length, subst, sym, take, ◌∙◌, IfSome}
use Rattle.coord_ledger.specs.Facade.{Log, settled_steps}
use Rattle.coord_engine.proofs.Past.{has_left, leaves_from}
use Rattle.coord_engine.specs.Facade.{FliesFrom, GuardedState, HasReadSettled, StaysAlong, last_steps}
use Rattle.coord_engine.proofs.guarded.Guarded.begin.Goals as goal

pub invariant_of-result : goal.invariant_of-result
invariant_of-result g c =
    let m = g.D.Disk.model in
    let l = c.self.inside.ledger in
    let inv = c.self.invariant in
    let begun = c.begin_flush.ensures in
    let flight = c.in-Ok-Some.flight in
    let left = has_left m l c.begin_flush.new.self flight c.begin_flush.result (c.in-Ok-Some.is ∙ ap Ok c.in-Ok-Some.field-0-is) begun.nothing begun.begun in
    record {
      settled = settled_steps l.log;
      read_them = c.reader-reader.ensures.read ∙ inv.9;
      flies = leaves_from m g.L.Origin.disk g.L.Origin.base l c.begin_flush.new.self flight left inv.4 c.lemma_log_is_consistent.ensures.log.within inv.8;
    }

pub invariant_of-self : goal.invariant_of-self
invariant_of-self g c =
    let m = g.D.Disk.model in
    let l = c.self.inside.ledger in
    let later = c.begin_flush.new.self in
    let inv = c.self.invariant in
    let begun = c.begin_flush.ensures in
    let left = has_left m l later c.in-Ok-Some.flight c.begin_flush.result (c.in-Ok-Some.is ∙ ap Ok c.in-Ok-Some.field-0-is) begun.nothing begun.begun in (
      inv.0,
      inv.1,
      inv.2,
      ap (λ (log : Log). length log.trail) begun.log ∙ inv.3,
      ap (λ (log : Log). log.base) begun.log ∙ inv.4,
      inv.5,
      ap (λ (log : Log). take c.self.inside.start log.trail) begun.log ∙ inv.6,
      left.home,
      subst (λ o. IfSome o (StaysAlong m g.L.Origin.disk g.L.Origin.base (last_steps later.log later.log.doubt))) (sym left.gone) tt,
      c.reader-reader.ensures.same ∙ subst (λ (log : Log). HasReadSettled g.L.Origin.history g.L.Origin.earlier (settled_steps log) c.self.inside.writer) (sym begun.log) inv.9,
    )

pub returns-in-Ok-Some-clause-leaves : goal.returns-in-Ok-Some-clause-leaves
returns-in-Ok-Some-clause-leaves g c =
    let m = g.D.Disk.model in
    let l = c.self.inside.ledger in
    let inv = c.self.invariant in
    let begun = c.begin_flush.ensures in
    let flight = c.in-Ok-Some.flight in
    let left = has_left m l c.begin_flush.new.self flight c.begin_flush.result (c.in-Ok-Some.is ∙ ap Ok c.in-Ok-Some.field-0-is) begun.nothing begun.begun in
    subst (λ (s : GuardedState g.row.D.Denot). FliesFrom m g.L.Origin.disk g.L.Origin.base (settled_steps s.ledger.log) flight) c.self.view_is (leaves_from m g.L.Origin.disk g.L.Origin.base l c.begin_flush.new.self flight left inv.4 c.lemma_log_is_consistent.ensures.log.within inv.8)
