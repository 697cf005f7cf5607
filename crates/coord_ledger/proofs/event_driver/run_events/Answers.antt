use Rattle.std.proofs.Common.{◌≡◌, ◌+◌, [], length, false, Some, Ok, Err, refl, sym, ap, ◌∙◌, subst, arith, rules, OnOk, Result, is_err, take}
use Rattle.std.proofs.Math.Seq.{take-length}
use Rattle.std.proofs.lemmas.List.{length-take-le, length_push}
use Rattle.coord_store.proofs.Freshness.{take-push}
use Rattle.coord_ledger.specs.Facade.{Completed, IsCutShort, IsEventFault, IsLost, RunFaultKind, disk_held, disk_with, failed_at, failed_in_run, failed_until, model_held, started}
use Rattle.coord_ledger.proofs.runs.BreaksOff.{ended_after, ended_first, ended_at, caused}
use Rattle.coord_ledger.proofs.runs.SoFar.{invariant_first, invariant_on}
use Rattle.coord_ledger.proofs.runs.Ends.{completed_all}
use Rattle.coord_ledger.proofs.runs.Calls.{failed_as, failed_giving_up, failed_on, failed_same}
use Rattle.coord_ledger.proofs.event_driver.run_events.Goals as goal

-- the clause of a call that succeeds
on_ok_gives : {A E X : Type 0} (r : Result A E) → is_err r ≡ false → OnOk r X → X
on_ok_gives (Ok a) fine x = x
on_ok_gives (Err e) fine x = let no : ⊥ = cc in absurd no

pub loop-at-init : goal.loop-at-init
loop-at-init g c = record {
  so_far = invariant_first g.D.Disk.model g.D.CrashDisk.crashes c.args.ledger c.args.events.now _ (record { driver = c.over-driver.result; tickets = c.new.result; seen = c.new-2.result; released = c.new-3.result }) c.over-driver.ensures c.lemma_begins.ensures c.new.ensures.items c.new-2.ensures c.new-3.ensures.items (cc);
  room = let fine : is_err c.reserve.result ≡ false = search rules in let room = on_ok_gives c.reserve.result fine c.reserve.ensures.ok in omega (arith, room);
  many = cc;
  failed = λ n so. failed_as g.D.Disk.model.failures (disk_with c.over-driver.result.ledger.disk c.over-driver.result.flight) n (n + 0) (omega arith) (failed_same g.D.Disk.model.failures c.args.ledger.disk (disk_with c.over-driver.result.ledger.disk c.over-driver.result.flight) n (ap disk_held c.over-driver.ensures) so);
}

pub returns-then-is_err-clause-broke : goal.returns-then-is_err-clause-broke
returns-then-is_err-clause-broke g c =
    ended_first g.D.Disk.model g.D.CrashDisk.crashes c.args.ledger c.args.events.now c.at.result.0.at c.at.result.0.trace.answers.items _ c.at.result.0.kind c.at.result.0.trace.released.items c.at.result.1 c.at.ensures.at (cc) (c.at.ensures.kind ∙ c.lose.ensures.kind)
    (c.at.ensures.released ∙ c.lose.ensures.released) (c.lose.ensures.disk ∙ ap Some (sym c.at.ensures.disk))
    (invariant_first g.D.Disk.model g.D.CrashDisk.crashes c.args.ledger c.args.events.now [] (record { driver = c.over-driver.result; tickets = c.new.result; seen = c.new-2.result; released = c.new-3.result }) c.over-driver.ensures c.lemma_begins.ensures c.new.ensures.items c.new-2.ensures c.new-3.ensures.items refl)

pub returns-then-is_err-clause-failures : goal.returns-then-is_err-clause-failures
returns-then-is_err-clause-failures g c n so =
    let disk = disk_with c.over-driver.result.ledger.disk c.over-driver.result.flight in
    let there : disk ≡ Some c.at.result.1 = c.lose.ensures.disk ∙ ap Some (sym c.at.ensures.disk) in
    let same : disk ≡ c.args.ledger.disk = ap disk_held c.over-driver.ensures in
    let none : n ≡ n + failed_until (take c.at.result.0.at c.args.events.now) c.at.result.0.trace.answers.items = let no : n ≡ n + 0 = omega arith in no ∙ ap (λ k. n + failed_until (take k c.args.events.now) c.at.result.0.trace.answers.items) (sym c.at.ensures.at) in
    failed_giving_up g.D.Disk.model.failures disk c.at.result.1 c.at.result.0.kind n there (c.at.ensures.kind ∙ c.lose.ensures.kind) (failed_same g.D.Disk.model.failures c.args.ledger.disk disk n same so)
    ∙ ap (λ m. m + failed_in_run c.at.result.0.kind) none

pub returns-in-Err-clause-broke : goal.returns-in-Err-clause-broke
returns-in-Err-clause-broke g c =
    ended_at g.D.Disk.model g.D.CrashDisk.crashes c.args.ledger c.args.events.now c.loop-at.at c.loop-at.answers.items c.loop-at.held c.loop-at.invariant.so_far c.index-events-at.result c.loop-at-test.true c.index-events-at.is
    c.at-in-Err.result.0.at c.at-in-Err.result.0.trace.answers.items c.at-in-Err.result.0.kind c.at-in-Err.result.0.trace.released.items c.at-in-Err.result.1 c.at-in-Err.ensures.at c.at-in-Err.ensures.answers
    (λ s is follows on. subst (λ k. IsCutShort s c.index-events-at.result k c.at-in-Err.result.0.trace.released.items) (sym c.at-in-Err.ensures.kind)
    (subst (IsCutShort s c.index-events-at.result c.in-Err.broken.kind) (sym c.at-in-Err.ensures.released) (c.in-Err.ensures.answered s is follows on)))
    (λ s is follows. subst (λ (p : RunFaultKind × g.row.D.Denot). IsLost {D = g.row.D.Denot} g.D.Disk.model g.D.CrashDisk.crashes s c.index-events-at.result p.0 (disk_held c.loop-at.held.driver) p.1) (sym (λ i. (c.at-in-Err.ensures.kind i, c.at-in-Err.ensures.disk i)))
    (c.in-Err.ensures.disk s is follows))

pub returns-in-Err-clause-cause : goal.returns-in-Err-clause-cause
returns-in-Err-clause-cause g c =
    caused g.D.Disk.model g.D.CrashDisk.crashes c.args.ledger c.args.events.now c.loop-at.at c.loop-at.answers.items c.loop-at.held c.loop-at.invariant.so_far c.index-events-at.result c.loop-at-test.true c.index-events-at.is
    c.at-in-Err.result.0.at c.at-in-Err.result.0.kind c.at-in-Err.result.0.trace.released.items c.at-in-Err.ensures.at (subst (IsEventFault (model_held g.D.Disk.model c.loop-at.held.driver) c.index-events-at.result) (sym c.at-in-Err.ensures.kind) c.in-Err.ensures.cause)

pub returns-in-Err-clause-failures : goal.returns-in-Err-clause-failures
returns-in-Err-clause-failures g c n so =
    ap g.D.Disk.model.failures c.at-in-Err.ensures.disk ∙ c.in-Err.ensures.failures (n + failed_until (take c.loop-at.at c.args.events.now) c.loop-at.answers.items) (c.loop-at.invariant.failed n so)
    ∙ sym (λ i. (n + failed_until (take (c.at-in-Err.ensures.at i) c.args.events.now) (c.at-in-Err.ensures.answers i)) + failed_in_run (c.at-in-Err.ensures.kind i))

pub loop-at-preserved : goal.loop-at-preserved
loop-at-preserved g c =
    let given = c.push_reserved.ensures.items in
    record {
      so_far = rw given
          (invariant_on g.D.Disk.model g.D.CrashDisk.crashes c.args.ledger c.args.events.now c.loop-at.at c.loop-at.answers.items c.loop-at.held c.loop-at.invariant.so_far c.index-events-at.result c.loop-at-test.true c.index-events-at.is
          c.in-Ok.next c.in-Ok.answer c.in-Ok.ensures.named c.in-Ok.ensures.answered c.in-Ok.ensures.model c.in-Ok.ensures.disk c.lemma_survives.ensures);
      room = omega (arith, c.loop-at.invariant.room, c.push_reserved.ensures.len, c.push_reserved.ensures.capacity);
      many = ap length given ∙ length_push c.loop-at.answers.items c.in-Ok.answer ∙ ap (λ k. k + 1) c.loop-at.invariant.many;
      failed = λ n so.
          let events = c.args.events.now in
          let before = failed_until (take c.loop-at.at events) c.loop-at.answers.items in
          let e = c.index-events-at.result in
          let taken : length (take c.loop-at.at events) ≡ c.loop-at.at = length-take-le c.loop-at.at events (omega (arith, c.loop-at-test.true)) in
          let all = (λ i. failed_until (take-push events c.loop-at.at e c.loop-at-test.true c.index-events-at.is i) (given i)) ∙ failed_on (take c.loop-at.at events) c.loop-at.answers.items e c.in-Ok.answer (c.loop-at.invariant.many ∙ sym taken) in
          failed_as g.D.Disk.model.failures (disk_held c.in-Ok.next.driver) ((n + before) + failed_at e c.in-Ok.answer) (n + failed_until (take (c.loop-at.at + 1) events) c.push_reserved.new.self.items) (omega (arith, all))
          (c.in-Ok.ensures.failures (n + before) (c.loop-at.invariant.failed n so));
    }

pub returns-in-Ok-end-clause-ran : goal.returns-in-Ok-end-clause-ran
returns-in-Ok-end-clause-ran g c before after disk back =
    let last : c.loop-at.at ≡ length c.args.events.now = omega arith in
    completed_all g.D.Disk.model g.D.CrashDisk.crashes c.args.ledger c.args.events.now c.loop-at.at c.loop-at.answers.items c.loop-at.held after
    (λ first. Completed {D = g.row.D.Denot} g.D.Disk.model g.D.CrashDisk.crashes (started c.args.ledger) c.args.events.now c.loop-at.answers.items c.in-Ok-end.released.items c.in-Ok-end.ledger (g.D.Disk.model.keeps_model after) first after) c.loop-at.invariant.so_far last
    (sym c.in-Ok-end.ensures.disk ∙ back)
    (λ first so_far follows. c.in-Ok-end.ensures.ran c.args.ledger first c.args.events.now c.loop-at.answers.items after so_far follows back) before disk

pub returns-in-Ok-end-clause-failures : goal.returns-in-Ok-end-clause-failures
returns-in-Ok-end-clause-failures g c n so =
    let last : c.loop-at.at ≡ length c.args.events.now = omega arith in
    let all : take c.loop-at.at c.args.events.now ≡ c.args.events.now = ap (λ k. take k c.args.events.now) last ∙ take-length c.args.events.now in
    failed_as g.D.Disk.model.failures c.in-Ok-end.ledger.disk (n + failed_until (take c.loop-at.at c.args.events.now) c.loop-at.answers.items) (n + failed_until c.args.events.now c.loop-at.answers.items) (ap (λ l. n + failed_until l c.loop-at.answers.items) all)
    (failed_same g.D.Disk.model.failures (disk_held c.loop-at.held.driver) c.in-Ok-end.ledger.disk (n + failed_until (take c.loop-at.at c.args.events.now) c.loop-at.answers.items) c.in-Ok-end.ensures.disk (c.loop-at.invariant.failed n so))

pub returns-in-Err-end-clause-broke : goal.returns-in-Err-end-clause-broke
returns-in-Err-end-clause-broke g c =
    let last : c.loop-at.at ≡ length c.args.events.now = omega arith in
    ended_after g.D.Disk.model g.D.CrashDisk.crashes c.args.ledger c.args.events.now c.loop-at.at c.loop-at.answers.items c.loop-at.held c.loop-at.invariant.so_far
    c.at-in-Err-end.result.0.at c.at-in-Err-end.result.0.trace.answers.items c.at-in-Err-end.result.0.kind c.at-in-Err-end.result.0.trace.released.items c.at-in-Err-end.result.1 last (c.at-in-Err-end.ensures.at ∙ sym last) c.at-in-Err-end.ensures.answers
    (c.at-in-Err-end.ensures.kind ∙ c.in-Err-end.ensures.kind) (c.at-in-Err-end.ensures.released ∙ c.in-Err-end.ensures.refused) (c.in-Err-end.ensures.disk ∙ ap Some (sym c.at-in-Err-end.ensures.disk)) c.in-Err-end.ensures.out

pub returns-in-Err-end-clause-failures : goal.returns-in-Err-end-clause-failures
returns-in-Err-end-clause-failures g c n so =
    let last : c.loop-at.at ≡ length c.args.events.now = omega arith in
    let at = c.at-in-Err-end.ensures.at ∙ sym last in
    failed_giving_up g.D.Disk.model.failures (disk_held c.loop-at.held.driver) c.at-in-Err-end.result.1 c.at-in-Err-end.result.0.kind (n + failed_until (take c.loop-at.at c.args.events.now) c.loop-at.answers.items) (c.in-Err-end.ensures.disk ∙ ap Some (sym c.at-in-Err-end.ensures.disk))
    (c.at-in-Err-end.ensures.kind ∙ c.in-Err-end.ensures.kind) (c.loop-at.invariant.failed n so)
    ∙ sym (λ i. (n + failed_until (take (at i) c.args.events.now) (c.at-in-Err-end.ensures.answers i)) + failed_in_run c.at-in-Err-end.result.0.kind)
