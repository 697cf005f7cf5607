use Rattle.std.proofs.Common.{take, sym, subst, arith}
use Rattle.std.specs.List.{AllByRecursion}
use Rattle.std.proofs.lemmas.List.{take_all}
use Rattle.coord_ledger.specs.machine.Consistent.{EventInRange}
use Rattle.coord_store.proofs.Freshness.{all-push, take-push}
use Rattle.coord_starts.proofs.named.lemma_all_named.Goals as goal

pub loop-event-preserved : goal.loop-event-preserved
loop-event-preserved c =
    let e = c.event-item.result in
    let events = c.args.events.now in
    let i = c.loop-event.event-index in
    subst (AllByRecursion EventInRange) (sym (take-push events i e c.loop-event-test.true c.event-item.is)) (all-push EventInRange (take i events) e c.loop-event.invariant c.lemma_named.ensures)

pub returns : goal.returns
returns c =
    let events = c.args.events.now in
    subst (AllByRecursion EventInRange) (take_all c.loop-event.event-index events (omega (arith, c.loop-event-test.false))) c.loop-event.invariant
