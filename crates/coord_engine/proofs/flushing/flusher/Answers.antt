use Rattle.std.proofs.Common.{suc, Some, None, Ok, Err, refl, subst, rules}
use Rattle.coord_store.specs.declared.faults.CommitFault.TheVariants.{OutOfMemory}
use Rattle.coord_engine.proofs.Releasing.{may_hand}
use Rattle.coord_engine.specs.Facade.{AnswersFlush, based_on}
use Rattle.coord_engine.proofs.flushing.flusher.Goals as goal

pub loop-preserved-in-Ok-None : goal.loop-preserved-in-Ok-None
loop-preserved-in-Ok-None g c =
    let b = based_on g.D.Disk.model g.L.Origin.base g.L.Origin.before in
    let answers = subst (λ o. AnswersFlush b (Ok o)) c.in-Ok-None.field-0-is c.in-Ok-None.ensures.flushed in
    (tt, tt, search rules, (suc c.loop.invariant.3.0, (c.loop.port, c.loop.invariant.3.1, (c.if-not-waits_for_flight.ensures.starts refl, (Ok None, answers, refl)))))

pub loop-preserved-in-Ok-Some : goal.loop-preserved-in-Ok-Some
loop-preserved-in-Ok-Some g c =
    let b = based_on g.D.Disk.model g.L.Origin.base g.L.Origin.before in
    let answers = subst (λ o. AnswersFlush b (Ok o)) c.in-Ok-Some.field-0-is c.in-Ok-Some.ensures.flushed in
    (tt, tt, search rules, (suc c.loop.invariant.3.0, (c.loop.port, c.loop.invariant.3.1, (c.if-not-waits_for_flight.ensures.starts refl, (Ok (Some c.in-Ok-Some.released), answers, c.hand_over.ensures.handed)))))

pub loop-preserved : goal.loop-preserved
loop-preserved g c =
    let b = based_on g.D.Disk.model g.L.Origin.base g.L.Origin.before in
    let answers = subst (λ f. AnswersFlush b (Err f)) c.in-Err-OutOfMemory.field-0-is c.in-Err-OutOfMemory.ensures.flushed in
    (tt, tt, search rules, (suc c.loop.invariant.3.0, (c.loop.port, c.loop.invariant.3.1, (c.if-not-waits_for_flight.ensures.starts refl, (Err OutOfMemory, answers, refl)))))

pub hand_over-requires : goal.hand_over-requires
hand_over-requires g c = may_hand g.L.Origin.history g.L.Origin.earlier g.L.Origin.base g.P.Port.may_signal c.in-Ok-Some.released c.requires
