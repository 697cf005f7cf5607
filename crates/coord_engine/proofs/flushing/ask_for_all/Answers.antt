use Rattle.std.proofs.Common.{◌≡◌, ◌+◌, ◌<◌, drop, length, sym, ap, ◌∙◌, arith, slice_get, subst}
use Rattle.std.proofs.lemmas.List.{drop-drop}
use Rattle.coord_engine.proofs.Handed.{hands_next, may_ask_next, may_ask_rest, one_left}
use Rattle.coord_engine.specs.Facade.{Beginning, MayAsk, MayAskAll}
use Rattle.coord_engine.proofs.flushing.ask_for_all.Goals as goal
use Rattle.coord_engine.proofs.flushing.ask_for_all.Goals.{in-Some, in_default}

pub loop-handed-preserved : goal.loop-handed-preserved
loop-handed-preserved g c =
    let may = g.P.Port.may_signal c.args.reader in
    let k = c.loop-handed._handed in
    let at = c.loop-handed.invariant.0 in
    let rest : c.next.new.self ≡ drop (k + 1) c.args.releases = c.next.ensures.rest ∙ ap (drop 1) at ∙ drop-drop 1 k c.args.releases in
    let here : k < length c.args.releases = omega (arith, c.loop-handed-test.true, c.len-count.ensures) in
    elim c.match-next.branch [
      | in-Some w ↦ (
        rest,
        hands_next g.P.Port.carried g.P.Port.signalled c.args.port.now c.loop-handed.port c.match-next.port w.ask-is_in_hand.new.port k c.args.releases c.loop-handed.left w.in-Some.release w.of-delivery.result at c.loop-handed.invariant.1 (sym c.next.ensures.first ∙ w.in-Some.is) w.of-delivery.ensures w.ask-is_in_hand.ensures.asked w.port-is,
        subst (MayAskAll may) (sym c.next.ensures.rest) (may_ask_rest may c.loop-handed.left c.loop-handed.invariant.2),
        w.reader-is ∙ w.ask-is_in_hand.ensures.same ∙ c.loop-handed.invariant.3,
      )
      | in_default w ↦ absurd (one_left k c.args.releases (ap (λ l. slice_get l 0) (sym at) ∙ sym c.next.ensures.first ∙ w.in_default.is) here)
    ]

pub ask-is_in_hand-requires-clause-may : goal.ask-is_in_hand-requires-clause-may
ask-is_in_hand-requires-clause-may g c =
    subst (λ (r : Beginning). MayAsk (g.P.Port.may_signal r) c.of-delivery.result) (sym c.loop-handed.invariant.3)
    (may_ask_next (g.P.Port.may_signal c.args.reader) c.loop-handed.left c.in-Some.release c.of-delivery.result c.loop-handed.invariant.2 (sym c.next.ensures.first ∙ c.in-Some.is) c.of-delivery.ensures)
