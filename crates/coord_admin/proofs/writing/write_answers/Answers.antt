use Rattle.std.proofs.Common.{[], ◌∷◌, ◌++◌, sym, ap, ◌∙◌, subst}
use Rattle.std.proofs.lemmas.Result.{err_from_is_err_and, on_err_weaker, on_ok_weaker}
use Rattle.coord_admin.specs.Stream.{AreWritten}
use Rattle.coord_admin.proofs.Stream.{all-taken, part-at_end, part-within, text-on, returned-on, written-next}
use Rattle.coord_admin.proofs.writing.write_answers.Goals as goal

pub loop-answer-init : goal.loop-answer-init
loop-answer-init g c = ([], [], tt, g.met.C.Duplex.at_rest _, sym c.new-text.ensures.items, λ ended. ended, λ failed. failed)

pub returns-in_err-add_line-clause-part : goal.returns-in_err-add_line-clause-part
returns-in_err-add_line-clause-part g c =
    let inv = c.loop-answer.invariant in
    let i = c.loop-answer.answer-index in
    let line = c.line_of_answer-line.ensures in
    let w = written-next c.args.answers.now inv.1 c.answer-item.result line.0 i c.loop-answer-test.true c.answer-item.is inv.2 line.1 in
    let part = c.in_err-add_line.ensures.part in
    let all = part-within c.args.answers.now inv.1 line.0 inv.0 part.0 c.loop-answer.text.items _ i w inv.4 (c.as_bytes.ensures ∙ line.2) part.2 in
    let out = returned-on g.C.Duplex.exchanged g.met.C.Duplex.in_turn _ _ _ [] inv.0 part.0 inv.3 part.1 in
    let failed = err_from_is_err_and c.from_residual.result c.from_residual.ensures.1 in
    rw failed.1 (all.0, inv.0 ++ part.0, all.1, out, all.2)

pub loop-answer-preserved : goal.loop-answer-preserved
loop-answer-preserved g c =
    let inv = c.loop-answer.invariant in
    let line = c.line_of_answer-line.ensures in
    let added = c.in_ok-add_line.ensures.added in (
      inv.0 ++ added.0,
      inv.1 ++ line.0 ∷ [],
      written-next c.args.answers.now inv.1 c.answer-item.result line.0 c.loop-answer.answer-index c.loop-answer-test.true c.answer-item.is inv.2 line.1,
      returned-on g.C.Duplex.exchanged g.met.C.Duplex.in_turn _ _ _ [] inv.0 added.0 inv.3 added.1,
      text-on inv.1 line.0 inv.0 added.0 c.loop-answer.text.items _ _ inv.4 (c.as_bytes.ensures ∙ line.2) added.2,
      λ ended. c.add_line.ensures.end (inv.5 ended),
      λ failed. c.add_line.ensures.still (inv.6 failed),
    )

pub returns-clause-whole : goal.returns-clause-whole
returns-clause-whole g c =
    let inv = c.loop-answer.invariant in
    let w = subst (λ l. AreWritten l inv.1) (all-taken c.args.answers.now c.loop-answer.answer-index c.loop-answer-test.false) inv.2 in
    on_ok_weaker c.reply.result (λ whole. (
      inv.1,
      w,
      rw (sym (ap (λ l. inv.0 ++ l) c.deref.ensures.value ∙ sym inv.4)) (returned-on g.C.Duplex.exchanged g.met.C.Duplex.in_turn _ _ _ [] inv.0 c.deref.result.now inv.3 whole),
    )) c.reply.ensures.whole

pub returns-clause-part : goal.returns-clause-part
returns-clause-part g c =
    let inv = c.loop-answer.invariant in
    let w = subst (λ l. AreWritten l inv.1) (all-taken c.args.answers.now c.loop-answer.answer-index c.loop-answer-test.false) inv.2 in
    on_err_weaker c.reply.result (λ part. (
      inv.1,
      inv.0 ++ part.0,
      w,
      returned-on g.C.Duplex.exchanged g.met.C.Duplex.in_turn _ _ _ [] inv.0 part.0 inv.3 part.1,
      part-at_end inv.1 inv.0 part.0 c.deref.result.now (inv.4 ∙ ap (λ l. inv.0 ++ l) (sym c.deref.ensures.value)) part.2,
    )) c.reply.ensures.part

pub returns-in_err-add_line-clause-end : goal.returns-in_err-add_line-clause-end
returns-in_err-add_line-clause-end g c = λ ended. c.add_line.ensures.end (c.loop-answer.invariant.5 ended)

pub returns-clause-end : goal.returns-clause-end
returns-clause-end g c = λ ended. c.reply.ensures.end (c.loop-answer.invariant.5 ended)

pub returns-in_err-add_line-clause-still : goal.returns-in_err-add_line-clause-still
returns-in_err-add_line-clause-still g c = λ failed. c.add_line.ensures.still (c.loop-answer.invariant.6 failed)

pub returns-clause-still : goal.returns-clause-still
returns-clause-still g c = λ failed. c.reply.ensures.still (c.loop-answer.invariant.6 failed)
