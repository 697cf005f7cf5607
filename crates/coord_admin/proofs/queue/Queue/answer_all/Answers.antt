use Rattle.std.proofs.Common.{◌≡◌, ◌<◌, ◌≤◌, arith, [], ◌++◌, length, map, ap, ◌∙◌, subst}
use Rattle.std.proofs.lemmas.Bool.Decides.{nat_tests}
use Rattle.std.proofs.lemmas.Result.{on_err_weaker, on_ok_weaker}
use Rattle.coord_types.specs.declared.limits.TheConstants.{MAX_BATCH_STEPS}
use Rattle.coord_admin.specs.Replies.{order_answer}
use Rattle.coord_admin.specs.Stream.{AreWritten}
use Rattle.coord_admin.proofs.Waiting.{all-kept, none-answered, none-left, part-written, whole-written}
use Rattle.coord_admin.proofs.queue.Queue.answer_all.Goals as goal

pub returns-then-is_empty-clause-whole : goal.returns-then-is_empty-clause-whole
returns-then-is_empty-clause-whole g c =
    let queue = c.args.self.now in
    let none : length queue.posted.items ≡ 0 = grind (arith, nat_tests, queue.posted.ok.0, c.is_empty.ensures, c.if-is_empty.true) in
    λ d lines await. ([], none-answered g.D.Desk.answers g.D.Desk.posts g.D.Desk.replies g.met.D.Desk.is_answered g.met.D.Desk.stays_apart d c.args.desk.now lines queue.posted.items (none-left queue.posted.items none) await, g.met.C.Duplex.at_rest _)

pub returns-clause-whole : goal.returns-clause-whole
returns-clause-whole g c =
    let queue = c.args.self.now in
    let replied = c.reply_all.ensures.replied in
    let empty : queue.answers.items ≡ [] = none-left queue.answers.items (omega (arith, queue.answers.ok.0, queue.has_room.2)) in
    let all : c.deref.result.now ≡ map order_answer replied.0 = c.deref.ensures.value ∙ replied.2 ∙ ap (λ l. l ++ map order_answer replied.0) empty in
    on_ok_weaker c.write_answers-written.result (λ whole d lines await. (
      whole.0,
      whole-written g.D.Desk.answers g.D.Desk.posts g.D.Desk.replies g.met.D.Desk.is_answered g.met.D.Desk.stays_apart d _ _ lines queue.posted.items replied.0 whole.0 await replied.1 (subst (λ l. AreWritten l whole.0) all whole.1),
      whole.2,
    )) c.write_answers-written.ensures.whole

pub returns-clause-part : goal.returns-clause-part
returns-clause-part g c =
    let queue = c.args.self.now in
    let replied = c.reply_all.ensures.replied in
    let empty : queue.answers.items ≡ [] = none-left queue.answers.items (omega (arith, queue.answers.ok.0, queue.has_room.2)) in
    let all : c.deref.result.now ≡ map order_answer replied.0 = c.deref.ensures.value ∙ replied.2 ∙ ap (λ l. l ++ map order_answer replied.0) empty in
    let few : length queue.posted.items ≤ MAX_BATCH_STEPS = omega (arith, queue.few, queue.posted.ok.0) in
    let some : 0 < length queue.posted.items = grind (arith, nat_tests, queue.posted.ok.0, c.is_empty.ensures, c.if-is_empty.false) in
    on_err_weaker c.write_answers-written.result (λ part d lines await. (
      part.1,
      part.3,
      part-written g.D.Desk.answers g.D.Desk.posts g.D.Desk.replies g.met.D.Desk.is_answered g.met.D.Desk.stays_apart d _ _ lines queue.posted.items replied.0 part.0 part.1 few some await replied.1 (subst (λ l. AreWritten l part.0) all part.2) part.4,
    )) c.write_answers-written.ensures.part

pub returns-clause-kept : goal.returns-clause-kept
returns-clause-kept g c = λ kept is.
    let replied = c.reply_all.ensures.replied in
    all-kept g.D.Desk.replies g.D.Desk.keeps g.met.D.Desk.loses_none c.args.desk.now _ c.args.self.now.posted.items replied.0 kept replied.1 is
