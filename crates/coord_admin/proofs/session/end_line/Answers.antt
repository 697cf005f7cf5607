use Rattle.std.proofs.Common.{◌≡◌, ◌++◌, [], ◌∷◌, Ok, sym, ◌∙◌}
use Rattle.std.proofs.lemmas.Result.{err_from_is_err_and}
use Rattle.std.specs.Option.{option_copied}
use Rattle.coord_admin.specs.Requests.{asked_by}
use Rattle.coord_admin.proofs.Pieces.{goes-posted, goes-returned, line-broken, line-closed}
use Rattle.coord_admin.proofs.Stream.{gets-asked, returned-one, returned-part, returned-whole}
use Rattle.coord_admin.proofs.session.end_line.Goals as goal

pub returns-in_err-answer_unless_more-in-Some-clause-failed : goal.returns-in_err-answer_unless_more-in-Some-clause-failed
returns-in_err-answer_unless_more-in-Some-clause-failed g c =
    let failed = err_from_is_err_and c.from_residual.result c.from_residual.ensures.1 in
    rw failed.1 (λ d waiting await.
    let broken = c.in_err-answer_unless_more-in-Some.ensures.part d waiting await in
    (broken.0, broken.1, λ left. broken.2 (option_copied c.args.line ∷ left)))

pub returns-in_err-answer_all-in-None-clause-failed : goal.returns-in_err-answer_all-in-None-clause-failed
returns-in_err-answer_all-in-None-clause-failed g c =
    let failed = err_from_is_err_and c.from_residual-in_err-answer_all-in-None.result c.from_residual-in_err-answer_all-in-None.ensures.1 in
    rw failed.1 (λ d waiting await.
    let broken = c.in_err-answer_all-in-None.ensures.part d waiting await in
    (broken.0, broken.1, λ left. broken.2 (option_copied c.args.line ∷ left)))

pub returns-in_err-write_answer-in-None-clause-failed : goal.returns-in_err-write_answer-in-None-clause-failed
returns-in_err-write_answer-in-None-clause-failed g c =
    let line = option_copied c.args.line in
    let gets = gets-asked g.D.Desk.answers _ _ line c.read_line-asked.result c.answer_to-answer.result c.read_line-asked.ensures.value c.read_line-asked.ensures.memory c.answer_to-answer.ensures in
    let part = returned-part g.D.Desk.answers g.C.Duplex.exchanged _ _ line c.answer_to-answer.result _ _ gets c.in_err-write_answer-in-None.ensures.err in
    let failed = err_from_is_err_and c.from_residual-in_err-write_answer-in-None.result c.from_residual-in_err-write_answer-in-None.ensures.1 in
    rw failed.1 (λ d waiting await.
    let now = c.in_ok-answer_all-in-None.ensures.whole d waiting await in
    line-broken g.D.Desk.answers g.D.Desk.posts g.C.Duplex.exchanged g.met.C.Duplex.in_turn d _ _ _ _ _ waiting line now.0 now.1 now.2 part)

pub returns-in_ok-answer_unless_more-in-Some-clause-open : goal.returns-in_ok-answer_unless_more-in-Some-clause-open
returns-in_ok-answer_unless_more-in-Some-clause-open g c =
    let line = option_copied c.args.line in
    let order = c.in-Some.order in
    let is = c.in-Some.ensures.some in
    let asked : asked_by line ≡ Ok order = sym (c.read_line-asked.ensures.value (λ k. absurd (let e = is.0 in cc))) ∙ is.0 in
    let put = c.post.ensures in
    λ _ d waiting await.
    let now = c.in_ok-answer_unless_more-in-Some.ensures.whole d waiting await in
    (now.0, goes-posted g.D.Desk.answers g.D.Desk.posts d _ _ waiting line now.0 _ _ order put.0 now.1 asked is.1 put.1 put.2, now.2)

pub returns-in_ok-write_answer-in-None-clause-open : goal.returns-in_ok-write_answer-in-None-clause-open
returns-in_ok-write_answer-in-None-clause-open g c =
    let line = option_copied c.args.line in
    let gets = gets-asked g.D.Desk.answers _ _ line c.read_line-asked.result c.answer_to-answer.result c.read_line-asked.ensures.value c.read_line-asked.ensures.memory c.answer_to-answer.ensures in
    let whole = returned-whole g.D.Desk.answers g.C.Duplex.exchanged _ _ line c.answer_to-answer.result _ _ c.is_closed.result c.is_closed.ensures gets c.in_ok-write_answer-in-None.ensures.ok in
    λ goes_on d waiting await.
    let now = c.in_ok-answer_all-in-None.ensures.whole d waiting await in (
      now.0 ++ whole.0 ∷ [],
      goes-returned g.D.Desk.answers g.D.Desk.posts d _ _ waiting line now.0 whole.0 _ now.1 whole.2 (sym whole.1 ∙ goes_on) c.answer_all.ensures.empty,
      returned-one g.C.Duplex.exchanged g.met.C.Duplex.in_turn _ _ _ now.0 whole.0 now.2 whole.3,
    )

pub returns-in_ok-write_answer-in-None-clause-closed : goal.returns-in_ok-write_answer-in-None-clause-closed
returns-in_ok-write_answer-in-None-clause-closed g c =
    let line = option_copied c.args.line in
    let gets = gets-asked g.D.Desk.answers _ _ line c.read_line-asked.result c.answer_to-answer.result c.read_line-asked.ensures.value c.read_line-asked.ensures.memory c.answer_to-answer.ensures in
    let whole = returned-whole g.D.Desk.answers g.C.Duplex.exchanged _ _ line c.answer_to-answer.result _ _ c.is_closed.result c.is_closed.ensures gets c.in_ok-write_answer-in-None.ensures.ok in
    λ closed d waiting await.
    let now = c.in_ok-answer_all-in-None.ensures.whole d waiting await in
    let last = line-closed g.D.Desk.answers g.D.Desk.posts g.C.Duplex.exchanged g.met.C.Duplex.in_turn _ _ _ _ _ line now.0 whole.0 (sym whole.1 ∙ closed) whole.2 now.2 whole.3 in
    (now.0, _, now.1, last.0, last.1)
