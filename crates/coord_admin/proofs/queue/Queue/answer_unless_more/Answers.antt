use Rattle.std.proofs.lemmas.Result.{on_ok_weaker}
use Rattle.coord_admin.proofs.Pieces.{goes-answered}
use Rattle.coord_admin.proofs.queue.Queue.answer_unless_more.Goals as goal

pub returns-clause-whole : goal.returns-clause-whole
returns-clause-whole g c =
    on_ok_weaker c.answer_all.result (λ whole d lines await.
    let now = whole d lines await in
    (now.0, goes-answered g.D.Desk.answers g.D.Desk.posts d _ lines now.0 _ now.1 c.answer_all.ensures.empty, now.2)) c.answer_all.ensures.whole
