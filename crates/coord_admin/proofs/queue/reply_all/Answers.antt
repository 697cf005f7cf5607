use Rattle.std.proofs.Common.{arith, [], ◌∷◌, ◌++◌, sym, ap, ◌∙◌, append_assoc}
use Rattle.coord_admin.proofs.Waiting.{answers-on, replied-on}
use Rattle.coord_admin.proofs.queue.reply_all.Goals as goal

pub loop-order-preserved : goal.loop-order-preserved
loop-order-preserved g c =
    let inv = c.loop-order.invariant in
    let so_far = inv.3 in (
      omega (arith, inv.0, c.push_reserved.ensures.len, c.push_reserved.ensures.capacity, c.in-Some.ensures.cases),
      omega (arith, inv.1, c.push_reserved.ensures.capacity),
      c.pop_front.ensures.capacity ∙ inv.2,
      (
        so_far.0 ++ c.in-Some.order ∷ [],
        so_far.1 ++ c.reply.result ∷ [],
        replied-on g.D.Desk.replies _ _ _ so_far.0 so_far.1 c.in-Some.order c.reply.result so_far.2 c.reply.ensures,
        so_far.3 ∙ ap (λ l. so_far.0 ++ l) c.in-Some.ensures.items ∙ sym (append_assoc so_far.0 (c.in-Some.order ∷ []) c.pop_front.new.self.items),
        answers-on _ _ _ so_far.1 c.reply.result c.order_answer.result so_far.4 c.order_answer.ensures c.push_reserved.ensures.items,
      ),
    )
