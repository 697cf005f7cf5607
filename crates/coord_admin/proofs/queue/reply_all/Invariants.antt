use Rattle.std.proofs.Common.{◌≡◌, ◌+◌, ◌≤◌, List, ◌++◌, length, map, Result}
use Rattle.coord_types.specs.declared.refusals.Refusal.{Refusal}
use Rattle.coord_types.specs.declared.steps.Reply.{Reply}
use Rattle.std.specs.Prelude.{vec_capacity, vec_len}
use Rattle.std.specs.VecDeque.{deque_capacity, deque_len}
use Rattle.coord_admin.specs.Replies.{order_answer}
use Rattle.coord_admin.specs.Together.{AllReplied}
use Rattle.coord_admin.proofs.queue.reply_all.Given as goal

-- the replies so far, and there is room for the others
abbrev pub invariant-loop-order : goal.invariant-loop-order
invariant-loop-order g l =
    (vec_len l.answers + deque_len l.posted ≤ vec_capacity l.answers)
    × (vec_capacity l.fn.answers ≤ vec_capacity l.answers)
    × (deque_capacity l.posted ≡ deque_capacity l.fn.posted)
    × ((done : List g.row.D-Posted.Denot) × (results : List (Result Reply Refusal))
    × AllReplied g.D.Desk.replies l.fn.desk done results l.desk
    × (l.fn.posted.items ≡ done ++ l.posted.items)
    × (l.answers.items ≡ l.fn.answers.items ++ map order_answer results))

abbrev pub decreases-loop-order : goal.decreases-loop-order
decreases-loop-order g l = length l.posted.items
