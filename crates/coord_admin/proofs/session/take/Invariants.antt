use Rattle.std.proofs.Common.{◌≡◌, ℕ, List, [], ◌++◌, length}
use Rattle.coord_lines.specs.Lines.{Line, lines_on}
use Rattle.coord_admin.specs.declared.answer.Answer.{Answer}
use Rattle.coord_admin.specs.Replies.{reply_lines}
use Rattle.coord_admin.specs.Stream.{GoesOn}
use Rattle.coord_admin.specs.Together.{AwaitReplies}
use Rattle.coord_admin.proofs.session.take.Given as goal

-- the lines that have ended have their replies or await them, and the others are those of the rest
abbrev pub invariant-loop-following : goal.invariant-loop-following
invariant-loop-following g l =
    (d : g.row.D.Denot) (waiting : List Line) → AwaitReplies g.D.Desk.posts d waiting l.fn.queue.posted.items l.fn.desk → (lines : List Line) × (returned : List Answer)
    × GoesOn g.D.Desk.answers g.D.Desk.posts d lines returned l.queue.posted.items l.desk
    × g.C.Duplex.exchanged l.fn.connection [] (reply_lines returned) l.connection
    × ((more : List ℕ) → waiting ++ lines_on l.fn.line (l.piece ++ more) ≡ lines ++ lines_on l.line (l.rest ++ more))

abbrev pub decreases-loop-following : goal.decreases-loop-following
decreases-loop-following g l = length l.rest
