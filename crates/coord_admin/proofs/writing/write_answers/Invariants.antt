use Rattle.std.proofs.Common.{◌≡◌, ℕ, List, [], ◌++◌, take}
use Rattle.coord_admin.specs.declared.answer.Answer.{Answer}
use Rattle.coord_admin.specs.Replies.{reply_lines}
use Rattle.coord_admin.specs.Stream.{AreWritten}
use Rattle.coord_admin.proofs.writing.write_answers.Given as goal

-- the written text, and the text after it, are the lines of the answers so far
abbrev pub invariant-loop-answer : goal.invariant-loop-answer
invariant-loop-answer g l =
    (out : List ℕ) × (returned : List Answer)
    × AreWritten (take l.answer-index l.answers) returned
    × g.C.Duplex.exchanged l.fn.connection [] out l.connection
    × (reply_lines returned ≡ out ++ l.text.items)
    × (g.C.Duplex.has_ended l.fn.connection → g.C.Duplex.has_ended l.connection)
    × (g.C.Duplex.has_failed l.fn.connection → g.C.Duplex.has_failed l.connection)
