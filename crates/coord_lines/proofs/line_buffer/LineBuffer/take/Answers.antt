use Rattle.std.proofs.Common.{arith, sym, ap, ◌∙◌, option_map}
use Rattle.std.specs.List.{after_first}
use Rattle.std.proofs.lemmas.Grind.{common_steps}
use Rattle.coord_lines.specs.Lines.{extended, is_line_feed}
use Rattle.coord_lines.proofs.LinesOn.{at_line_feed, without_line_feed, before_all}
use Rattle.coord_lines.proofs.line_buffer.LineBuffer.take.Goals as goal

pub returns-in-Some-clause-line : goal.returns-in-Some-clause-line
returns-in-Some-clause-line c = let at = at_line_feed c.args.piece.now c.in-Some.end (sym c.in-Some.ensures) in grind (arith, common_steps)

pub returns-in-Some-clause-following : goal.returns-in-Some-clause-following
returns-in-Some-clause-following c = let at = at_line_feed c.args.piece.now c.in-Some.end (sym c.in-Some.ensures) in grind (arith, common_steps)

pub returns-in-None-clause-line : goal.returns-in-None-clause-line
returns-in-None-clause-line c = let none = without_line_feed c.args.piece.now (sym c.in-None.ensures) in c.extend-in-None.ensures ∙ ap (extended c.args.self.now) (sym (before_all c.args.piece.now none))

pub returns-in-None-clause-following : goal.returns-in-None-clause-following
returns-in-None-clause-following c = ap (option_map (λ _. after_first is_line_feed c.args.piece.now)) c.in-None.ensures
