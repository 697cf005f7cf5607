use Rattle.std.proofs.Common.{◌≡◌, map, take, string_bytes}
use Rattle.coord_kept.specs.Lines.{entry_words}
use Rattle.coord_kept.proofs.lines.lines_of.Given as goal

abbrev pub invariant-loop-entry : goal.invariant-loop-entry
invariant-loop-entry l = map (λ line. string_bytes line) l.lines.items ≡ map entry_words (take l.entry-index l.party)
