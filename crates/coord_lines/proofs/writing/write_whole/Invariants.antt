use Rattle.std.proofs.Common.{◌≡◌, ℕ, List, ◌++◌}
use Rattle.std.specs.Io.KnownBytes.{Appends}
use Rattle.coord_lines.proofs.writing.write_whole.Given as goal

-- the written text and the remaining one
abbrev pub invariant-loop : goal.invariant-loop
invariant-loop g l =
    (written : List ℕ) × Appends (g.W.Write.contents l.fn.writer) (g.W.Write.contents l.writer) written × (l.text ≡ written ++ l.rest)
