use Rattle.std.proofs.Common.{◌≤◌, ◌+◌, length}
use Rattle.coord_drill.specs.Facade.{IsReadyDrill, TakesPiece, WritesPart}
use Rattle.coord_drill.proofs.console.Console.take.Given as goal

-- the part of the piece that was carried out, and its answers
abbrev pub invariant-loop-following : goal.invariant-loop-following
invariant-loop-following g l =
    IsReadyDrill l.console.drill
    × (l.console.number + length l.rest ≤ l.fn.self.number + length l.piece)
    × WritesPart (g.W.Write.contents l.fn.writer) (g.W.Write.contents l.writer) (λ text. TakesPiece g.D.Disk.model g.D.CrashDisk.crashes l.fn.self l.piece l.rest text l.console)

abbrev pub decreases-loop-following : goal.decreases-loop-following
decreases-loop-following g l = length l.rest
