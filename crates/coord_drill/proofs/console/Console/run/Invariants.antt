use Rattle.std.proofs.Common.{◌≤◌, ◌*◌, ℕ, List, [], length}
use Rattle.std.specs.Io.KnownBytes.{Consumes}
use Rattle.coord_drill.specs.Facade.{IsReadyDrill, TakesPiece, WritesPart}
use Rattle.coord_drill.proofs.console.Console.run.Given as goal

-- the input read, carried out and answered so far
abbrev pub invariant-loop : goal.invariant-loop
invariant-loop g l =
    IsReadyDrill l.console.drill
    × (l.console.number ≤ 512 * l.counter)
    × ((seen : List ℕ) × Consumes (g.R.Read.remaining l.fn.reader) (g.R.Read.remaining l.reader) seen × (l.counter ≤ length seen)
    × WritesPart (g.W.Write.contents l.fn.writer) (g.W.Write.contents l.writer) (λ text. TakesPiece g.D.Disk.model g.D.CrashDisk.crashes l.fn.self seen [] text l.console))
