use Rattle.std.proofs.Common.{◌≡◌, ◌++◌, ℕ, List, length}
use Rattle.coord_journal.specs.Facade.{IsOpened, ReadsAs, bodies}
use Rattle.coord_journal.proofs.read.read_batches.Given as goal

-- the batches read so far come before the rest, and if all bytes can be read, so can the rest
abbrev pub invariant-loop-rest : goal.invariant-loop-rest
invariant-loop-rest l = record {
  so_far : (opened : List ℕ) × (l.text ≡ opened ++ l.rest) × IsOpened (bodies l.batches.items) opened;
  others : (batches : List (List ℕ)) (size : ℕ) → ReadsAs batches size l.text → (more : List (List ℕ)) × (n : ℕ) × ReadsAs more n l.rest;
}

abbrev pub decreases-loop-rest : goal.decreases-loop-rest
decreases-loop-rest l = length l.rest
