-- Two writes, where the second begins only once the first is on disk.
use Rattle.std.specs.Prelude.{◌⊎◌, ℕ, List}
use Rattle.coord_disk.specs.Model.Present.{Torn, overwritten}

-- the bytes that a crash may leave while `first` is written at `at`, and then `second` at `next`
abbrev pub TornInTurn : List ℕ → ℕ → List ℕ → ℕ → List ℕ → List ℕ → Type 0
TornInTurn bytes at first next second image = Torn bytes at first image ⊎ Torn (overwritten bytes at first) next second image
