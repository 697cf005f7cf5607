-- The laws of the encodings of steps and batches.
use Rattle.std.specs.Prelude.{◌≡◌, ℕ, true, List, ◌∷◌, ◌++◌, length, Err}
use Rattle.coord_types.specs.declared.steps.Step.{Step}
use Rattle.coord_batch.specs.Batches.{IsBatch, StepFits, pair}
use Rattle.coord_batch.specs.Decoding.{decoded, fault_at, is_version}
use Rattle.coord_batch.specs.Steps.{batch, step}
use Rattle.coord_batch.specs.declared.fault.FaultKind.TheVariants.{Short, Extra}

-- No encoding of a step is a prefix of another step's encoding, and no encoding of a batch is a prefix of
-- another batch's encoding. So bytes that begin with an encoding determine the value.
abbrev pub StepsArePrefixFree : Type 0
StepsArePrefixFree = (version : ℕ) (s t : Step) (rest more : List ℕ) → StepFits version s → StepFits version t → (step version).text s ++ rest ≡ (step version).text t ++ more → (s ≡ t) × (rest ≡ more)

abbrev pub BatchesArePrefixFree : Type 0
BatchesArePrefixFree = (version m n : ℕ) (ss ts : List Step) (rest more : List ℕ) → IsBatch version m ss → IsBatch version n ts → (batch version).text (pair m ss) ++ rest ≡ (batch version).text (pair n ts) ++ more → (pair m ss ≡ pair n ts) × (rest ≡ more)

-- a proper prefix of a batch's encoding is refused as Short, at the length of the prefix
abbrev pub CutBatchesAreShort : Type 0
CutBatchesAreShort = (version first : ℕ) (steps : List Step) (front rest : List ℕ) (b : ℕ) → is_version version ≡ true → IsBatch version first steps → (batch version).text (pair first steps) ≡ front ++ b ∷ rest → decoded batch version front ≡ Err (fault_at Short (length front))

-- a batch's encoding followed by at least one byte is refused as Extra, at the length of the encoding
abbrev pub BytesAfterBatchesAreExtra : Type 0
BytesAfterBatchesAreExtra = (version first : ℕ) (steps : List Step) (rest : List ℕ) (b : ℕ) → is_version version ≡ true → IsBatch version first steps →
    decoded batch version ((batch version).text (pair first steps) ++ b ∷ rest) ≡ Err (fault_at Extra (length ((batch version).text (pair first steps))))
