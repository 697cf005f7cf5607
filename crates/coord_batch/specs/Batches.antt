-- The steps and batches that have an encoding.
use Rattle.std.specs.Prelude.{◌≡◌, ℕ, ◌-◌, ◌^◌, ◌≤◌, ◌<◌, List, length}
use Rattle.coord_types.specs.Facade.{CommandInRange, IsNode, carried}
use Rattle.coord_batch.specs.Fields.{distance}
use Rattle.std.specs.List.{AllByRecursion}
use Rattle.coord_types.specs.declared.limits.TheConstants.{MAX_BATCH_STEPS, MAX_CLIENTS, MAX_STEPS}
use Rattle.coord_types.specs.declared.steps.Step.{Step}
use Rattle.coord_types.specs.declared.steps.Step.TheVariants.{Order, Take, Clear}
use Rattle.coord_batch.specs.declared.batch.Batch.{Batch}

-- a step has an encoding: it is in the ranges of its types, an order's number is at least 1, and in version 1 no packet
-- carries a distance
abbrev pub StepFits : ℕ → Step → Type 0
StepFits version (Order c n x) = ((1 ≤ c) × (c ≤ MAX_CLIENTS)) × ((1 ≤ n) × (n < 2 ^ 64)) × CommandInRange x
StepFits version (Take p) = IsNode p.from × IsNode p.to × (p.inc < 2 ^ 64) × (p.number < 2 ^ 64) × (distance version (2 ^ 64 - 1)).Fits (carried p.msg)
StepFits version (Clear r) = IsNode r.from × IsNode r.to × (r.inc < 2 ^ 64) × (r.number < 2 ^ 64)

-- a batch as its format sees it: the number of its first step, and its steps
abbrev pub pair : ℕ → List Step → ℕ × List Step
pair first steps = (first, steps)

abbrev pub content : Batch → ℕ × List Step
content b = (b.first, b.steps.items)

-- a batch has an encoding: the number of its first step, the number of steps, and each step are in range
pub record IsBatch (version first : ℕ) (steps : List Step) : Type 0 where
  pub least : 1 ≤ first
  pub greatest : first ≤ MAX_STEPS
  pub some : 1 ≤ length steps
  pub most : length steps ≤ MAX_BATCH_STEPS
  pub each : AllByRecursion (StepFits version) steps

-- the number of an order is at least 1
abbrev pub IsNumbered : Step → Type 0
IsNumbered (Order c n x) = 1 ≤ n
IsNumbered (Take p) = Unit {0}
IsNumbered (Clear r) = Unit {0}

-- in version 1 a packet carries no distance
abbrev pub CarriesRightly : ℕ → Step → Type 0
CarriesRightly version (Order c n x) = Unit {0}
CarriesRightly version (Take p) = version ≡ 1 → carried p.msg ≡ 0
CarriesRightly version (Clear r) = Unit {0}

-- The conditions on a step beyond the ranges of its types: an order's number is at least 1, and in
-- version 1 no packet carries a distance.
abbrev pub IsWritable : ℕ → Step → Type 0
IsWritable version (Order c n x) = 1 ≤ n
IsWritable version (Take p) = version ≡ 1 → carried p.msg ≡ 0
IsWritable version (Clear r) = Unit {0}
