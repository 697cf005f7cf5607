-- The signals that a server may print: those sent by the settled steps of its history.
use Rattle.std.specs.Prelude.{◌≡◌, ℕ, List}
use Rattle.atomic_table.specs.Seated.{TableId}
use Rattle.coord_types.specs.declared.steps.Step.{Step}
use Rattle.coord_engine.specs.Facade.{Beginning}

-- a signal: the number of the step that sends it, the node, and the epoch that begins there
pub record StepSignal : Type 0 where
  pub step : ℕ
  pub node : ℕ
  pub epoch : ℕ

-- A token that has read this prefix of the history permits printing the signals that its steps send. `gives`
-- defines the signals of a list of steps, by step, node and epoch.
abbrev pub MaySignal : TableId → (List Step → ℕ → ℕ → ℕ → Type 0) → Beginning → ℕ → ℕ → ℕ → Type 0
MaySignal history gives read step node epoch = (read.history ≡ history) × gives read.steps step node epoch
