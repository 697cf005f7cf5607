-- The ranges of the numbers in a step. The types of these numbers guarantee the ranges.
use Rattle.std.specs.Prelude.{ℕ, ◌^◌, ◌≤◌, ◌<◌}
use Rattle.coord_types.specs.declared.limits.TheConstants.{MAX_CLIENTS, MAX_GROUPS, MAX_NODES}
use Rattle.coord_types.specs.declared.steps.Command.{Command}
use Rattle.coord_types.specs.declared.steps.Command.TheVariants.{Add, Remove, Join, Drop, Reset, Confirm}
use Rattle.coord_types.specs.declared.steps.Step.{Step}
use Rattle.coord_types.specs.declared.steps.Step.TheVariants.{Order, Take, Clear}

-- a node's number is from 1 to 64
abbrev pub IsNode : ℕ → Type 0
IsNode u = (1 ≤ u) × (u ≤ MAX_NODES)

-- the nodes, the group and the epoch of a command are in range
abbrev pub CommandInRange : Command → Type 0
CommandInRange (Add u g) = IsNode u × (1 ≤ g) × (g ≤ MAX_GROUPS)
CommandInRange (Remove u) = IsNode u
CommandInRange (Join a b) = IsNode a × IsNode b
CommandInRange (Drop a b) = IsNode a × IsNode b
CommandInRange (Reset u) = IsNode u
CommandInRange (Confirm u e) = IsNode u × (e < 2 ^ 64)

-- the client and the command of an order are in range; the numbers in a packet are unrestricted
abbrev pub StepInRange : Step → Type 0
StepInRange (Order c n x) = (1 ≤ c) × (c ≤ MAX_CLIENTS) × CommandInRange x
StepInRange (Take p) = Unit {0}
StepInRange (Clear p) = Unit {0}
