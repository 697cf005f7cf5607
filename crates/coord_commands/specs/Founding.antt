-- The orders with which a store begins.
use Rattle.std.specs.Prelude.{◌≡◌, ◌⊎◌, ℕ, ◌+◌, ◌<◌, List, [], ◌∷◌, ◌++◌, map, length, Err}
use Rattle.coord_config.specs.Topology.{Content}
use Rattle.coord_config.specs.declared.topology.LinkEntry.{LinkEntry}
use Rattle.coord_config.specs.declared.topology.NodeEntry.{NodeEntry}
use Rattle.coord_store.specs.Recovered.{AllFresh}
use Rattle.coord_types.specs.declared.limits.TheConstants.{MAX_BATCH_STEPS}
use Rattle.coord_types.specs.declared.refusals.Refusal.{Refusal}
use Rattle.coord_types.specs.declared.refusals.Refusal.TheVariants.{PendingFull}
use Rattle.coord_types.specs.declared.steps.Command.{Command}
use Rattle.coord_types.specs.declared.steps.Command.TheVariants.{Add, Join}
use Rattle.coord_types.specs.declared.steps.Step.{Step}
use Rattle.coord_types.specs.declared.steps.Step.TheVariants.{Order}
use Rattle.coord_types.specs.Table.{get}
use Rattle.coord_world.specs.Facade.{Legal, accepts, fold, last_number, no_world}
use Rattle.coord_commands.specs.declared.founding.Founding.{Founding}

-- the client of these orders
abbrev pub founder : ℕ
founder = 16

abbrev pub adding : NodeEntry → Command
adding node = Add node.id node.group

abbrev pub joining : LinkEntry → Command
joining link = Join link.a link.b

-- the commands that build a topology: its nodes are added and then its links joined, in the order of the file
abbrev pub commands : Content → List Command
commands topology = map adding topology.nodes ++ map joining topology.links

-- these commands as the founder's orders, numbered from n on
abbrev pub numbered : ℕ → List Command → List Step
numbered n [] = []
numbered n (x ∷ xs) = Order founder n x ∷ numbered (n + 1) xs

abbrev pub orders : Content → List Step
orders topology = numbered 1 (commands topology)

-- An empty store refuses one of these steps, and this is the first refusal.
pub record IsRefusedBy (steps : List Step) (refusal : Refusal) : Type 0 where
  pub front : List Step
  pub refused : Step
  pub rest : List Step
  pub split : steps ≡ front ++ refused ∷ rest
  pub fresh : AllFresh (no_world 2) (no_world 2) front
  pub why : accepts (fold (no_world 2) front) (no_world 2) refused ≡ Err refusal

-- A store can't begin with these steps: one of them is refused, or there are too many for one commit.
abbrev pub RefusesToBegin : List Step → Refusal → Type 0
RefusesToBegin steps refusal = IsRefusedBy steps refusal ⊎ ((refusal ≡ PendingFull) × (MAX_BATCH_STEPS < length steps))

-- All steps submitted so far to an empty store were accepted, and none of them is settled yet.
pub record IsUnderWay (f : Founding) : Type 0 where
  pub nothing_settled : f.settled ≡ no_world 2
  pub world : f.world ≡ fold (no_world 2) f.steps.items
  pub fresh : AllFresh (no_world 2) (no_world 2) f.steps.items
  pub legal : Legal f.world
  pub numbered : last_number (get f.world.sessions founder) ≡ length f.steps.items
