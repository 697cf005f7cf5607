-- The reply that a world keeps for a client.
use Rattle.std.specs.Prelude.{◌≡◌, ◌≢◌, ◌⊎◌, ℕ, ◌+◌, List, ◌∷◌, ◌++◌, Some, length, All, slice_get}
use Rattle.coord_types.specs.Table.{get}
use Rattle.coord_types.specs.declared.outputs.Output.{Output}
use Rattle.coord_types.specs.declared.steps.Session.{Session}
use Rattle.coord_types.specs.declared.steps.Step.{Step}
use Rattle.coord_types.specs.declared.steps.Step.TheVariants.{Order, Take, Clear}
use Rattle.coord_world.specs.protocol.Next.{fold}
use Rattle.coord_world.specs.protocol.NumberedWorld.{World}
use Rattle.coord_world.specs.protocol.Outputs.{outs}

-- the step is not an order of client c
abbrev pub IsNotBy : ℕ → Step → Type 0
IsNotBy c (Order d n x) = d ≢ c
IsNotBy c (Take p) = Unit {0}
IsNotBy c (Clear p) = Unit {0}

-- the last order of client c among these steps: its number, its command, and the reply that it got
pub record IsLastOrder (base : World) (steps : List Step) (c : ℕ) (o : Session) : Type 0 where
  pub before : List Step
  pub rest : List Step
  pub order : steps ≡ before ++ Order c o.number o.command ∷ rest
  pub last : All (IsNotBy c) rest
  pub given : List Output
  pub replied : slice_get (outs base steps) (length before) ≡ Some (record { reply = o.reply; outputs = given })
  pub step : o.reply.step ≡ base.count + length before + 1

-- the kept-reply law: the world after the steps keeps the reply to a client's last order, or the reply that the base
-- keeps if the steps have no order of the client
abbrev pub KeptReplyLaw : Type 0
KeptReplyLaw = (base : World) (steps : List Step) (c : ℕ) →
    ((o : Session) × ((get (fold base steps).sessions c ≡ Some o) × IsLastOrder base steps c o))
    ⊎ ((get (fold base steps).sessions c ≡ get base.sessions c) × All (IsNotBy c) steps)
