-- The replies and outputs of a history's turns, and the world after them.
use Rattle.std.specs.Prelude.{◌≡◌, ◌⊎◌, ℕ, ◌+◌, List, [], ◌∷◌, ◌++◌, length, Some, map}
use Rattle.std.specs.List.{AllByRecursion}
use Rattle.coord_types.specs.Table.{get}
use Rattle.coord_types.specs.declared.steps.Reply.{Reply}
use Rattle.coord_types.specs.declared.steps.Session.{Session}
use Rattle.coord_types.specs.declared.steps.Step.{Step}
use Rattle.coord_types.specs.declared.steps.Step.TheVariants.{Order}
use Rattle.coord_world.specs.Facade.{StepOutcome, World, next, outputs, reply}
use Rattle.coord_world.specs.laws.KeptReplies.{IsNotBy}
use Rattle.coord_world.specs.laws.Raised.{raised}
use Rattle.coord_following.specs.Histories.{Turn, Takes, Raises, turned}

-- the world after all turns
abbrev pub led : World → List Turn → World
led w [] = w
led w (t ∷ turns) = led (turned w t) turns

-- the steps among the turns
abbrev pub steps_of : List Turn → List Step
steps_of [] = []
steps_of (Takes s ∷ turns) = s ∷ steps_of turns
steps_of (Raises ∷ turns) = steps_of turns

-- the reply and the outputs of each of these steps
abbrev pub outcomes : World → List Turn → List StepOutcome
outcomes w [] = []
outcomes w (Takes s ∷ turns) = record { reply = reply w s; outputs = outputs w s } ∷ outcomes (next w s) turns
outcomes w (Raises ∷ turns) = outcomes (raised w) turns

-- The reply is the reply in the outcome of the step with its number. These are the outcomes of the steps after
-- the first `count` steps.
pub record IsReplyTo (count : ℕ) (given : List StepOutcome) (r : Reply) : Type 0 where
  pub before : List StepOutcome
  pub outcome : StepOutcome
  pub rest : List StepOutcome
  pub among : given ≡ before ++ outcome ∷ rest
  pub same : outcome.reply ≡ r
  pub number : r.step ≡ count + length before + 1

-- the last order of client c among these turns, with its number, its command and its reply
pub record IsLastKeptOrder (w : World) (turns : List Turn) (c : ℕ) (o : Session) : Type 0 where
  pub before : List Turn
  pub rest : List Turn
  pub order : turns ≡ before ++ Takes (Order c o.number o.command) ∷ rest
  pub last : AllByRecursion (IsNotBy c) (steps_of rest)
  pub replied : o.reply ≡ reply (led w before) (Order c o.number o.command)

-- After the turns, the world keeps for a client the reply to its last order among them. If the turns have no
-- order of the client, the world keeps the reply that it kept before.
abbrev pub KeepsLast : World → List Turn → ℕ → Type 0
KeepsLast w turns c =
    ((o : Session) × ((get (led w turns).sessions c ≡ Some o) × IsLastKeptOrder w turns c o))
    ⊎ ((get (led w turns).sessions c ≡ get w.sessions c) × AllByRecursion (IsNotBy c) (steps_of turns))
