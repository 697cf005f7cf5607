-- The releases of a flight, with a token that has read the settled step of each signal among them.
use Rattle.std.specs.Prelude.{◌≡◌, ℕ, ◌-◌, List, ◌∷◌, ◌++◌, take}
use Rattle.atomic_table.specs.Seated.{TableId}
use Rattle.coord_types.specs.declared.outputs.Output.TheVariants.{Signalled}
use Rattle.coord_types.specs.declared.steps.Step.{Step}
use Rattle.coord_world.specs.Facade.{World, outs}
use Rattle.coord_ledger.specs.declared.release.Release.{Release}
use Rattle.coord_ledger.specs.machine.After.{release_of, releases_of}
use Rattle.coord_engine.specs.MonotoneLog.{Beginning}
use Rattle.coord_engine.specs.Port.{MayAskAll}

-- If these steps are accepted from the world `base` on, the step with the number `step` sends this signal.
pub record GivesSignal (base : World) (steps : List Step) (step node epoch : ℕ) : Type 0 where
  pub before : List Release
  pub after : List Release
  pub given : releases_of (outs base steps) ≡ before ++ release_of step (Signalled node epoch) ∷ after

-- The token has read exactly the earlier steps of this history and then the settled steps of the present
-- instance.
abbrev pub HasReadSettled : TableId → List Step → List Step → Beginning → Type 0
HasReadSettled history earlier settled read = read ≡ record { history = history; steps = earlier ++ settled }

-- the settled steps of a trail that starts at this world; `settled` counts all settled steps, including the
-- steps that led to this world
abbrev pub first_settled : World → List Step → ℕ → List Step
first_settled base trail settled = take (settled - base.count) trail

-- Each signal among these releases was sent by a settled step that the token has read.
pub record AreOfSettled (history : TableId) (earlier : List Step) (base : World) (read : Beginning) (released : List Release) : Type 0 where
  pub settled : List Step
  pub read_them : HasReadSettled history earlier settled read
  pub given : MayAskAll (GivesSignal base settled) released

-- The holder of a token may request each signal among these releases from the port, if the token has read the
-- settled step that sends the signal.
abbrev pub MayHand : TableId → List Step → World → (Beginning → ℕ → ℕ → ℕ → Type 0) → List Release → Type 0
MayHand history earlier base may released = (read : Beginning) → AreOfSettled history earlier base read released → MayAskAll (may read) released

-- The holder of a token may request a settled step's signals from a port, if the token has read the step.
-- `may` has the permitted signals, by the steps read, the step, the node and the epoch.
abbrev pub MayPrint : TableId → List Step → World → (Beginning → ℕ → ℕ → ℕ → Type 0) → Type 0
MayPrint history earlier base may =
    (settled : List Step) (step node epoch : ℕ) → GivesSignal base settled step node epoch → may (record { history = history; steps = earlier ++ settled }) step node epoch
