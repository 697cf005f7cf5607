-- The invariants of the types of a ledger and of a flight.
use Rattle.std.specs.Prelude.{◌≡◌, ℕ, ◌+◌, ◌≤◌, List, [], ◌∷◌, ◌++◌, map, length, Option, Some, None, IfSome, IfNone, Vec}
use Rattle.std.specs.List.{AllByRecursion}
use Rattle.std.specs.declared.alloc.Global.{Global}
use Rattle.coord_batch.specs.Batches.{IsNumbered}
use Rattle.coord_types.specs.declared.limits.TheConstants.{MAX_BATCH_STEPS}
use Rattle.coord_types.specs.declared.outputs.Output.{Output}
use Rattle.coord_types.specs.declared.steps.Kind.{Kind}
use Rattle.coord_types.specs.declared.steps.Step.{Step}
use Rattle.coord_store.specs.Facade.{AllFresh, Kept}
use Rattle.coord_world.specs.Facade.{World, fold, outs}
use Rattle.coord_ledger.specs.declared.mark.Mark.{Mark}
use Rattle.coord_ledger.specs.declared.mark.Mark.TheVariants.{New, Good, Torn}
use Rattle.coord_ledger.specs.declared.release.Release.{Release}
use Rattle.coord_ledger.specs.ledger.State.{FlightState}
use Rattle.coord_ledger.specs.machine.After.{release_of}
use Rattle.coord_ledger.specs.machine.Consistent.{FitsOut, IsConsistentLog}
use Rattle.coord_ledger.specs.machine.Log.{Log, front_world, kinds_of, pending, settled_world, world_after}

-- the outputs of these steps, one list for each step
abbrev pub outputs_of : World → List Step → List (List Output)
outputs_of w steps = map (λ r. r.outputs) (outs w steps)

abbrev pub listed : List (Vec Output Global) → List (List Output)
listed [] = []
listed (v ∷ vs) = v.items ∷ listed vs

-- the releases of steps with these outputs, if the steps are numbered from n on
abbrev pub released_from : ℕ → List (List Output) → List Release
released_from n [] = []
released_from n (given ∷ others) = map (release_of n) given ++ released_from (n + 1) others

-- The list got the first of these releases. The other releases, at least one, are lost.
pub record AddsSome (all old new : List Release) : Type 0 where
  pub added : List Release
  pub lost : List Release
  pub all_are : all ≡ added ++ lost
  pub now : new ≡ old ++ added
  pub some : 1 ≤ length lost

-- ---- a ledger

-- the number of steps in flight; `n` is meaningful only while the store is away
abbrev pub out_of : {D : Type 0} → Option (Kept D) → ℕ → Option ℕ
out_of None n = Some n
out_of (Some kept) n = None

abbrev pub disk_at : {D : Type 0} → Option (Kept D) → Option D
disk_at None = None
disk_at (Some kept) = Some kept.disk

-- the world that the commit of the steps in doubt tried to make
abbrev pub doubted : Log → Option ℕ → Option World
doubted log None = None
doubted log (Some b) = Some (world_after log (log.settled + b))

-- A store that is not in flight has the settled world. After a stop it also records the world in doubt.
pub record IsHome {D : Type 0} (log : Log) (kept : Kept D) : Type 0 where
  pub world_is : kept.world ≡ settled_world log
  pub torn_is : kept.torn ≡ doubted log log.doubt

-- While the store is away, the next `out` steps are in flight with it. The ledger has not stopped.
pub record IsAway (log : Log) (out : ℕ) : Type 0 where
  pub fits : FitsOut log out
  pub going : log.doubt ≡ None

pub record IsLedger {D : Type 0} (log : Log) (kinds : List Kind) (given : List (List Output)) (front settled : World) (out : ℕ) (store : Option (Kept D)) : Type 0 where
  pub consistent : IsConsistentLog log
  pub kinds_are : kinds ≡ kinds_of log.base log.trail
  pub given_is : given ≡ outputs_of (settled_world log) (pending log)
  pub front_is : front ≡ front_world log
  pub settled_is : settled ≡ settled_world log
  pub doubt_within : IfSome log.doubt (λ b. (1 ≤ b) × (log.settled + b ≤ length log.trail))
  pub home : IfSome store (IsHome log)
  pub away : IfNone store (IsAway log out)

-- ---- a flight

-- the world of a store in flight, if its flight left with this world and these steps, and now has this mark
abbrev pub carried_world : Mark → World → List Step → World
carried_world New w steps = w
carried_world Good w steps = fold w steps
carried_world Torn w steps = w

-- the world that the flight's torn commit tried to make; None if no commit was torn
abbrev pub carried_torn : Mark → World → List Step → Option World
carried_torn New w steps = None
carried_torn Good w steps = None
carried_torn Torn w steps = Some (fold w steps)

-- The parts of a flight fit together: its steps, its store and, if the world after the steps is already
-- computed, that world.
pub record IsFlight {D : Type 0} (steps : List Step) (world : World) (next : Option World) (mark : Mark) (kept : Kept D) : Type 0 where
  pub some : 1 ≤ length steps
  pub most : length steps ≤ MAX_BATCH_STEPS
  pub numbered : AllByRecursion IsNumbered steps
  pub fresh : AllFresh world world steps
  pub world_is : kept.world ≡ carried_world mark world steps
  pub torn_is : kept.torn ≡ carried_torn mark world steps
  pub next_is : IfSome next (λ v. v ≡ fold kept.world steps)

-- This is the store that the flight carries.
pub record IsCarried {D : Type 0} (f : FlightState D) (kept : Kept D) : Type 0 where
  pub some : 1 ≤ length f.steps
  pub disk_is : kept.disk ≡ f.disk
  pub world_is : kept.world ≡ carried_world f.mark f.world f.steps
  pub torn_is : kept.torn ≡ carried_torn f.mark f.world f.steps
