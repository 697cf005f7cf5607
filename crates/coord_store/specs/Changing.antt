-- The promises of a commit and a migration.
use Rattle.std.specs.Prelude.{◌≡◌, ◌≢◌, ◌⊎◌, ◌↔◌, ◌+◌, ◌≤◌, true, None, Some, List, ℕ, length, Result, IfErr, IsErrOf, OnOk}
use Rattle.coord_types.specs.declared.steps.Step.{Step}
use Rattle.coord_disk.specs.Model.DiskModel.{DiskModel}
use Rattle.coord_disk.specs.Model.Moments.{LeavesOnly, Runs}
use Rattle.coord_journal.specs.Text.{HasPlaceIn, IsTextIn}
use Rattle.coord_world.specs.Facade.{World, fold}
use Rattle.coord_store.specs.Faults.{failures_in}
use Rattle.coord_store.specs.Halves.{KeepsHalves}
use Rattle.coord_store.specs.Kept.{GivesEither, IsOnlyWorld, Kept, has_stopped}
use Rattle.coord_store.specs.Recovered.{IsBody}
use Rattle.coord_store.specs.declared.faults.CommitFault.{CommitFault}
use Rattle.coord_store.specs.declared.faults.CommitFault.TheVariants.{OutOfMemory, Device, Stopped}

-- The promises of a call that replaces a store's world by `next`. `device` is the fault that reports a failure
-- of the device. After this fault, the old or the new world may be on disk.
pub record Changes {D T E : Type 0} (m : DiskModel D) (next : World) (device : E) (old new : Kept D) (result : Result T E) : Type 0 where
  -- A crash at any moment of the call, even inside a checkpoint, leaves bytes that give the old or the new world.
  pub any_moment : m.keeps_model old.disk ≡ true → old.torn ≡ None → LeavesOnly m old.disk new.disk (GivesEither old.world next)
  -- If the call is refused and the device did not fail, a crash leaves only bytes that give the old world.
  pub any_moment_refused : m.keeps_model old.disk ≡ true → old.torn ≡ None → IfErr result (λ fault. fault ≢ device → LeavesOnly m old.disk new.disk (IsOnlyWorld old.world))
  pub world : OnOk result (new.world ≡ next)
  pub going : OnOk result (new.torn ≡ None)
  pub torn : IsErrOf result device → new.torn ≡ Some next
  pub same_world : IfErr result (λ fault. new.world ≡ old.world)
  pub halves : KeepsHalves m device old new result

-- The body of the batch fits into the free part of this half, on a disk that keeps the model. The store has
-- not stopped.
pub record FitsIn {D : Type 0} (m : DiskModel D) (half : ℕ) (steps : List Step) (store : Kept D) : Type 0 where
  pub keeps : m.keeps_model store.disk ≡ true
  pub going : store.torn ≡ None
  pub body : List ℕ
  pub spells : IsBody store.world body steps
  pub place : HasPlaceIn half (length body) (m.present store.disk).read

-- The promises for a commit of these steps.
pub record Commits {D T : Type 0} (m : DiskModel D) (steps : List Step) (old new : Kept D) (result : Result T CommitFault) : Type 0 where
  pub changes : Changes m (fold old.world steps) Device old new result
  pub runs : Runs m old.disk new.disk 8 (failures_in result)
  -- If the body of the batch fits, the commit makes no checkpoint.
  pub calls_where_it_fits : (half : ℕ) → FitsIn m half steps old → m.clock new.disk ≤ m.clock old.disk + 4
  pub half_where_it_fits : (half : ℕ) → FitsIn m half steps old → OnOk result (IsTextIn half (m.present new.disk).read)
  -- The reasons for a refusal, and the store after a refusal.
  pub stopped : IsErrOf result Stopped ↔ (has_stopped old ≡ true)
  pub fault : IfErr result (λ fault. (fault ≡ Stopped) ⊎ ((fault ≡ OutOfMemory) ⊎ (fault ≡ Device)))
  pub unchanged : IfErr result (λ fault. fault ≢ Device → new.torn ≡ old.torn)
  pub untouched : IsErrOf result Stopped → new ≡ old
