-- The effect of `migrate` on the named disk, whose content before and after may be known.
use Rattle.std.specs.Prelude.{◌≡◌, ◌⊎◌, ℕ, ◌+◌, true, List, Option, Some, IfSome, Result, Ok, Err}
use Rattle.coord_disk.specs.Model.Moments.{LeavesOnly}
use Rattle.coord_disk.specs.Model.DiskModel.{DiskModel}
use Rattle.coord_disk.specs.Model.Present.{Present, IsImage}
use Rattle.coord_store.specs.Facade.{GivesEither, IsOpenFault, Recovered, RefusesMigration, RefusesOpen, risen}
use Rattle.coord_store.specs.Refused.{failed_in as failed_in_store}
use Rattle.coord_store.specs.declared.faults.StoreFault.TheVariants.{Device, NotQuiet}
use Rattle.coord_world.specs.protocol.NumberedWorld.{World}
use Rattle.coord_commands.specs.Ending.{CommandEnds}
use Rattle.coord_commands.specs.Folders.{known_of}
use Rattle.coord_commands.specs.Printed.{migrated_line}
use Rattle.coord_commands.specs.Streams.{Streams}
use Rattle.coord_commands.specs.declared.fault.Fault.{Fault}
use Rattle.coord_commands.specs.declared.fault.Fault.TheVariants.{Write, OutOfMemory, Store}

-- If the bytes are known, a read of the disk returns the same bytes as before.
abbrev pub ReadsAsBefore : Option Present → Option Present → Type 0
ReadsAsBefore before after = IfSome before (λ old. IfSome after (λ new. new.read ≡ old.read))

-- The disk now gives its world in version 2. A disk that had version 2 is unchanged.
pub record IsRaised (before after : Option Present) (world : World) : Type 0 where
  pub given : IfSome before (λ old. Recovered old.read world)
  pub raised : IfSome after (λ new. Recovered new.read (risen world))
  pub again : world.version ≡ 2 → ReadsAsBefore before after

-- the printed line for a migrated store
pub record IsMigratedLine (before after : Option Present) (line : List ℕ) : Type 0 where
  pub world : World
  pub is_raised : IsRaised before after world
  pub counted : line ≡ migrated_line world.count

-- A crash before the migration could have left these bytes, or they give the disk's world in its old version
-- or in version 2.
abbrev pub IsEitherVersion : Present → List ℕ → Type 0
IsEitherVersion old image = IsImage old image ⊎ ((w : World) × Recovered old.read w × GivesEither w (risen w) image)

-- A crash after the migration leaves only bytes that satisfy `IsEitherVersion`.
abbrev pub GivesEitherVersion : Option Present → Option Present → Type 0
GivesEitherVersion before after = IfSome before (λ old. IfSome after (λ new. (image : List ℕ) → IsImage new image → IsEitherVersion old image))

-- A migration of a disk. A crash at any moment of the migration leaves only bytes that satisfy
-- `IsEitherVersion`, and the device failed this many times.
pub record Raises {D : Type 0} (model : DiskModel D) (failed : ℕ) (old new : D) : Type 0 where
  pub any_moment : model.keeps_model old ≡ true → LeavesOnly model old new (IsEitherVersion (model.present old))
  pub failures : model.failures new ≡ model.failures old + failed

-- The named disk was taken, its store was migrated (`Raises`), and the disk was put back.
pub record RaisesNamed {D : Type 0} (model : DiskModel D) (failed : ℕ) (before after : Option Present) : Type 0 where
  pub taken : D
  pub back : D
  pub was : known_of model taken ≡ before
  pub is : IfSome after (λ known. known_of model back ≡ Some known)
  pub raises : Raises model failed taken back

-- The migration is refused because of this node, which has the lowest number among the nodes in a reset. The
-- disk is unchanged.
pub record IsNotQuiet (before after : Option Present) (node : ℕ) : Type 0 where
  pub world : World
  pub given : IfSome before (λ old. Recovered old.read world)
  pub refuses : RefusesMigration world (NotQuiet node)
  pub unchanged : ReadsAsBefore before after

-- The store was not migrated because of this fault. Unless the device failed, the disk is unchanged.
abbrev pub IsOfRaising : Option Present → Option Present → Fault → Type 0
IsOfRaising before after OutOfMemory = ReadsAsBefore before after
IsOfRaising before after (Store Device) = GivesEitherVersion before after
IsOfRaising before after (Store (NotQuiet node)) = IsNotQuiet before after node
IsOfRaising before after (Store fault) = IsOpenFault fault × IfSome before (λ old. RefusesOpen old.read fault) × ReadsAsBefore before after
IsOfRaising before after fault = ⊥

-- The faults of `migrate`. If the line can't be written, the store was migrated.
abbrev pub IsOfMigrating : Option Present → Option Present → Fault → Type 0
IsOfMigrating before after Write = (w : World) × IsRaised before after w
IsOfMigrating before after OutOfMemory = ReadsAsBefore before after ⊎ ((w : World) × IsRaised before after w)
IsOfMigrating before after fault = IsOfRaising before after fault

-- the number of device failures that this fault of a migration implies
abbrev pub failed_in_migration : Fault → ℕ
failed_in_migration (Store fault) = failed_in_store fault
failed_in_migration fault = 0

abbrev pub failures_in_migration : {A : Type 0} → Result A Fault → ℕ
failures_in_migration (Ok line) = 0
failures_in_migration (Err fault) = failed_in_migration fault

-- The named disk was unavailable, or it was taken and put back.
abbrev pub EndsRaising : {D : Type 0} → DiskModel D → Option Present → Option Present → Fault → Type 0
EndsRaising model before after fault =
    ((fault ≡ Store Device) × (after ≡ before)) ⊎ RaisesNamed model (failed_in_migration fault) before after

-- The end of `migrate`, and the bytes that a crash may have left on the named disk at each moment of the
-- command.
abbrev pub EndsMigrating : {D : Type 0} → DiskModel D → Option Present → Option Present → ℕ → Streams → Streams → Type 0
EndsMigrating model before after =
    CommandEnds (λ fault. IsOfMigrating before after fault × EndsRaising model before after fault) (λ line. IsMigratedLine before after line × RaisesNamed model 0 before after)

-- the reasons why an opened store is not migrated
abbrev pub RefusesRaising : World → Fault → Type 0
RefusesRaising w OutOfMemory = Unit {0}
RefusesRaising w (Store fault) = RefusesMigration w fault
RefusesRaising w fault = ⊥
