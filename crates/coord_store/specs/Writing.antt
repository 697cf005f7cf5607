-- The promises of the parts of a commit: for the journal that holds the store's world, and for the store.
use Rattle.std.specs.Prelude.{◌≡◌, ◌≢◌, ◌⊎◌, true, false, ℕ, Option, Some, Result, Ok, Err, IfErr, IsErrOf, OnOk}
use Rattle.coord_disk.specs.Model.DiskModel.{DiskModel}
use Rattle.coord_disk.specs.Model.Moments.{LeavesOnly, Runs}
use Rattle.coord_journal.specs.Facade.{disk_of, half_size_of, has_stopped}
use Rattle.coord_journal.specs.declared.journal.Journal.{Journal}
use Rattle.coord_world.specs.Facade.{World}
use Rattle.coord_store.specs.Faults.{failures_in}
use Rattle.coord_store.specs.Kept.{GivesEither, Holds, IsOnlyWorld}
use Rattle.coord_store.specs.declared.faults.CommitFault.{CommitFault}
use Rattle.coord_store.specs.declared.faults.CommitFault.TheVariants.{OutOfMemory, Device}

-- The promises of writing the world `next` to a journal that holds the world `w`.
pub record Follows {D T : Type 0} (m : DiskModel D) (w next : World) (old new : Journal D) (result : Result T CommitFault) : Type 0 where
  pub any_moment : LeavesOnly m (disk_of old) (disk_of new) (GivesEither w next)
  pub done : OnOk result (Holds m new next)

-- The promises of such a write if it is refused and the device did not fail: the journal still holds the old
-- world, and a crash leaves no other world.
pub record Stays {D T : Type 0} (m : DiskModel D) (w : World) (old new : Journal D) (result : Result T CommitFault) : Type 0 where
  pub any_moment : IfErr result (λ fault. fault ≢ Device → LeavesOnly m (disk_of old) (disk_of new) (IsOnlyWorld w))
  pub held : IfErr result (λ fault. fault ≢ Device → Holds m new w)

-- The promises of such a write, whatever the journal holds: the number of device calls and device failures,
-- and the journal afterwards.
pub record Ends {D T : Type 0} (m : DiskModel D) (most : ℕ) (old new : Journal D) (result : Result T CommitFault) : Type 0 where
  pub runs : Runs m (disk_of old) (disk_of new) most (failures_in result)
  pub half_size : half_size_of new ≡ half_size_of old
  pub fault : IfErr result (λ fault. (fault ≡ OutOfMemory) ⊎ (fault ≡ Device))
  pub going : OnOk result (has_stopped new ≡ false)
  pub still : IfErr result (λ fault. fault ≢ Device → has_stopped new ≡ false)
  pub device : IsErrOf result Device → has_stopped new ≡ true

-- The store after an attempt to replace its world by `next`: the value of its world, and the world that a torn
-- commit tried to make.
pub record Concludes {T : Type 0} (next w v : World) (was now : Option World) (written : Result T CommitFault) : Type 0 where
  pub world : OnOk written (v ≡ next)
  pub same_world : IfErr written (λ fault. v ≡ w)
  pub torn : IsErrOf written Device → now ≡ Some next
  pub same_torn : OnOk written (now ≡ was)
  pub unchanged : IfErr written (λ fault. fault ≢ Device → now ≡ was)

-- the same result, but with this world on success
abbrev pub with_world : {T E : Type 0} → World → Result T E → Result World E
with_world w (Ok value) = Ok w
with_world w (Err fault) = Err fault
