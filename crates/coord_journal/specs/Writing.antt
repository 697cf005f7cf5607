-- The promises that an append and a replace have in common.
use Rattle.std.specs.Prelude.{◌≡◌, ◌≢◌, ◌↔◌, true, false, Result, IfErr, IsErrOf, OnOk}
use Rattle.coord_disk.specs.Model.DiskModel.{DiskModel}
use Rattle.coord_disk.specs.Model.Moments.{LeavesOnly, Runs}
use Rattle.coord_journal.specs.Faults.{IsWriteFault, failures_in}
use Rattle.coord_journal.specs.Journal.{IsReady, disk_of, half_size_of, has_stopped}
use Rattle.coord_journal.specs.Text.{Content, IsEitherText}
use Rattle.coord_journal.specs.declared.fault.JournalFault.{JournalFault}
use Rattle.coord_journal.specs.declared.fault.JournalFault.TheVariants.{Device, Stopped}
use Rattle.coord_journal.specs.declared.journal.Journal.{Journal}

-- The journal is ready with the content `before`, and the call replaces this content by `after`.
pub record Rewrites {D T : Type 0} (m : DiskModel D) (before after : Content) (old new : Journal D) (result : Result T JournalFault) : Type 0 where
  -- A crash at any moment of the call leaves the text of `before` or of `after`.
  pub any_moment : LeavesOnly m (disk_of old) (disk_of new) (IsEitherText before after)
  -- Once the call has returned Ok, the disk holds the text of `after`, completely synced.
  pub done : OnOk result (IsReady m new after)

-- The result of an append or a replace: the cause of each fault, and the state of the journal after the call.
pub record Answers {D T : Type 0} (m : DiskModel D) (old new : Journal D) (result : Result T JournalFault) : Type 0 where
  pub runs : Runs m (disk_of old) (disk_of new) 4 (failures_in result)
  pub half_size : half_size_of new ≡ half_size_of old
  pub stopped : IsErrOf result Stopped ↔ (has_stopped old ≡ true)
  pub fault : IfErr result IsWriteFault
  pub device : IsErrOf result Device → has_stopped new ≡ true
  pub going : OnOk result (has_stopped new ≡ false)
  pub unchanged : IfErr result (λ fault. fault ≢ Device → new ≡ old)
