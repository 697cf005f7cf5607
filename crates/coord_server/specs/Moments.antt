-- What a crash at any moment may leave on the disk while a store is served.
use Rattle.std.specs.Prelude.{◌≡◌, ℕ, true, List, [], ◌++◌}
use Rattle.atomic_table.specs.Seated.{TableId}
use Rattle.coord_disk.specs.Model.DiskModel.{DiskModel}
use Rattle.coord_disk.specs.Model.Moments.{LeavesOnly}
use Rattle.coord_types.specs.declared.steps.Step.{Step}
use Rattle.coord_store.specs.Kept.{Kept}
use Rattle.coord_world.specs.Facade.{World}
use Rattle.coord_admin.specs.Connections.{Talk}
use Rattle.coord_engine.specs.Facade.{Beginning, HasReadSettled, IsAfterSome, first_settled}
use Rattle.coord_engine.specs.State.{based_on}
use Rattle.coord_engine.specs.declared.closed.Closed.{Closed}
use Rattle.coord_server.specs.Ending.{IsInstance}
use Rattle.coord_server.specs.Instances.{HaveRested, InstanceRun, all_steps}
use Rattle.coord_server.specs.declared.instance.Instance.{Instance}

-- If the disk keeps the model, a crash at any moment between the two states of the store leaves bytes that give the world after a
-- prefix of these steps. The disk keeps the model now if it did before.
pub record KeepsAlong {D : Type 0} (m : DiskModel D) (first : Kept D) (steps : List Step) (now : Kept D) : Type 0 where
  pub same_model : m.keeps_model now.disk ≡ m.keeps_model first.disk
  pub moments : m.keeps_model first.disk ≡ true → LeavesOnly m first.disk now.disk (IsAfterSome first.world steps)

-- The settled steps of an instance are written in the history, after the steps of earlier instances.
abbrev pub HasWritten : {D : Type 0} → TableId → List Step → Closed D → Beginning → Type 0
HasWritten history earlier left written = HasReadSettled history earlier (first_settled left.base left.trail.items left.settled) written

-- Some instances rested, and then this instance ran over the store that they left. A crash at any moment between the first store
-- and the remaining one leaves bytes that give the world after a prefix of all steps that these instances accepted. The settled
-- steps are written in the history. `talked v talks w`: the callers were in the state v, had these talks, and then are in the
-- state w; `failed v w`: they were in the state v, and have failed
pub record HasLived {D : Type 0} (m : DiskModel D) {V : Type 0} (talked : V → List Talk → V → Type 0) (failed : V → V → Type 0) (most : ℕ) (first : Kept D) (v : V) (last : Instance D V) : Type 0 where
  pub rested : List (InstanceRun D V)
  pub world : World
  pub callers : V
  pub before : HaveRested m talked most first.world v rested world callers
  pub instance : IsInstance (based_on m world []) talked failed most callers last
  pub along : KeepsAlong m first (all_steps rested ++ last.closed.trail.items) last.closed.store
  pub written : last.writer.steps ≡ first_settled first.world (all_steps rested ++ last.closed.trail.items) last.closed.settled
