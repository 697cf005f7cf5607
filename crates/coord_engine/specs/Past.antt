-- The state of the engine's disk when the engine was created, and what a crash may have left on it since: only
-- images of worlds after a prefix of the accepted steps.
use Rattle.std.specs.Prelude.{◌≡◌, ◌⊎◌, ℕ, ◌+◌, ◌≤◌, Bool, false, true, List, ◌++◌, Option, Some, None, Result, length, take, IsErrOf}
use Rattle.coord_disk.specs.Model.DiskModel.{DiskModel}
use Rattle.coord_disk.specs.Model.Moments.{LeavesOnly}
use Rattle.atomic_table.specs.Seated.{TableId}
use Rattle.coord_types.specs.declared.steps.Step.{Step}
use Rattle.coord_store.specs.Facade.{GivesEither, IsOnlyWorld, Recovered}
use Rattle.coord_store.specs.declared.faults.CommitFault.{CommitFault}
use Rattle.coord_store.specs.declared.faults.CommitFault.TheVariants.{OutOfMemory}
use Rattle.coord_world.specs.laws.Trails.{IsTrail}
use Rattle.coord_world.specs.Facade.{World, fold}
use Rattle.coord_ledger.specs.declared.mark.Mark.{Mark}
use Rattle.coord_ledger.specs.declared.mark.Mark.TheVariants.{New, Good, Torn}
use Rattle.coord_ledger.specs.Facade.{FlightState, Log, settled_steps}
use Rattle.coord_engine.specs.MonotoneLog.{Beginning}
use Rattle.coord_engine.specs.Released.{HasReadSettled}

-- The state of a disk at one moment, kept for comparison: whether the disk kept the model, the time of that
-- moment, and the images that a crash could have left since each earlier time. The type does not mention the
-- disk's type, so it can be ghost state of an engine's name.
pub record Past : Type 1 where
  pub keeps_model : Bool
  pub clock : ℕ
  pub left_since : ℕ → List ℕ → Type 0

-- a placeholder: the past of an engine without a disk
abbrev pub no_past : Past
no_past = record { keeps_model = false; clock = 0; left_since = λ t image. ⊥ }

-- the past of a disk, taken from its present state
abbrev pub past_of : {D : Type 0} → DiskModel D → D → Past
past_of m disk = record { keeps_model = m.keeps_model disk; clock = m.clock disk; left_since = m.left_since disk }

-- the past of a ledger's disk, or `no_past` while the disk is away
abbrev pub past_in : {D : Type 0} → DiskModel D → Option D → Past
past_in m None = no_past
past_in m (Some disk) = past_of m disk

-- The disk's past is `first`.
pub record IsPastOf {D : Type 0} (m : DiskModel D) (first : Past) (disk : D) : Type 0 where
  pub model : first.keeps_model ≡ m.keeps_model disk
  pub clock : first.clock ≡ m.clock disk
  pub left : (t : ℕ) (image : List ℕ) → m.left_since disk t image → first.left_since t image
  pub no_more : (t : ℕ) (image : List ℕ) → first.left_since t image → m.left_since disk t image

-- These bytes give a world on the way from `base` to `end`: the world after a prefix of a trail that leads
-- from `base` to `end`. Each world on a trail is legal.
pub record IsOnTheWay (base end : World) (bytes : List ℕ) : Type 0 where
  pub steps : List Step
  pub others : List Step
  pub trail : IsTrail base (steps ++ others)
  pub leads : fold base (steps ++ others) ≡ end
  pub recovered : Recovered bytes (fold base steps)

-- Since the disk was in the state `first`, a crash at any moment has left only bytes for which P holds. This
-- is `LeavesOnly` from the state `first` on.
pub record HasLeft {D : Type 0} (m : DiskModel D) (first : Past) (now : D) (P : List ℕ → Type 0) : Type 0 where
  pub later : first.clock ≤ m.clock now
  pub each : (image : List ℕ) → m.left_since now first.clock image → P image
  pub before : (t : ℕ) (image : List ℕ) → t ≤ first.clock → m.left_since now t image → first.left_since t image ⊎ P image

-- These bytes give the world after a prefix of these steps.
pub record IsAfterSome (base : World) (steps : List Step) (bytes : List ℕ) : Type 0 where
  pub number : ℕ
  pub within : number ≤ length steps
  pub recovered : Recovered bytes (fold base (take number steps))

-- The world after a prefix of a trail is on the way from the trail's base to the world after the whole trail.
abbrev pub AfterSomeIsOnTheWay : Type 0
AfterSomeIsOnTheWay = (base : World) (steps : List Step) (bytes : List ℕ) → IsTrail base steps → IsAfterSome base steps bytes → IsOnTheWay base (fold base steps) bytes

-- The disk keeps the model if and only if it did in the state `first`. If it did, a crash at any moment since
-- then has left only worlds after a prefix of these steps.
pub record StaysAlong {D : Type 0} (m : DiskModel D) (first : Past) (base : World) (steps : List Step) (now : D) : Type 0 where
  pub same_model : m.keeps_model now ≡ first.keeps_model
  pub moments : first.keeps_model ≡ true → HasLeft m first now (IsAfterSome base steps)

-- the steps of a ledger that may be on its disk: the settled steps and, if the ledger has stopped, the steps
-- in doubt
abbrev pub last_steps : Log → Option ℕ → List Step
last_steps log None = settled_steps log
last_steps log (Some b) = take (log.settled + b) log.trail

-- the steps that may be on a flight's disk: the steps that were settled when the flight left and, once the
-- flight is not new, its own steps
abbrev pub flown_steps : Mark → List Step → List Step → List Step
flown_steps New settled steps = settled
flown_steps Good settled steps = settled ++ steps
flown_steps Torn settled steps = settled ++ steps

-- A flight left when these steps were settled. Since `first`, a crash of its disk has left only worlds after a
-- prefix of the steps that may be on the disk.
pub record FliesFrom {D : Type 0} (m : DiskModel D) (first : Past) (base : World) (settled : List Step) (f : FlightState D) : Type 0 where
  pub number : f.first ≡ base.count + length settled + 1
  pub world : f.world ≡ fold base settled
  pub along : StaysAlong m first base (flown_steps f.mark settled f.steps) f.disk

-- A flight left when some steps were settled. The token has read the earlier steps of this history and then
-- these settled steps.
pub record FliesAfter {D : Type 0} (m : DiskModel D) (history : TableId) (earlier : List Step) (first : Past) (base : World) (read : Beginning) (f : FlightState D) : Type 0 where
  pub settled : List Step
  pub read_them : HasReadSettled history earlier settled read
  pub flies : FliesFrom m first base settled f

-- The result of committing a new flight. Its disk keeps the model as before. A crash at any moment of the call
-- left the world before the flight's steps or the world after them; if memory ran out, only the world before
-- them.
pub record LeavesFlown {D : Type 0} (m : DiskModel D) (left now : FlightState D) (answer : Result (Unit {0}) CommitFault) : Type 0 where
  pub same_model : m.keeps_model now.disk ≡ m.keeps_model left.disk
  pub moments : m.keeps_model left.disk ≡ true → LeavesOnly m left.disk now.disk (GivesEither left.world (fold left.world left.steps))
  pub unwritten : m.keeps_model left.disk ≡ true → IsErrOf answer OutOfMemory → LeavesOnly m left.disk now.disk (IsOnlyWorld left.world)
