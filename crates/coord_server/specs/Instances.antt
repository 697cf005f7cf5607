-- The instances of a server, one after another. Each is one history over the store that the previous one left.
use Rattle.std.specs.List.{range_with_len}
use Rattle.std.specs.Prelude.{◌≡◌, ◌⊎◌, ℕ, ◌+◌, ◌-◌, ◌≤◌, List, [], ◌∷◌, ◌++◌, false, true, Option, Some, flat_map, length, map, take}
use Rattle.coord_disk.specs.Model.DiskModel.{DiskModel}
use Rattle.coord_types.specs.declared.steps.Step.{Step}
use Rattle.coord_store.specs.Kept.{Kept, has_stopped}
use Rattle.coord_world.specs.laws.Trails.{IsTrail}
use Rattle.coord_world.specs.Facade.{StepOutcome, World, fold, outs}
use Rattle.coord_admin.specs.Connections.{Talk}
use Rattle.coord_engine.specs.Facade.{StartsWith, first_settled}
use Rattle.coord_engine.specs.State.{Basis, based_on}
use Rattle.coord_engine.specs.declared.closed.Closed.{Closed}
use Rattle.coord_server.specs.EngineDesk.{DeskState}
use Rattle.coord_server.specs.Ending.{IsLeftAs, IsOneHistory, Local, ServedWhileOpen, Serves}
use Rattle.coord_server.specs.declared.fault.ServerFault.{ServerFault}
use Rattle.coord_server.specs.declared.fault.ServerFault.TheVariants as fault
use Rattle.coord_server.specs.declared.instance_end.InstanceEnd.{InstanceEnd}
use Rattle.coord_server.specs.declared.instance_end.InstanceEnd.TheVariants as end
use Rattle.coord_server.specs.declared.server_end.ServerEnd.{ServerEnd}

-- How a server ends, given the end of its last instance. An instance that rests is the last one if its store can't continue.
abbrev pub IsLastInstance : InstanceEnd → Option ServerFault → Type 0
IsLastInstance end.Resting served = served ≡ Some fault.Device
IsLastInstance end.Unfollowed served = served ≡ Some fault.OutOfMemory
IsLastInstance end.Unprinted served = (served ≡ Some fault.OutOfMemory) ⊎ (served ≡ Some fault.Write)
IsLastInstance (end.Ended why) served = served ≡ why

-- The next instance may begin over the parts of a resting one: the store has not stopped, all accepted steps are settled, and
-- there are at least `most` of them.
abbrev pub MayGoOn : {D : Type 0} → ℕ → Closed D → Type 0
MayGoOn most left = (has_stopped left.store ≡ false) × (left.settled ≡ left.base.count + length left.trail.items) × (most ≤ length left.trail.items)

-- The causes of a server's fault. The fault is `Write` only if the output has failed, and `Device` only if no next instance could
-- begin.
abbrev pub HasFaultForCause : {D V W : Type 0} → ℕ → ServerEnd D V W → Type 0
HasFaultForCause most ended = (ended.served ≡ Some fault.Write → ended.printer.is_broken ≡ true) × (ended.served ≡ Some fault.Device → ¬ MayGoOn most ended.closed)

-- the number of steps after which an instance ends (docs/OPERATING.md)
abbrev pub instance_steps : ℕ
instance_steps = 262144

-- One instance: its desk's port, its desk at the end, the remaining parts of its engine, and the callers at the end.
pub record InstanceRun (D V : Type 0) : Type 0 where
  pub port : Local
  pub desk : DeskState Local
  pub left : Closed D
  pub callers : V

-- the steps that these instances accepted, one instance after another
abbrev pub all_steps : {D V : Type 0} → List (InstanceRun D V) → List Step
all_steps instances = flat_map (λ l. l.left.trail.items) instances

-- the replies and outputs of these steps, where each instance starts from the world that it began with
abbrev pub all_given : {D V : Type 0} → List (InstanceRun D V) → List StepOutcome
all_given instances = flat_map (λ l. outs l.left.base l.left.trail.items) instances

-- `talked v talks w`: the callers were in the state v, had these talks, and then are in the state w. `most`:
-- the number of steps of an instance
module _ {D : Type 0} (m : DiskModel D) {V : Type 0} (talked : V → List Talk → V → Type 0) (most : ℕ) where
  -- the basis of an instance that began over a store with this world
  abbrev pub begun_over : World → Basis D
  begun_over world = based_on m world []

  -- An instance over this world that rests: no caller has closed it, and it has at least `most` steps. It is one history, all its
  -- accepted steps are settled, and its store has not stopped. Its desk's answers follow from a prefix of the settled steps. The
  -- next instance begins over the world of its store.
  pub record Rests (began : World) (v : V) (instance : InstanceRun D V) : Type 0 where
    pub served : ServedWhileOpen (begun_over began) talked most instance.port v instance.callers instance.desk
    pub old : most ≤ length instance.left.trail.items
    pub history : IsOneHistory (begun_over began) instance.desk instance.left
    pub all_settled : instance.left.settled ≡ instance.left.base.count + length instance.left.trail.items
    pub going : has_stopped instance.left.store ≡ false
    pub returned : StartsWith (first_settled instance.left.base instance.left.trail.items instance.left.settled) instance.desk.read

  -- Resting instances, each of which began where the previous one ended. `next` and `w` are the world and the
  -- callers after the last one.
  abbrev pub HaveRested : World → V → List (InstanceRun D V) → World → V → Type 0
  HaveRested began v [] next w = (next ≡ began) × (w ≡ v)
  HaveRested began v (instance ∷ later) next w = Rests began v instance × HaveRested instance.left.store.world instance.callers later next w

-- `failed v w`: the callers were in the state v, and have failed
module _ {D : Type 0} (m : DiskModel D) {V : Type 0} (talked : V → List Talk → V → Type 0) (failed : V → V → Type 0) (most : ℕ) where
  -- The last instance of a server, which began over this world and ended like this. Its desk served until then, with answers that
  -- follow from settled steps. Its engine was taken apart into these parts.
  pub record IsLast (began : World) (v : V) (instance : InstanceRun D V) (why : Option ServerFault) : Type 0 where
    pub served : Serves (based_on m began []) talked failed most instance.port v instance.callers instance.desk why
    pub history : IsLeftAs (based_on m began []) instance.desk instance.left why
    pub returned : StartsWith (first_settled instance.left.base instance.left.trail.items instance.left.settled) instance.desk.read

  -- The instances of a server that ended for this reason, with these remaining parts. Each instance except the last rests, and
  -- the next instance begins where it ended.
  abbrev pub AreInstances : World → V → List (InstanceRun D V) → Option ServerFault → Closed D → V → Type 0
  AreInstances began v [] why left callers = ⊥
  AreInstances began v (instance ∷ []) why left callers = IsLast began v instance why × (instance.left ≡ left) × (instance.callers ≡ callers)
  AreInstances began v (instance ∷ next ∷ later) why left callers = Rests m talked most began v instance × AreInstances instance.left.store.world instance.callers (next ∷ later) why left callers

-- The instances over the world of the first store are one history. The last one left this store and this number of settled steps.
-- The steps of all instances are one trail from that world, and each instance began with the world after the steps of the
-- instances before it. The outputs of the instances are the outputs of that trail. Each step has its own number, so no step, and
-- no signal of a step, belongs to two instances. The store has the world after all settled steps, which are a prefix of the
-- trail.
pub record AreOneHistory {D V : Type 0} (began : World) (instances : List (InstanceRun D V)) (store : Kept D) (settled : ℕ) : Type 0 where
  pub trail : IsTrail began (all_steps instances)
  pub follow : (before rest : List (InstanceRun D V)) (instance : InstanceRun D V) → instances ≡ before ++ instance ∷ rest → instance.left.base ≡ fold began (all_steps before)
  pub given : all_given instances ≡ outs began (all_steps instances)
  pub numbered : map (λ o. o.reply.step) (all_given instances) ≡ range_with_len (began.count + 1) (length (all_steps instances))
  pub least : began.count ≤ settled
  pub most : settled ≤ began.count + length (all_steps instances)
  pub world : store.world ≡ fold began (take (settled - began.count) (all_steps instances))

-- The instances of a server are one history.
abbrev pub InstancesAreOne : {D : Type 0} → DiskModel D → {V : Type 0} → (V → List Talk → V → Type 0) → (V → V → Type 0) → ℕ → Type 0
InstancesAreOne {D} m {V} talked failed most =
    (began : World) (v w : V) (instances : List (InstanceRun D V)) (why : Option ServerFault) (left : Closed D) → AreInstances m talked failed most began v instances why left w → AreOneHistory began instances left.store left.settled
