-- The main theorem of the server: its run, from the store that it is given to the store that it returns.
--
-- A server has instances, one after another, each with its own engine. In each instance a desk serves the
-- connections of the callers, and answers as its engine can. The steps that all instances accepted are one
-- trail from the world of the first store. The settled steps are a prefix of it, and the returned store has
-- the world after them. A crash at any moment in between leaves the world after the first n accepted steps,
-- for some n. The output gets the line of an address, and then only lines of signals that settled steps send,
-- in order; if the output fails, also a prefix of one more line.
--
-- `AreInstances` defines how one instance follows another, how each was served and how it ended. Two laws
-- state consequences: `InstancesAreOne`, that steps and signals are numbered as one history; and
-- `RunAnswersFromOneHistory`, that each reply and each view follows from a prefix of that history.
--
-- `model` is the model of the disk. `talked` and `failed` describe the callers. An instance ends after `most`
-- steps. `contents` are the bytes that an output holds, if they are known. `gives` defines which signals a
-- list of steps sends, by step, node and epoch.
use Rattle.std.specs.Prelude.{◌≡◌, ⊤, ℕ, ◌+◌, ◌≤◌, List, Option, length}
use Rattle.coord_disk.specs.Model.DiskModel.{DiskModel}
use Rattle.coord_types.specs.declared.steps.Step.{Step}
use Rattle.coord_store.specs.Kept.{Kept}
use Rattle.coord_world.specs.laws.Trails.{IsTrail}
use Rattle.coord_world.specs.Facade.{fold}
use Rattle.coord_admin.specs.Connections.{Talk}
use Rattle.coord_admin.specs.Times.{IsUsual}
use Rattle.coord_admin.specs.declared.timeouts.Timeouts.{Timeouts}
use Rattle.coord_engine.specs.Facade.{first_settled}
use Rattle.coord_server.specs.Instances.{AreInstances, HasFaultForCause, InstanceRun, all_steps, instance_steps}
use Rattle.coord_server.specs.Moments.{KeepsAlong}
use Rattle.coord_server.specs.Printed.{IsPrinted, PrinterState}
use Rattle.coord_server.specs.declared.server_end.ServerEnd.{ServerEnd}

pub record ServerRun {D V W : Type 0} (model : DiskModel D) (talked : V → List Talk → V → Type 0) (failed : V → V → Type 0) (most : ℕ) (contents : W → Option (List ℕ)) (gives : List Step → ℕ → ℕ → ℕ → Type 0) (store : Kept D) (v : V) (printer : PrinterState W) (ended : ServerEnd D V W) : Type 0 where
  -- the instances, in order
  pub instances : List (InstanceRun D V)
  pub served : AreInstances model talked failed most store.world v instances ended.served ended.closed ended.callers
  -- the steps that the instances accepted are one trail, and the settled steps are a prefix of it
  pub trail : IsTrail store.world (all_steps instances)
  pub counted : (store.world.count ≤ ended.closed.settled) × (ended.closed.settled ≤ store.world.count + length (all_steps instances))
  pub settled : ended.closed.store.world ≡ fold store.world (first_settled store.world (all_steps instances) ended.closed.settled)
  -- a crash at any moment leaves the world after the first n of these steps, for some n
  pub along : KeepsAlong model store (all_steps instances) ended.closed.store
  -- the content of the output
  pub printed : IsPrinted contents (gives (first_settled store.world (all_steps instances) ended.closed.settled)) printer ended.printer
  -- the cause of the server's fault
  pub cause : HasFaultForCause most ended

-- The run of a server over a store, with instances of the usual length.
abbrev pub HasServed : {D V W : Type 0} → DiskModel D → (V → List Talk → V → Type 0) → (V → V → Type 0) → (W → Option (List ℕ)) → (List Step → ℕ → ℕ → ℕ → Type 0) → Kept D → V → PrinterState W → ServerEnd D V W → Type 0
HasServed model talked failed contents gives store v printer ended = ServerRun model talked failed instance_steps contents gives store v printer ended

-- The run of a server over the connections of a listener, with the usual timeouts for its clients.
abbrev pub HasServedUsual : {D W : Type 0} → DiskModel D → (W → Option (List ℕ)) → (List Step → ℕ → ℕ → ℕ → Type 0) → Kept D → PrinterState W → ServerEnd D Timeouts W → Type 0
HasServedUsual {D} {W} model contents gives store printer ended = (callers : Timeouts) × IsUsual callers × HasServed model (λ _ _ _. ⊤) (λ _ _. ⊤) contents gives store callers printer ended
