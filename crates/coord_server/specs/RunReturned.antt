-- All answers of a server, over all connections of its instances, follow from its one history.
--
-- Each answer follows from the first n settled steps of all instances. The number n never decreases along a connection, or from
-- one connection or instance to the next. A view shows the world of the store after these n steps. A reply is the one that the
-- order's own step got among them, or the one that the store kept for the order. Two things are not stated here: how many
-- accepted steps a view counts, and why an order was refused.
use Rattle.std.specs.Prelude.{◌≡◌, ◌⊎◌, ℕ, List, [], ◌∷◌, ◌++◌, Option}
use Rattle.coord_disk.specs.Model.DiskModel.{DiskModel}
use Rattle.coord_types.specs.declared.steps.Step.{Step}
use Rattle.coord_store.specs.Kept.{Kept}
use Rattle.coord_world.specs.Facade.{World, fold}
use Rattle.coord_admin.specs.Connections.{Connection, Talk, talks}
use Rattle.coord_engine.specs.Facade.{StartsWith, first_settled}
use Rattle.coord_server.specs.InOrder.{AllInOrder}
use Rattle.coord_server.specs.Instances.{InstanceRun, all_steps}
use Rattle.coord_server.specs.Printed.{PrinterState}
use Rattle.coord_server.specs.ServerRun.{ServerRun}
use Rattle.coord_server.specs.declared.server_end.ServerEnd.{ServerEnd}

-- `talked v talks w`: the callers were in the state v, had these talks, and then are in the state w. `failed
-- v w`: they were in the state v, and have failed
module _ {V : Type 0} (talked : V → List Talk → V → Type 0) (failed : V → V → Type 0) where
  -- The callers had these connections, and then may have failed.
  pub record HadConnections (v : V) (connections : List Connection) (w : V) : Type 0 where
    pub last : V
    pub talks : talked v (talks connections) last
    pub ended : (w ≡ last) ⊎ failed last w

  -- `connections` are the connections of these instances, in order.
  abbrev pub AreConnectionsOf : {D : Type 0} → V → List (InstanceRun D V) → List Connection → Type 0
  AreConnectionsOf v [] connections = connections ≡ []
  AreConnectionsOf v (instance ∷ later) connections = (own : List Connection) × (rest : List Connection) × (connections ≡ own ++ rest) × HadConnections v own instance.callers × AreConnectionsOf instance.callers later rest

-- Each instance began with the world after the steps of the instances before it. Those steps, followed by the steps that its desk
-- has read, are a prefix of the settled steps.
abbrev pub EachReads : {D V : Type 0} → World → List Step → List Step → List (InstanceRun D V) → Type 0
EachReads world settled before [] = Unit {0}
EachReads world settled before (instance ∷ later) = (instance.left.base ≡ fold world before) × StartsWith settled (before ++ instance.desk.read) × EachReads world settled (before ++ instance.left.trail.items) later

-- All answers over the connections of these instances, which began over this world, follow from these settled steps.
pub record AnswersFromOneHistory {D V : Type 0} (talked : V → List Talk → V → Type 0) (failed : V → V → Type 0) (world : World) (settled : List Step) (v : V) (instances : List (InstanceRun D V)) : Type 0 where
  pub connections : List Connection
  pub had : AreConnectionsOf talked failed v instances connections
  pub returned : AllInOrder world [] connections settled
  pub reads : EachReads world settled [] instances

-- In each run of a server, all answers follow from the settled steps of its instances.
abbrev pub RunAnswersFromOneHistory : {D V W : Type 0} → DiskModel D → (V → List Talk → V → Type 0) → (V → V → Type 0) → (W → Option (List ℕ)) → (List Step → ℕ → ℕ → ℕ → Type 0) → Type 0
RunAnswersFromOneHistory {D} {V} {W} model talked failed contents gives =
    (most : ℕ) (store : Kept D) (v : V) (printer : PrinterState W) (ended : ServerEnd D V W) → (run : ServerRun model talked failed most contents gives store v printer ended)
    → AnswersFromOneHistory talked failed store.world (first_settled store.world (all_steps run.instances) ended.closed.settled) v run.instances
