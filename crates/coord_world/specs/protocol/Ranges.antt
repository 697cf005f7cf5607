-- The ranges of a world. They are the invariant of its type, and hold for every world, legal or not.
use Rattle.std.specs.Prelude.{◌≡◌, ℕ, ◌==◌, ◌≤◌, Bool, true, false, List, Some, length, if◌then◌else◌}
use Rattle.coord_link.specs.declared.lane.TheConstants.{PLACES}
use Rattle.std.specs.List.{AllByRecursion}
use Rattle.coord_types.specs.NodeSet as set
use Rattle.coord_types.specs.Facade.{IsMaskable, NodeState}
use Rattle.coord_types.specs.Table.{get, has, len}
pub use Rattle.coord_types.specs.StepRanges.{IsNode, CommandInRange, StepInRange}
use Rattle.coord_types.specs.declared.limits.TheConstants.{MAX_CLIENTS, MAX_DEGREE, MAX_GROUPS, MAX_LINKS, MAX_NODES, MAX_STEPS, MAX_VERSIONS}
use Rattle.coord_types.specs.declared.messages.Mode.TheVariants.{Ready}
use Rattle.coord_types.specs.declared.messages.Msg.{Msg}
pub use Rattle.coord_types.specs.Messages.{carried}
use Rattle.coord_types.specs.declared.steps.Session.{Session}
use Rattle.coord_types.specs.declared.steps.Command.{Command}
use Rattle.coord_types.specs.declared.steps.Command.TheVariants.{Reset}
use Rattle.coord_types.specs.declared.steps.Kind.{Kind}
use Rattle.coord_types.specs.declared.steps.Kind.TheVariants.{Done, Started, Finished, Joined}
use Rattle.coord_link.specs.LaneMachine.{Lane}
use Rattle.coord_world.specs.protocol.NumberedWorld.{World, lane_at, state, is_linked}
use Rattle.coord_tables.specs.Links.{Turned}

pub record NodeInRange (count u : ℕ) (r : NodeState) : Type 0 where
  pub least : 1 ≤ u
  pub greatest : u ≤ MAX_NODES
  pub group_least : 1 ≤ r.group
  pub group_greatest : r.group ≤ MAX_GROUPS
  pub epoch : r.epoch ≤ count
  pub confirmed : r.confirmed ≤ count
  pub degree : set.len r.neighbours ≤ MAX_DEGREE

-- an incarnation is the number of a step, and a lane's other numbers are at most the number of steps
pub record LaneInRange (count : ℕ) (l : Lane) : Type 0 where
  pub made : 1 ≤ l.inc
  pub inc : l.inc ≤ count
  pub base : l.base ≤ count
  pub got : l.got ≤ count

-- the greatest distance in a world with this version and number of steps
abbrev pub farthest : ℕ → ℕ → ℕ
farthest version count = if version == 1 then 0 else count

-- each message carries at most this distance
abbrev pub CarryWithin : ℕ → List Msg → Type 0
CarryWithin n ms = AllByRecursion (λ m. carried m ≤ n) ms

-- the node's distance is one that the version allows, and is 0 if the node is Ready
pub record IsDistant (version count : ℕ) (r : NodeState) : Type 0 where
  pub within : r.distance ≤ farthest version count
  pub ready : r.mode ≡ Ready → r.distance ≡ 0

-- whether a command can be answered with this kind of reply
abbrev pub answers : Command → Kind → Bool
answers (Reset u) Started = true
answers (Reset u) Finished = true
answers (Reset u) Joined = true
answers (Reset u) k = false
answers x Done = true
answers x k = false

pub record SessionInRange (count c : ℕ) (s : Session) : Type 0 where
  pub least : 1 ≤ c
  pub greatest : c ≤ MAX_CLIENTS
  pub ordered : CommandInRange s.command
  pub first : 1 ≤ s.number
  pub last : s.number ≤ count
  pub replied : 1 ≤ s.reply.step
  pub replied_by : s.reply.step ≤ count
  pub answered : answers s.command s.reply.kind ≡ true

-- The ranges of a world. A node's neighbours are exactly the nodes to which it has lanes. A link is stored with its lesser end
-- first; its two lanes have the same incarnation, and its two ends the same group
pub record InRange (w : World) : Type 0 where
  pub first : 1 ≤ w.version
  pub last : w.version ≤ MAX_VERSIONS
  pub count : w.count ≤ MAX_STEPS
  pub nodes : (u : ℕ) (r : NodeState) → get w.nodes u ≡ Some r → NodeInRange w.count u r
  pub distances : (u : ℕ) (r : NodeState) → get w.nodes u ≡ Some r → IsDistant w.version w.count r
  pub lanes : (u v : ℕ) (l : Lane) → lane_at w.links u v ≡ Some l → LaneInRange w.count l
  pub short : (u v : ℕ) (l : Lane) → lane_at w.links u v ≡ Some l → length l.queue ≤ PLACES
  pub carried : (u v : ℕ) (l : Lane) → lane_at w.links u v ≡ Some l → CarryWithin (farthest w.version w.count) l.queue
  pub awaited : (u : ℕ) → IsMaskable (state w u).pend
  pub parents : (u p : ℕ) → (state w u).parent ≡ Some p → IsNode p
  pub sessions : (c : ℕ) (s : Session) → get w.sessions c ≡ Some s → SessionInRange w.count c s
  pub links : len w.links ≤ MAX_LINKS
  pub linked : (u v : ℕ) → is_linked w u v ≡ set.contains (state w u).neighbours v
  pub turned : Turned w.links
  pub ends : (u v : ℕ) → is_linked w u v ≡ true → has w.nodes u ≡ true
  pub one_group : (u v : ℕ) → is_linked w u v ≡ true → (state w u).group ≡ (state w v).group
  pub one_incarnation : (u v : ℕ) (l k : Lane) → lane_at w.links u v ≡ Some l → lane_at w.links v u ≡ Some k → l.inc ≡ k.inc
