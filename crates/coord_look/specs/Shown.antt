-- What the member of a node sees of a world: its node's row, the state of the connected nodes, and its party.
-- "Connected" has the same meaning as in the law of waves.
use Rattle.std.specs.Prelude.{◌≡◌, ℕ, ◌<◌, ◌↔◌, true, List, [], ◌∷◌, Some}
use Rattle.coord_types.specs.Table.{has}
use Rattle.coord_types.specs.declared.messages.Mode.TheVariants.{Ready}
use Rattle.coord_link.specs.LaneMachine.{Lane}
use Rattle.coord_world.specs.protocol.NumberedWorld.{World, lane_at, state}
use Rattle.coord_world.specs.laws.Waves.{Connected}
use Rattle.coord_member.specs.NoMix.{IsOneOf}
use Rattle.coord_member.specs.declared.view.Entry.{Entry}
use Rattle.coord_member.specs.declared.view.Entry.TheVariants.{Node, Link}
use Rattle.coord_member.specs.declared.view.Row.{Row}

-- no item occurs twice
abbrev pub AllDistinct : {A : Type 0} → List A → Type 0
AllDistinct [] = Unit {0}
AllDistinct (x ∷ xs) = (IsOneOf x xs → ⊥) × AllDistinct xs

-- the world has this link, with its lesser end first
pub record IsWorldLink (w : World) (a b incarnation : ℕ) : Type 0 where
  pub turned : a < b
  pub lane : Lane
  pub there : lane_at w.links a b ≡ Some lane
  pub made : lane.inc ≡ incarnation

-- the party has exactly the nodes that are connected with node i, each with its epoch, and exactly the links between
-- them
pub record IsPartyOf (w : World) (i : ℕ) (now : List Entry) : Type 0 where
  pub every_node : (n : ℕ) → has w.nodes n ≡ true → Connected w i n → IsOneOf (Node n (state w n).epoch) now
  pub every_link : (a b incarnation : ℕ) → Connected w i a → IsWorldLink w a b incarnation → IsOneOf (Link a b incarnation) now
  pub nodes : (n e : ℕ) → IsOneOf (Node n e) now → (has w.nodes n ≡ true) × (Connected w i n × (e ≡ (state w n).epoch))
  pub links : (a b incarnation : ℕ) → IsOneOf (Link a b incarnation) now → Connected w i a × IsWorldLink w a b incarnation
  pub once : AllDistinct now

-- the node is in no reset, and its epoch is confirmed
pub record IsThrough (w : World) (v : ℕ) : Type 0 where
  pub ready : (state w v).mode ≡ Ready
  pub confirmed : (state w v).epoch ≡ (state w v).confirmed

pub record IsShownTo (w : World) (i : ℕ) (row : Row) (now : List Entry) : Type 0 where
  pub there : has w.nodes i ≡ true
  pub epoch : row.epoch ≡ (state w i).epoch
  pub confirmed : row.confirmed ≡ (state w i).confirmed
  pub through : (row.through ≡ true) ↔ ((v : ℕ) → Connected w i v → IsThrough w v)
  pub quiet : (row.quiet ≡ true) ↔ ((v : ℕ) → Connected w i v → (state w v).mode ≡ Ready)
  pub party : IsPartyOf w i now
