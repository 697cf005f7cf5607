-- The ideal world: nodes and the messages in transit between them, without message numbers and receipts.
use Rattle.std.specs.Prelude.{ℕ, Bool, List}
use Rattle.coord_types.specs.NodeState.{NodeState}
use Rattle.coord_types.specs.declared.messages.Msg.{Msg}

-- an ideal world: its version, the state of each node, which nodes are linked, and the messages in transit from one node to
-- another, oldest first
pub record Ideal : Type 0 where
  pub version : ℕ
  pub state : ℕ → NodeState
  pub linked : ℕ → ℕ → Bool
  pub in_transit : ℕ → ℕ → List Msg
