-- The state of a node as the reset rules see it.
use Rattle.std.specs.Prelude.{◌≡◌, ℕ, zero, suc, Option, None}
use Rattle.std.proofs.Common.{refl}
use Rattle.coord_types.specs.NodeSet.{NodeSet, nodes_code, empty}
use Rattle.std.specs.Coded.{Coded, code_by, coded×, coded_ℕ, coded_option}
use Rattle.coord_types.specs.declared.messages.Mode.{Mode}
use Rattle.coord_types.specs.declared.messages.Mode.TheVariants.{Ready, Abort, Converge}

-- `pend` is the set of neighbours from which the node awaits an acknowledgement, and `parent` the neighbour to which the node
-- owes its own acknowledgement. `distance` is the number of links between the node and the node that began its reset; it is 0 for
-- a Ready node, and for every node in a world of version 1. `neighbours` is part of the state so that a reset rule is a function
-- of one state; the type `World` guarantees that the neighbours are exactly the nodes to which the node has lanes (`linked` in
-- coord_world's Ranges). `epoch` counts the node's signals; `confirmed` is the last epoch that the node's service is known to
-- have acted on
pub record NodeState : Type 0 where
  pub group : ℕ
  pub mode : Mode
  pub parent : Option ℕ
  pub pend : NodeSet
  pub neighbours : NodeSet
  pub epoch : ℕ
  pub confirmed : ℕ
  pub distance : ℕ

-- a node that was just added
abbrev pub new_node : ℕ → NodeState
new_node g = record { group = g; mode = Ready; parent = None; pend = empty; neighbours = empty; epoch = 0; confirmed = 0; distance = 0 }

-- the state stored for an absent node
abbrev pub no_node : NodeState
no_node = new_node 0

-- the number by which a mode is stored; `mode_from` converts it back
abbrev pub mode_number : Mode → ℕ
mode_number Ready = 0
mode_number Abort = 1
mode_number Converge = 2

abbrev pub mode_from : ℕ → Mode
mode_from zero = Ready
mode_from (suc zero) = Abort
mode_from (suc (suc n)) = Converge

pub mode_back : (m : Mode) → mode_from (mode_number m) ≡ m
mode_back Ready = refl
mode_back Abort = refl
mode_back Converge = refl

abbrev pub mode_code : Coded Mode
mode_code = code_by ℕ coded_ℕ mode_number mode_from mode_back

-- a state is stored as the tuple of its fields
abbrev pub state_code : Coded NodeState
state_code =
    code_by
    (ℕ × (Mode × (Option ℕ × (NodeSet × (NodeSet × (ℕ × (ℕ × ℕ)))))))
    (coded× coded_ℕ (coded× mode_code (coded× (coded_option coded_ℕ) (coded× nodes_code (coded× nodes_code (coded× coded_ℕ (coded× coded_ℕ coded_ℕ)))))))
    (λ r. (r.group, (r.mode, (r.parent, (r.pend, (r.neighbours, (r.epoch, (r.confirmed, r.distance))))))))
    (λ p. record { group = p.0; mode = p.1.0; parent = p.1.1.0; pend = p.1.1.1.0; neighbours = p.1.1.1.1.0; epoch = p.1.1.1.1.1.0; confirmed = p.1.1.1.1.1.1.0; distance = p.1.1.1.1.1.1.1 })
    (λ _. refl)
