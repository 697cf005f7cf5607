-- The numbered world: nodes, links whose lanes number their messages, and the clients' last orders.
use Rattle.std.specs.Prelude.{ℕ, Bool, List, [], Option, Some, None, is_some}
use Rattle.std.specs.Cmp.{nat_cmp_total}
use Rattle.std.specs.Coded.{Coded, code_by, coded×, coded_ℕ}
use Rattle.std.proofs.Common.{refl}
use Rattle.coord_types.specs.Table as table
use Rattle.coord_types.specs.Facade.{Ideal, NodeState, Table, code, get, no_node, state_code}
use Rattle.coord_types.specs.declared.messages.Msg.{Msg}
use Rattle.coord_types.specs.declared.steps.Session.{Session}
use Rattle.coord_types.specs.contracts.steps.Session as session
use Rattle.coord_link.specs.LaneMachine.{Lane, transit}
pub use Rattle.coord_tables.specs.Links.{Lanes, Links, is_lane, lane_at, lanes_in_order, links_code}
pub use Rattle.coord_tables.specs.Pairs.{pair_cmp, pair_cmp_total}

-- a world: the version, the number of steps taken, the nodes, the links by their ends, and each client's last order
pub record World : Type 0 where
  pub version : ℕ
  pub count : ℕ
  pub nodes : Table nat_cmp_total NodeState
  pub links : Links
  pub sessions : Table nat_cmp_total Session

-- the world of this version before any step
abbrev pub no_world : ℕ → World
no_world version = record { version = version; count = 0; nodes = table.empty; links = table.empty; sessions = table.empty }

abbrev pub state_or_none : Option NodeState → NodeState
state_or_none None = no_node
state_or_none (Some r) = r

-- the state of a node
abbrev pub state : World → ℕ → NodeState
state w u = state_or_none (get w.nodes u)

abbrev pub is_linked : World → ℕ → ℕ → Bool
is_linked w u v = is_some (lane_at w.links u v)

abbrev pub transit_or_none : Option Lane → List Msg
transit_or_none None = []
transit_or_none (Some l) = transit l

-- the ideal world that a numbered world represents: each lane becomes the list of its messages in transit
abbrev pub view : World → Ideal
view w = record { version = w.version; state = state w; linked = is_linked w; in_transit = λ u v. transit_or_none (lane_at w.links u v) }

-- a world is stored as the tuple of its parts
abbrev pub world_code : Coded World
world_code =
    code_by
    (ℕ × (ℕ × (Table nat_cmp_total NodeState × (Links × Table nat_cmp_total Session))))
    (coded× coded_ℕ (coded× coded_ℕ (coded× (code coded_ℕ state_code) (coded× links_code (code coded_ℕ (session.the_row).coded)))))
    (λ w. (w.version, (w.count, (w.nodes, (w.links, w.sessions))))) (λ p. record { version = p.0; count = p.1.0; nodes = p.1.1.0; links = p.1.1.1.0; sessions = p.1.1.1.1 }) (λ _. refl)
