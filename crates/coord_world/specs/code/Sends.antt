-- The messages that a node sends, as a list with their receivers.
use Rattle.std.specs.Prelude.{◌≡◌, ℕ, ◌<◌, List, [], ◌∷◌, length, Some}
use Rattle.coord_link.specs.declared.lane.TheConstants.{PLACES}
use Rattle.coord_tables.specs.Links.{Links, change_lane, lane_at}
use Rattle.coord_types.specs.declared.messages.Msg.{Msg}
use Rattle.coord_link.specs.LaneMachine.{Lane, sent}

-- the links after u has sent one message
abbrev pub sent_lane : ℕ → ℕ × Msg → Links → Links
sent_lane u s links = change_lane links u s.0 (sent (s.1 ∷ []))

-- the links after u has sent these messages, one after the other
abbrev pub sent_lanes : ℕ → List (ℕ × Msg) → Links → Links
sent_lanes u [] links = links
sent_lanes u (s ∷ ss) links = sent_lanes u ss (sent_lane u s links)

-- each lane has room for the messages that u sends on it
abbrev pub CanSend : ℕ → List (ℕ × Msg) → Links → Type 0
CanSend u [] links = Unit {0}
CanSend u (s ∷ ss) links = ((l : Lane) → lane_at links u s.0 ≡ Some l → length l.queue < PLACES) × CanSend u ss (sent_lane u s links)
