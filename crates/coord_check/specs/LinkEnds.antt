-- The data that the code reads from one end of a link, and the link made of two such ends.
use Rattle.std.specs.Prelude.{ℕ, Bool, true, false, List, Option, Some, None}
use Rattle.coord_types.specs.NodeSet as set
use Rattle.coord_types.specs.declared.messages.Msg.{Msg}
use Rattle.coord_types.specs.declared.messages.Msg.TheVariants as msg
use Rattle.coord_link.specs.LaneMachine.{Lane, new_lane, transit}
use Rattle.coord_node.specs.Rules.{carries, is_parent}
use Rattle.coord_world.specs.Facade.{End, Link, World, aborts, acks, lane_at, readies, state}
use Rattle.coord_check.specs.declared.link_end.LinkEnd.{LinkEnd}

-- whether a message is of this kind, whatever distance it carries
abbrev pub is_of_kind : Msg → Msg → Bool
is_of_kind (msg.Abort k) (msg.Abort d) = true
is_of_kind msg.Ack msg.Ack = true
is_of_kind msg.Ready msg.Ready = true
is_of_kind m n = false

-- the number of messages of this kind
abbrev pub count : Msg → List Msg → ℕ
count (msg.Abort k) ms = aborts ms
count msg.Ack ms = acks ms
count msg.Ready ms = readies ms

-- the lane, or a new lane if there is none
abbrev pub lane_or_none : Option Lane → Lane
lane_or_none None = new_lane 0
lane_or_none (Some l) = l

-- the data at u about its link to v
abbrev pub link_end : World → ℕ → ℕ → LinkEnd
link_end w u v = record {
  mode = (state w u).mode;
  awaits = set.contains (state w u).pend v;
  child = is_parent (state w u).parent v;
  distance = (state w u).distance;
  carries = carries w.version (state w u);
  lane = lane_or_none (lane_at w.links u v);
}

abbrev pub end_at : LinkEnd → End
end_at s = record { mode = s.mode; awaits = s.awaits; child = s.child; distance = s.distance; carries = s.carries }

-- the link with these two ends, seen from the first end
abbrev pub seen : LinkEnd → LinkEnd → Link
seen here there = record { here = end_at here; there = end_at there; out = transit here.lane; back = transit there.lane }
