-- The new fronts of a step, lane by lane. A lane gets a new front only if the step sends a message on it while it is
-- empty, or clears its front.
use Rattle.std.specs.Prelude.{◌≡◌, ℕ, ◌-◌, ◌^◌, ◌<◌, nat_lt, List, [], ◌∷◌, ◌++◌, Option, Some, None, if◌then◌else◌}
use Rattle.coord_types.specs.Facade.{after_front, is_nil}
use Rattle.coord_types.specs.declared.messages.Msg.{Msg}
use Rattle.coord_types.specs.declared.outputs.Output.{Output}
use Rattle.coord_types.specs.declared.outputs.Output.TheVariants.{Sent}
use Rattle.coord_types.specs.declared.steps.Command.{Command}
use Rattle.coord_types.specs.declared.steps.Command.TheVariants.{Add, Remove, Join, Drop, Reset, Confirm}
use Rattle.coord_types.specs.declared.steps.Step.{Step}
use Rattle.coord_types.specs.declared.steps.Step.TheVariants.{Order, Take, Clear}
use Rattle.coord_link.specs.LaneMachine.{Lane, cleared}
use Rattle.coord_node.specs.Rules.{lost, request, sends_of, transition}
use Rattle.coord_world.specs.protocol.NumberedWorld.{Links, World, lane_at, state}
use Rattle.coord_world.specs.protocol.Outputs.{front_packet}

-- the number after the lane's base fits into a u64
abbrev pub HasNumber : (ℕ × ℕ) × Lane → Type 0
HasNumber e = e.1.base < 2 ^ 64 - 1

-- for each lane, the number after its base fits into a u64
abbrev pub AreNumbered : Links → Type 0
AreNumbered links = (u v : ℕ) (l : Lane) → lane_at links u v ≡ Some l → l.base < 2 ^ 64 - 1

-- the packet of a lane's front, if it has one
abbrev pub packets_of : ℕ × ℕ → Lane → List Msg → List Output
packets_of k l [] = []
packets_of k l (m ∷ ms) = Sent (front_packet k l m) ∷ []

-- the packet of a message that is sent on a lane, if the lane was empty, so that the message becomes its front
abbrev pub front_sent : Option Lane → ℕ × ℕ → Msg → List Output
front_sent None k m = []
front_sent (Some l) k m = if is_nil l.queue then Sent (front_packet k l m) ∷ [] else []

-- the packets of u's messages that become fronts
abbrev pub fronts_sent : Links → ℕ → List (ℕ × Msg) → List Output
fronts_sent links u [] = []
fronts_sent links u (s ∷ ss) = front_sent (lane_at links u s.0) (u, s.0) s.1 ++ fronts_sent links u ss

-- the packet of the message after a lane's front; that message becomes the front once the present front is cleared
abbrev pub front_after : Option Lane → ℕ × ℕ → List Output
front_after None k = []
front_after (Some l) k = packets_of k (cleared l) (after_front l.queue)

-- the outputs of both ends of a link, with the outputs of the lesser end first
abbrev pub by_lesser : ℕ → ℕ → List Output → List Output → List Output
by_lesser a b of_a of_b = if nat_lt a b then of_a ++ of_b else of_b ++ of_a

abbrev pub fronts_ordered : World → Command → List Output
fronts_ordered w (Add u g) = []
fronts_ordered w (Remove u) = []
fronts_ordered w (Join a b) = []
fronts_ordered w (Drop a b) = by_lesser a b (fronts_sent w.links a (sends_of (lost (state w a) b))) (fronts_sent w.links b (sends_of (lost (state w b) a)))
fronts_ordered w (Reset u) = fronts_sent w.links u (sends_of (request w.version (state w u)))
fronts_ordered w (Confirm u e) = []

-- the new fronts of a step, in ascending order of their lanes
abbrev pub new_fronts : World → Step → List Output
new_fronts w (Order c n x) = fronts_ordered w x
new_fronts w (Take p) = fronts_sent w.links p.to (sends_of (transition w.version p.msg (state w p.to) p.from))
new_fronts w (Clear p) = front_after (lane_at w.links p.from p.to) (p.from, p.to)
