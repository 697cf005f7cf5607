-- What a request asks a drill to do in a given front world.
use Rattle.std.specs.Prelude.{ℕ, ◌+◌, List, [], ◌∷◌, Option, Some, None, Result, Ok, Err}
use Rattle.coord_types.specs.Table.{get}
use Rattle.coord_types.specs.declared.messages.Msg.{Msg}
use Rattle.coord_types.specs.declared.packets.DataPacket.{DataPacket}
use Rattle.coord_types.specs.declared.steps.Step.{Step}
use Rattle.coord_types.specs.declared.steps.Step.TheVariants as step
use Rattle.coord_types.specs.declared.refusals.Refusal.{Refusal}
use Rattle.coord_types.specs.declared.refusals.Refusal.TheVariants.{NoLink}
use Rattle.coord_link.specs.LaneMachine.{Lane}
use Rattle.coord_world.specs.Facade.{World, front_packet, lane_at, last_number, receipt}
use Rattle.coord_drill.specs.declared.request.Request.{Request}
use Rattle.coord_drill.specs.declared.request.Request.TheVariants as request
use Rattle.coord_drill.specs.declared.asked.Asked.{Asked}
use Rattle.coord_drill.specs.declared.asked.Asked.TheVariants.{Submit, Refuse, Nothing, Resend, Check, Show, Hold, Flush, Crash, Version2}

-- the first packet of a lane from u to v, or None if the lane is empty
abbrev pub packet_of : ℕ → ℕ → Lane → List Msg → Option DataPacket
packet_of u v l [] = None
packet_of u v l (m ∷ ms) = Some (front_packet (u, v) l m)

abbrev pub packet_on : ℕ → ℕ → Option Lane → Result (Option DataPacket) Refusal
packet_on u v None = Err NoLink
packet_on u v (Some l) = Ok (packet_of u v l l.queue)

-- the packet that is in transit from u to v, if there is one; an error if u and v are not linked
unfoldable pub front : World → ℕ → ℕ → Result (Option DataPacket) Refusal
front w u v = packet_on u v (lane_at w.links u v)

abbrev pub asked_of_front : (DataPacket → Step) → Result (Option DataPacket) Refusal → Asked
asked_of_front f (Err refusal) = Refuse refusal
asked_of_front f (Ok None) = Nothing
asked_of_front f (Ok (Some p)) = Submit (f p)

-- the operator's client number
abbrev pub operator : ℕ
operator = 1

unfoldable pub next_number : World → ℕ → ℕ
next_number w c = last_number (get w.sessions c) + 1

-- what this request asks the drill to do in this front world
abbrev pub asked : World → Request → Asked
asked w (request.Next x) = Submit (step.Order operator (next_number w operator) x)
asked w (request.Order c n x) = Submit (step.Order c n x)
asked w (request.Take u v) = asked_of_front (λ p. step.Take p) (front w u v)
asked w (request.Clear u v) = asked_of_front (λ p. step.Clear (receipt p)) (front w u v)
asked w (request.Data p) = Submit (step.Take p)
asked w (request.Receipt p) = Submit (step.Clear p)
asked w request.Resend = Resend
asked w request.Check = Check
asked w request.Show = Show
asked w request.Hold = Hold
asked w request.Flush = Flush
asked w request.Crash = Crash
asked w request.Version2 = Version2
