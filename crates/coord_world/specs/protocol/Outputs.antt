-- The outputs of a step, and the resend list.
use Rattle.std.specs.Prelude.{ℕ, ◌+◌, ◌==◌, ◌&&◌, Bool, false, not, List, [], ◌∷◌, ◌++◌, Option, Some, None, if◌then◌else◌}
use Rattle.coord_types.specs.Facade.{is_nil}
use Rattle.coord_types.specs.declared.messages.Msg.{Msg}
use Rattle.coord_types.specs.declared.packets.DataPacket.{DataPacket}
use Rattle.coord_types.specs.declared.packets.ReceiptPacket.{ReceiptPacket}
use Rattle.coord_types.specs.declared.steps.Step.{Step}
use Rattle.coord_types.specs.declared.steps.Step.TheVariants.{Order, Take, Clear}
use Rattle.coord_types.specs.declared.outputs.Output.{Output}
use Rattle.coord_types.specs.declared.outputs.Output.TheVariants.{Receipted, Signalled, Sent}
use Rattle.coord_types.specs.declared.steps.Reply.{Reply}
use Rattle.coord_node.specs.Facade.{Transition, transitions}
use Rattle.coord_link.specs.LaneMachine.{Lane, is_front_taken}
use Rattle.coord_world.specs.protocol.NumberedWorld.{Links, World, lane_at, lanes_in_order, state}
use Rattle.coord_world.specs.protocol.Next.{next, reply}

-- the receipt of a data packet
abbrev pub receipt : DataPacket → ReceiptPacket
receipt p = record { from = p.from; to = p.to; inc = p.inc; number = p.number }

-- the receipts that a step sends: a Take sends the receipt of its packet
abbrev pub receipts : Step → List Output
receipts (Order c n x) = []
receipts (Take p) = Receipted (receipt p) ∷ []
receipts (Clear p) = []

-- one signal for each transition that finished a reset, in the order of the transitions
abbrev pub signals : List (ℕ × Transition) → List Output
signals [] = []
signals (d ∷ ds) = if d.1.finished then Signalled d.0 d.1.state.epoch ∷ signals ds else signals ds

-- the data packet of lane l's front, with message m, between these ends
abbrev pub front_packet : ℕ × ℕ → Lane → Msg → DataPacket
front_packet k l m = record { from = k.0; to = k.1; inc = l.inc; number = l.base + 1; msg = m }

-- whether the lane had this front before the step: a front with the same incarnation and number
abbrev pub had_front : Option Lane → Lane → Bool
had_front None l = false
had_front (Some o) l = not (is_nil o.queue) && (o.inc == l.inc) && (o.base == l.base)

-- the packets that a lane sends: its front, if it has a new one
abbrev pub sent_by : Option Lane → ℕ × ℕ → Lane → List Msg → List Output
sent_by before k l [] = []
sent_by before k l (m ∷ ms) = if had_front before l then [] else Sent (front_packet k l m) ∷ []

-- the packets that these lanes send, given the links before the step
abbrev pub all_sent : Links → List ((ℕ × ℕ) × Lane) → List Output
all_sent before [] = []
all_sent before (e ∷ es) = sent_by (lane_at before e.0.0 e.0.1) e.0 e.1 e.1.queue ++ all_sent before es

-- the outputs of a step besides its reply; packets are in ascending order of their lanes' ends
abbrev pub outputs : World → Step → List Output
outputs w s = receipts s ++ signals (transitions w.version (state w) s) ++ all_sent w.links (lanes_in_order (next w s).links)

-- a step's reply, followed by its outputs
pub record StepOutcome : Type 0 where
  pub reply : Reply
  pub outputs : List Output

-- the reply and the outputs of each of these steps
abbrev pub outs : World → List Step → List StepOutcome
outs w [] = []
outs w (s ∷ ss) = record { reply = reply w s; outputs = outputs w s } ∷ outs (next w s) ss

-- the packets that a lane sends again: its front, and the receipt of the front if the other end has taken the front
abbrev pub again_by : ℕ × ℕ → Lane → List Msg → List Output
again_by k l [] = []
again_by k l (m ∷ ms) = Sent (front_packet k l m) ∷ (if is_front_taken l then Receipted (receipt (front_packet k l m)) ∷ [] else [])

abbrev pub all_again : List ((ℕ × ℕ) × Lane) → List Output
all_again [] = []
all_again (e ∷ es) = again_by e.0 e.1 e.1.queue ++ all_again es

-- the resend list: the packets that may have been lost and are sent again, in ascending order of their lanes
abbrev pub again : World → List Output
again w = all_again (lanes_in_order w.links)
