-- The requests to a port for releases, and the step that each arriving packet becomes.
use Rattle.std.specs.Prelude.{◌≡◌, ℕ, Bool, List, [], ◌∷◌, ◌++◌, map}
use Rattle.coord_types.specs.declared.outputs.Output.{Output}
use Rattle.coord_types.specs.declared.outputs.Output.TheVariants as output
use Rattle.coord_types.specs.declared.packets.Packet.{Packet}
use Rattle.coord_types.specs.declared.packets.Packet.TheVariants.{Carried, Receipted}
use Rattle.coord_types.specs.declared.steps.Step.{Step}
use Rattle.coord_types.specs.declared.steps.Step.TheVariants.{Take, Clear}
use Rattle.coord_ledger.specs.declared.release.Release.{Release}
use Rattle.coord_engine.specs.declared.port.Delivery.{Delivery}
use Rattle.coord_engine.specs.declared.port.Delivery.TheVariants.{Carry, Signal}

-- The request for an output. Data is carried to its receiver; a receipt is carried to the sender of the data
-- that it names. A signal has the number of its step.
abbrev pub delivery_of : ℕ → Output → Delivery
delivery_of step (output.Sent p) = Carry p.to (Carried p)
delivery_of step (output.Receipted p) = Carry p.from (Receipted p)
delivery_of step (output.Signalled u epoch) = Signal step u epoch

-- the requests for some releases, in their order
abbrev pub deliveries_of : List Release → List Delivery
deliveries_of released = map (λ r. delivery_of r.step r.output) released

-- The step that an arriving packet becomes: `Take` for data, `Clear` for a receipt.
abbrev pub step_of : Packet → Step
step_of (Carried p) = Take p
step_of (Receipted p) = Clear p

-- The requests that may be made: any packet, and each signal that `may` permits by its step, node and epoch.
abbrev pub MayAsk : (ℕ → ℕ → ℕ → Type 0) → Delivery → Type 0
MayAsk may (Carry to packet) = Unit {0}
MayAsk may (Signal step node epoch) = may step node epoch

-- Each signal among these releases may be requested.
abbrev pub MayAskAll : (ℕ → ℕ → ℕ → Type 0) → List Release → Type 0
MayAskAll may released = (before after : List Release) (step node epoch : ℕ) → released ≡ before ++ record { step = step; output = output.Signalled node epoch } ∷ after → may step node epoch

-- `carried` and `signalled` give the possible states of a port after a request, given its state before the
-- request, the request and the answer.
module _ {P : Type 0} (carried : P → ℕ → Packet → Bool → P → Type 0) (signalled : P → ℕ → ℕ → ℕ → Bool → P → Type 0) where
  -- This delivery was requested from the port.
  abbrev pub IsAsked : P → Delivery → P → Type 0
  IsAsked port (Carry to packet) later = (answer : Bool) × carried port to packet answer later
  IsAsked port (Signal step node epoch) later = (answer : Bool) × signalled port step node epoch answer later

  -- These deliveries were requested from the port, each once and in order.
  abbrev pub AreAsked : P → List Delivery → P → Type 0
  AreAsked port [] later = later ≡ port
  AreAsked port (d ∷ ds) later = (next : P) × IsAsked port d next × AreAsked next ds later

  -- `handed_on` gives the possible states of a port after it has handed on its packets and returned the number
  -- of lost packets.
  module _ (handed_on : P → ℕ → P → Type 0) where
    -- A port received these requests, each once and in order, and then handed on its packets.
    pub record AreHanded (port : P) (ds : List Delivery) (later : P) : Type 0 where
      pub asked : P
      pub lost : ℕ
      pub are_asked : AreAsked port ds asked
      pub hands_on : handed_on asked lost later
