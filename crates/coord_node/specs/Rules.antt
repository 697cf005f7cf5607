-- The reset rules of one node, as functions of its state; the rules that involve Aborts also depend on the version of
-- the world.
use Rattle.std.specs.Prelude.{ℕ, ◌+◌, ◌==◌, Bool, true, false, ◌&&◌, List, Option, Some, None, if◌then◌else◌, map}
use Rattle.coord_types.specs.NodeSet as set
use Rattle.coord_types.specs.Facade.{NodeSet, NodeState}
use Rattle.coord_types.specs.declared.messages.Mode.{Mode}
use Rattle.coord_types.specs.declared.messages.Mode.TheVariants.{Ready, Abort, Converge}
use Rattle.coord_types.specs.declared.messages.Msg.{Msg}
use Rattle.coord_types.specs.declared.messages.Msg.TheVariants as msg

-- the result of a rule at a node: its new state, one message to each node of a set, and whether the node finished a
-- reset
pub record Transition : Type 0 where
  pub state : NodeState
  pub message : Msg
  pub to : NodeSet
  pub finished : Bool

abbrev pub is_empty : NodeSet → Bool
is_empty s = set.len s == 0

abbrev pub only : ℕ → NodeSet
only v = set.insert set.empty v

abbrev pub without_parent : NodeSet → Option ℕ → NodeSet
without_parent s None = s
without_parent s (Some p) = set.remove s p

-- the messages that a transition sends, in ascending order of their receivers
abbrev pub sends_of : Transition → List (ℕ × Msg)
sends_of d = map (λ x. (x, d.message)) (set.items d.to)

-- the distance to store, which is 0 in version 1
abbrev pub kept : ℕ → ℕ → ℕ
kept version distance = if version == 1 then 0 else distance

-- the distance that the node's Aborts carry: one more than the node's own; 0 in version 1
abbrev pub carries : ℕ → NodeState → ℕ
carries version r = kept version (r.distance + 1)

-- the state does not change, and no message is sent
abbrev pub idle : NodeState → Transition
idle r = record { state = r; message = msg.Ack; to = set.empty; finished = false }

-- the node sends Ready to every neighbour except its parent, and enters its next epoch
abbrev pub finish : NodeState → Transition
finish r = record {
  state = record r { mode = Ready; parent = None; epoch = r.epoch + 1; distance = 0 };
  message = msg.Ready;
  to = without_parent r.neighbours r.parent;
  finished = true;
}

-- a Ready node enters a reset with this distance and parent: it passes the wave on to the nodes `others`, and awaits their
-- acknowledgements
abbrev pub wave_on : ℕ → NodeState → Option ℕ → NodeSet → ℕ → Transition
wave_on version r parent others distance =
    let s : NodeState = record r { mode = Abort; parent = parent; pend = others; distance = distance } in
    record { state = s; message = msg.Abort (carries version s); to = others; finished = false }

-- A Ready node enters a reset with this distance, and has no node to pass the wave on to, so it sends its acknowledgement to v at
-- once. The rule clears `pend`; in a legal world `pend` was already empty
abbrev pub wave_back : NodeState → ℕ → ℕ → Transition
wave_back r v distance = record {
  state = record r { mode = Converge; parent = Some v; pend = set.empty; distance = distance };
  message = msg.Ack;
  to = only v;
  finished = false;
}

-- the node sends an Ack to v, and its state does not change
abbrev pub answer : NodeState → ℕ → Transition
answer r v = record { state = r; message = msg.Ack; to = only v; finished = false }

-- the transition on a request for a reset
abbrev pub request_in : Mode → ℕ → NodeState → Transition
request_in Ready version r = if is_empty r.neighbours then finish r else wave_on version r None r.neighbours 0
request_in Abort version r = idle r
request_in Converge version r = idle r

abbrev pub request : ℕ → NodeState → Transition
request version r = request_in r.mode version r

-- the transition on an Abort from v that carries a distance
abbrev pub on_abort_in : Mode → ℕ → NodeState → ℕ → ℕ → Transition
on_abort_in Ready version r v distance =
    if is_empty (set.remove r.neighbours v)
    then wave_back r v (kept version distance)
    else wave_on version r (Some v) (set.remove r.neighbours v) (kept version distance)
on_abort_in Abort version r v distance = answer r v
on_abort_in Converge version r v distance = answer r v

abbrev pub on_abort : ℕ → NodeState → ℕ → ℕ → Transition
on_abort version r v distance = on_abort_in r.mode version r v distance

-- The last awaited acknowledgement has arrived. The initiator, which has no parent, finishes; any other node sends its
-- acknowledgement to its parent
abbrev pub acknowledged : NodeState → Option ℕ → Transition
acknowledged r None = finish r
acknowledged r (Some p) = answer (record r { mode = Converge }) p

-- the transition on an Ack from v
abbrev pub on_ack : NodeState → ℕ → Transition
on_ack r v =
    let rest = set.remove r.pend v in
    let s : NodeState = record r { pend = rest } in
    if is_empty r.pend
    then idle r
    else (if is_empty rest then acknowledged s s.parent else idle s)

abbrev pub is_parent : Option ℕ → ℕ → Bool
is_parent None v = false
is_parent (Some p) v = p == v

-- the transition on a Ready from v
abbrev pub on_ready_in : Mode → NodeState → ℕ → Transition
on_ready_in Converge r v = if is_parent r.parent v then finish r else idle r
on_ready_in Ready r v = idle r
on_ready_in Abort r v = idle r

abbrev pub on_ready : NodeState → ℕ → Transition
on_ready r v = on_ready_in r.mode r v

-- the transition on a message from v, in a world of this version
abbrev pub transition : ℕ → Msg → NodeState → ℕ → Transition
transition version (msg.Abort k) r v = on_abort version r v k
transition version msg.Ack r v = on_ack r v
transition version msg.Ready r v = on_ready r v

abbrev pub without : Option ℕ → ℕ → Option ℕ
without None v = None
without (Some p) v = if p == v then None else Some p

-- the state with v as a neighbour
abbrev pub with_neighbour : NodeState → ℕ → NodeState
with_neighbour r v = record r { neighbours = set.insert r.neighbours v }

-- The transition on the loss of the link to v. The arguments are the state without v, whether v's acknowledgement was awaited,
-- and whether v was the node's parent
abbrev pub lost_in : Mode → NodeState → Bool → Bool → Transition
lost_in Ready s awaited child = idle s
lost_in Abort s awaited child = if awaited && is_empty s.pend then acknowledged s s.parent else idle s
lost_in Converge s awaited child = if child then finish s else idle s

abbrev pub lost : NodeState → ℕ → Transition
lost r v =
    lost_in r.mode (record r { parent = without r.parent v; pend = set.remove r.pend v; neighbours = set.remove r.neighbours v })
    (set.contains r.pend v) (is_parent r.parent v)
