-- The predicates B to H over the two ends of a link and the messages in transit between them, each as a test. Predicate
-- A, over a lane, is in coord_link's lane machine.
use Rattle.std.specs.Prelude.{◌≡◌, ℕ, ◌+◌, ◌==◌, nat_le, Bool, true, false, ◌&&◌, ◌||◌, not, List, [], ◌∷◌, if◌then◌else◌}
use Rattle.coord_types.specs.NodeSet as set
use Rattle.coord_types.specs.Facade.{Ideal, NodeState}
use Rattle.coord_types.specs.declared.messages.Mode.{Mode}
use Rattle.coord_types.specs.declared.messages.Mode.TheVariants.{Ready, Abort, Converge}
use Rattle.coord_types.specs.declared.messages.Msg.{Msg}
use Rattle.coord_types.specs.declared.messages.Msg.TheVariants as msg
use Rattle.coord_node.specs.Rules.{carries, is_parent}

-- One end of a link: its node's mode, whether the node awaits an acknowledgement from the other end, whether the other end is the
-- node's parent, the node's distance, and the distance that its Aborts carry
pub record End : Type 0 where
  pub mode : Mode
  pub awaits : Bool
  pub child : Bool
  pub distance : ℕ
  pub carries : ℕ

-- a link as one end sees it: both ends, and the messages in transit in each direction
pub record Link : Type 0 where
  pub here : End
  pub there : End
  pub out : List Msg
  pub back : List Msg

abbrev pub end_of : ℕ → NodeState → ℕ → End
end_of version r v = record { mode = r.mode; awaits = set.contains r.pend v; child = is_parent r.parent v; distance = r.distance; carries = carries version r }

abbrev pub link : Ideal → ℕ → ℕ → Link
link w u v = record { here = end_of w.version (w.state u) v; there = end_of w.version (w.state v) u; out = w.in_transit u v; back = w.in_transit v u }

abbrev pub turned : Link → Link
turned l = record { here = l.there; there = l.here; out = l.back; back = l.out }

abbrev pub one : Bool → ℕ
one b = if b then 1 else 0

abbrev pub aborts : List Msg → ℕ
aborts [] = 0
aborts (msg.Abort k ∷ ms) = 1 + aborts ms
aborts (msg.Ack ∷ ms) = aborts ms
aborts (msg.Ready ∷ ms) = aborts ms

abbrev pub acks : List Msg → ℕ
acks [] = 0
acks (msg.Abort k ∷ ms) = acks ms
acks (msg.Ack ∷ ms) = 1 + acks ms
acks (msg.Ready ∷ ms) = acks ms

abbrev pub readies : List Msg → ℕ
readies [] = 0
readies (msg.Abort k ∷ ms) = readies ms
readies (msg.Ack ∷ ms) = readies ms
readies (msg.Ready ∷ ms) = 1 + readies ms

-- the number of Readies after the first Abort
abbrev pub readies_after : List Msg → ℕ
readies_after [] = 0
readies_after (msg.Abort k ∷ ms) = readies ms
readies_after (msg.Ack ∷ ms) = readies_after ms
readies_after (msg.Ready ∷ ms) = readies_after ms

-- the number of Aborts that carry a distance other than n
abbrev pub strays : ℕ → List Msg → ℕ
strays n [] = 0
strays n (msg.Abort k ∷ ms) = one (not (k == n)) + strays n ms
strays n (msg.Ack ∷ ms) = strays n ms
strays n (msg.Ready ∷ ms) = strays n ms

abbrev pub is_abort : Mode → Bool
is_abort Ready = false
is_abort Abort = true
is_abort Converge = false

abbrev pub is_converge : Mode → Bool
is_converge Ready = false
is_converge Abort = false
is_converge Converge = true

abbrev pub is_ready : Mode → Bool
is_ready Ready = true
is_ready Abort = false
is_ready Converge = false

-- whether an end owes the other end an acknowledgement
abbrev pub owes_ack : End → Bool
owes_ack e = is_abort e.mode && e.child

-- whether an end waits for the other end's Ready
abbrev pub waits_for_ready : End → Bool
waits_for_ready e = is_converge e.mode && e.child

-- B: if this end awaits an acknowledgement, the acknowledgement is in exactly one place: as the Abort in transit to the other
-- end, at the other end, which owes it, or as the Ack in transit back. Otherwise these three places are empty
abbrev pub has_ack_in_one_place : Link → Bool
has_ack_in_one_place l = (aborts l.out + one (owes_ack l.there) + acks l.back) == one l.here.awaits

-- C: at most one Ready is in transit
abbrev pub has_one_ready_at_most : Link → Bool
has_one_ready_at_most l = nat_le (readies l.out) 1

-- D: no Ready follows an Abort
abbrev pub has_readies_first : Link → Bool
has_readies_first l = readies_after l.out == 0

-- E: if the other end waits for this end's Ready, a Ready is in transit to it, or this end is not Ready
abbrev pub has_ready_for_child : Link → Bool
has_ready_for_child l = not (waits_for_ready l.there) || not (readies l.out == 0) || not (is_ready l.here.mode)

-- F: the two ends are not each other's parent
abbrev pub has_one_parent_at_most : Link → Bool
has_one_parent_at_most l = not (l.here.child && l.there.child)

-- G: a Ready is in transit only if this end is Ready, or the other end is this end's parent, or an Abort is in transit on the
-- same lane
abbrev pub has_no_early_ready : Link → Bool
has_no_early_ready l = is_ready l.here.mode || l.here.child || not (aborts l.out == 0) || (readies l.out == 0)

-- H: each Abort in transit carries the distance that this end sends. If the other end is in a reset, this end is its parent, and
-- no Ready is in transit to it, then the other end has that distance. In version 1 all distances are 0, so H always holds
abbrev pub has_right_distances : Link → Bool
has_right_distances l = (strays l.here.carries l.out == 0) && (is_ready l.there.mode || not l.there.child || not (readies l.out == 0) || (l.there.distance == l.here.carries))

-- B to H, as seen by the end that sends `out`
pub record LegalLink (l : Link) : Type 0 where
  pub ack_in_one_place : has_ack_in_one_place l ≡ true
  pub one_ready_at_most : has_one_ready_at_most l ≡ true
  pub readies_first : has_readies_first l ≡ true
  pub ready_for_child : has_ready_for_child l ≡ true
  pub one_parent_at_most : has_one_parent_at_most l ≡ true
  pub no_early_ready : has_no_early_ready l ≡ true
  pub right_distances : has_right_distances l ≡ true
