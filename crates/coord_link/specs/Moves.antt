-- Lists of moves on one lane, and their results.
use Rattle.std.specs.Prelude.{◌≡◌, ℕ, ◌+◌, ◌≤◌, List, [], ◌∷◌, ◌++◌, take, drop, length, Result, Ok, if◌then◌else◌, is_ok}
use Rattle.coord_types.specs.declared.messages.Msg.{Msg}
use Rattle.coord_types.specs.declared.refusals.Refusal.{Refusal}
use Rattle.coord_link.specs.LaneMachine.{Lane, new_lane, sent, took, cleared, judged_take, judged_clear}

-- a move: the sender appends a message, a data packet with this number and message arrives, or a receipt with this number arrives
pub data Move : Type 0 where
  Send : Msg → Move
  Take : ℕ → Msg → Move
  Clear : ℕ → Move

-- the result of a move: its refusal, if any; a send is never refused
abbrev pub answer : Lane → Move → Result (Unit {0}) Refusal
answer l (Send m) = Ok tt
answer l (Take number m) = judged_take l number m
answer l (Clear number) = judged_clear l number

-- the lane after an accepted move
abbrev pub done : Lane → Move → Lane
done l (Send m) = sent (m ∷ []) l
done l (Take number m) = took l
done l (Clear number) = cleared l

-- the lane after a move; a refused move changes nothing
abbrev pub moved : Lane → Move → Lane
moved l move = if is_ok (answer l move) then done l move else l

abbrev pub run : Lane → List Move → Lane
run l [] = l
run l (move ∷ moves) = run (moved l move) moves

-- the message that a move appends to the queue
abbrev pub message_of : Move → List Msg
message_of (Send m) = m ∷ []
message_of (Take number m) = []
message_of (Clear number) = []

-- the messages that these moves send, in order
abbrev pub sent_by : List Move → List Msg
sent_by [] = []
sent_by (move ∷ moves) = message_of move ++ sent_by moves

-- the message that a move delivers at the other end, if it is an accepted take
abbrev pub handed : Lane → Move → List Msg
handed l (Send m) = []
handed l (Take number m) = if is_ok (judged_take l number m) then m ∷ [] else []
handed l (Clear number) = []

-- the messages that these moves deliver at the other end, in order
abbrev pub taken_by : Lane → List Move → List Msg
taken_by l [] = []
taken_by l (move ∷ moves) = handed l move ++ taken_by (moved l move) moves

-- the result of each move
abbrev pub answers : Lane → List Move → List (Result (Unit {0}) Refusal)
answers l [] = []
answers l (move ∷ moves) = answer l move ∷ answers (moved l move) moves

-- the taken messages are the first `got` sent messages, in order, and the queue holds the sent messages after the first `base`
pub record InOrder (all taken : List Msg) (l : Lane) : Type 0 where
  pub taken_are_first : taken ≡ take l.got all
  pub waiting_are_rest : l.queue ≡ drop l.base all
  pub taken_were_sent : l.got ≤ length all
  pub receipted_were_taken : l.base ≤ l.got
  pub one_ahead : l.got ≤ l.base + 1

-- the lane law: every list of moves on a new lane, with any numbers, keeps the messages in order
abbrev pub LaneLaw : Type 0
LaneLaw = (inc : ℕ) (moves : List Move) → InOrder (sent_by moves) (taken_by (new_lane inc) moves) (run (new_lane inc) moves)
