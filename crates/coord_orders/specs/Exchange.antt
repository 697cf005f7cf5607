-- A model of a client, the lines and answers in transit, and the part of the server that concerns the client's orders.
use Rattle.std.specs.Prelude.{ℕ, zero, suc, ◌+◌, ◌==◌, nat_le, max, min, Bool, false, List, [], ◌∷◌, ◌++◌, Option, Some, None, Result, Ok, Err, if◌then◌else◌, length, take, slice_get}
use Rattle.coord_types.specs.declared.refusals.Refusal.{Refusal}
use Rattle.coord_types.specs.declared.steps.Command.{Command}
use Rattle.coord_types.specs.declared.steps.Reply.{Reply}
use Rattle.coord_types.specs.declared.steps.Session.{Session}
use Rattle.coord_types.specs.declared.steps.Step.{Step}
use Rattle.coord_types.specs.declared.steps.Step.TheVariants.{Order, Take, Clear}
use Rattle.coord_world.specs.declared.verdicts.Verdict.{Verdict}
use Rattle.coord_world.specs.declared.verdicts.Verdict.TheVariants.{Fresh, Repeat}
use Rattle.coord_world.specs.Facade.{World, accepts, fold, next, reply}
use Rattle.coord_orders.specs.declared.book.Kept.{Kept}
use Rattle.coord_orders.specs.declared.book.Line.{Line}
use Rattle.coord_orders.specs.declared.book.OrderBook.{OrderBook}
use Rattle.coord_orders.specs.declared.meaning.Answer.{Answer}
use Rattle.coord_orders.specs.declared.meaning.Answer.TheVariants.{Replied, Refused}
use Rattle.coord_orders.specs.declared.meaning.Meaning.{Meaning}
use Rattle.coord_orders.specs.declared.meaning.Meaning.TheVariants.{Done, NotDone, SendAgain, CountLost}
use Rattle.coord_orders.specs.Meanings.{meaning_of_refusal}
use Rattle.coord_orders.specs.Book.{heard, line_of, opened, sending, written}

-- a line that was sent, with its serial number
pub record Sent : Type 0 where
  pub serial : ℕ
  pub line : Line

-- a reply that waits until its step is settled, with the serial number of the line that it answers
pub record Owed : Type 0 where
  pub serial : ℕ
  pub reply : Reply

pub record Given : Type 0 where
  pub serial : ℕ
  pub answer : Answer

pub record Exchange : Type 0 where
  pub book : OrderBook
  pub done : List Session  -- the orders that the client noted as done, in order, each with its number and reply
  pub sent : ℕ  -- the number of lines ever sent
  pub under_way : List Sent  -- the lines that may still reach the server, oldest first
  pub trail : List Step  -- the accepted steps, of all clients
  pub settled : ℕ  -- the number of settled steps
  pub owed : List Owed
  pub answers : List Given  -- all answers ever given, including those that were lost

-- the initial state: the client's last number is `last`, and the server's trail is empty
abbrev pub begun : ℕ → Exchange
begun last = record { book = opened (record { last = last; in_hand = None }); done = []; sent = 0; under_way = []; trail = []; settled = 0; owed = []; answers = [] }

-- an event at the client, at the server or between them
pub data Event : Type 0 where
  Write : Command → Event  -- the client records an order
  Send : Event  -- the client sends its order in hand, for the first time or again
  Lose : (k : ℕ) → Event  -- the k-th line in transit is lost, or the server rejects it unread
  Arrive : Event  -- the oldest line in transit reaches the server, which judges it
  TurnAway : (serial : ℕ) → Refusal → Event  -- the server answers a line by a refusal that leaves the outcome of its order unknown, whatever happened to the line
  Other : Step → Event  -- the server accepts a step that is not an order of the client
  Settle : (n : ℕ) → Event  -- the first n steps are settled, if fewer were
  Release : (k : ℕ) → Event  -- the k-th waiting reply is given, if its step is settled
  Hear : (k : ℕ) → Event  -- the client receives the k-th answer ever given: late, again or for the first time
  Crash : Event  -- the client crashes: its stored book is kept
  Fall : (n : ℕ) → Event  -- the server crashes: the first n steps and all settled steps survive

-- ---- the client

abbrev pub with_book : Exchange → Option OrderBook → Exchange
with_book e None = e
with_book e (Some book) = record e { book = book }

abbrev pub with_line : Exchange → Option Line → Exchange
with_line e None = e
with_line e (Some line) = record e { book = sending e.book e.sent; sent = e.sent + 1; under_way = e.under_way ++ (record { serial = e.sent; line = line } ∷ []) }

abbrev pub noted_as : ℕ → Option Command → Reply → List Session
noted_as last None r = []
noted_as last (Some x) r = record { number = last + 1; command = x; reply = r } ∷ []

-- the orders that the client notes as done after an answer with this meaning
abbrev pub noted : Kept → Meaning → List Session
noted kept (Done r) = noted_as kept.last kept.in_hand r
noted kept NotDone = []
noted kept SendAgain = []
noted kept CountLost = []

abbrev pub noted_if : Kept → Option Meaning → List Session
noted_if kept None = []
noted_if kept (Some m) = noted kept m

abbrev pub with_answer : Exchange → Option Given → Exchange
with_answer e None = e
with_answer e (Some g) =
    let h = heard e.book g.serial g.answer in
    record e { book = h.book; done = e.done ++ noted_if e.book.kept h.meaning }

-- ---- the server

abbrev pub without : ℕ → List Sent → List Sent
without k [] = []
without zero (l ∷ ls) = ls
without (suc k) (l ∷ ls) = l ∷ without k ls

abbrev pub order_by : ℕ → Line → Step
order_by c line = Order c line.number line.command

-- the state after the server's verdict on a line
abbrev pub answered : ℕ → World → Sent → Exchange → Result Verdict Refusal → Exchange
answered c w l e (Ok (Fresh kind)) = record e {
  trail = e.trail ++ (order_by c l.line ∷ []);
  owed = e.owed ++ (record { serial = l.serial; reply = reply w (order_by c l.line) } ∷ []);
}
answered c w l e (Ok (Repeat r)) = record e { owed = e.owed ++ (record { serial = l.serial; reply = r } ∷ []) }
answered c w l e (Err refusal) = record e { answers = e.answers ++ (record { serial = l.serial; answer = Refused refusal } ∷ []) }

abbrev pub arrived : ℕ → World → Exchange → List Sent → Exchange
arrived c w e [] = e
arrived c w e (l ∷ ls) = answered c w l (record e { under_way = ls }) (accepts w w (order_by c l.line))

abbrev pub turned_away : Exchange → ℕ → Refusal → Meaning → Exchange
turned_away e serial refusal SendAgain = record e { answers = e.answers ++ (record { serial = serial; answer = Refused refusal } ∷ []) }
turned_away e serial refusal (Done r) = e
turned_away e serial refusal NotDone = e
turned_away e serial refusal CountLost = e

abbrev pub is_by : ℕ → Step → Bool
is_by c (Order d n x) = d == c
is_by c (Take p) = false
is_by c (Clear p) = false

abbrev pub released : World → Exchange → Option Owed → Exchange
released base e None = e
released base e (Some o) =
    if nat_le o.reply.step (base.count + e.settled) then record e { answers = e.answers ++ (record { serial = o.serial; answer = Replied o.reply } ∷ []) } else e

-- ----

abbrev pub happens : ℕ → World → Exchange → Event → Exchange
happens c base e (Write x) = with_book e (written e.book x)
happens c base e Send = with_line e (line_of e.book.kept)
happens c base e (Lose k) = record e { under_way = without k e.under_way }
happens c base e Arrive = arrived c (fold base e.trail) e e.under_way
happens c base e (TurnAway serial refusal) = turned_away e serial refusal (meaning_of_refusal refusal)
happens c base e (Other s) = if is_by c s then e else record e { trail = e.trail ++ (s ∷ []) }
happens c base e (Settle n) = record e { settled = max e.settled (min n (length e.trail)) }
happens c base e (Release k) = released base e (slice_get e.owed k)
happens c base e (Hear k) = with_answer e (slice_get e.answers k)
happens c base e Crash = record e { book = opened e.book.kept }
happens c base e (Fall n) = record e { trail = take (max n e.settled) e.trail; owed = [] }

-- the state after these events, for client c and a server with this base world
abbrev pub run : ℕ → World → Exchange → List Event → Exchange
run c base e [] = e
run c base e (event ∷ events) = run c base (happens c base e event) events

-- ---- the client's orders among the steps that a world takes, with their replies

abbrev pub order_of : ℕ → World → Step → List Session
order_of c w (Order d n x) = if d == c then record { number = n; command = x; reply = reply w (Order d n x) } ∷ [] else []
order_of c w (Take p) = []
order_of c w (Clear p) = []

abbrev pub orders_of : ℕ → World → List Step → List Session
orders_of c w [] = []
orders_of c w (s ∷ ss) = order_of c w s ++ orders_of c (next w s) ss
