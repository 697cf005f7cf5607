-- A run of the proxy: everything that arrives and leaves, over its clients' connections and over its connections to the server.
use Rattle.std.specs.Prelude.{ℕ, ◌+◌, ◌==◌, not, Bool, true, false, List, [], ◌∷◌, ◌++◌, Option, Some, None, if◌then◌else◌, filter, length}
use Rattle.proxy_core.specs.declared.proxy.Admission.{Admission}
use Rattle.proxy_core.specs.declared.proxy.Admission.TheVariants.{Queued, Denied, Deferred}
use Rattle.proxy_core.specs.declared.proxy.Outcome.{Outcome}
use Rattle.proxy_core.specs.declared.proxy.Outcome.TheVariants.{To, Ended, Retry, Unsolicited}
use Rattle.proxy_core.specs.Rules.{Rules, as_sent, next, needs_number}
use Rattle.proxy_core.specs.Pending.{Pending, new_pending, step}
use Rattle.proxy_core.specs.Machine.{Proxy, new_proxy, admission, after_admission, is_among, may_go, flown, picked, left, rest, firsts, put_back, counted, without_connection, outcome, after_outcome, lost, after_broken, taken_back, after_taken, sender_of, admission_after_view, may_connect}

-- a line that was accepted from a connection
pub record Request : Type 0 where
  pub place : ℕ  -- the number of lines accepted before this one; no code keeps it
  pub from : ℕ
  pub role : ℕ
  pub line : List ℕ

-- a line that was written to the server
pub record Sent : Type 0 where
  pub from : ℕ  -- the connection of the request
  pub place : ℕ  -- the place of the request
  pub serial : ℕ  -- the number of lines written before this one
  pub line : List ℕ
  pub number : ℕ  -- the line's number, if the proxy numbers the line
  pub is_once : Bool  -- the line must not be sent twice
  pub is_unnumbered : Bool  -- the line has a number that the proxy gave it
  pub is_first : Bool  -- the line was not sent before with this number
  pub taken : ℕ  -- the number of lines that had been accepted when this one was written

-- an answer that a connection received
pub record Delivery : Type 0 where
  pub to : ℕ
  pub place : ℕ  -- the place of the request
  pub answer : Option (List ℕ)  -- None if the proxy denied the line

-- an answer of the server, with the sent line that it answers: over each connection, the k-th answer is to the k-th line
pub record Answer : Type 0 where
  pub sent : Sent
  pub answer : List ℕ
  pub heard : ℕ  -- the number of lines that had been written when the answer was heard

-- a last number of the proxy's client that the loop found
pub record Count : Type 0 where
  pub last : ℕ
  pub sent : ℕ  -- the number of lines that had been written when the loop found it

pub record Run : Type 0 where
  pub proxy : Proxy
  pub requests : List Request
  pub in_flight : List Request  -- the requests of the flight
  pub queued : List Request  -- the requests that wait, in the order in which they may fly
  pub delivered : List Delivery
  pub ended : List ℕ  -- the connections that have ended
  pub sent : List Sent  -- each line that was ever written to the server
  pub wire : List Sent  -- the lines that were written over the present connection and have no answer yet
  pub answers : List Answer
  pub counts : List Count

pub data Event : Type 0 where
  Arrives : (c role : ℕ) → (line : List ℕ) → Event  -- a line arrives from a connection in this role
  Leaves : (c : ℕ) → Event  -- a connection ends
  Flies : (picks : List Bool) → Event  -- these waiting lines become the flight, if they may go
  Follows : (c role : ℕ) → (line : List ℕ) → Event  -- a line that needs a view arrives from a connection in this role; it is sent if it may follow the view that was just heard
  Answers : (answer : List ℕ) → Event  -- the server answers
  Breaks : Event  -- the connection to the server breaks
  TakesBack : (c : ℕ) → Event  -- the loop takes back the flight's first line, if this is an unnumbered order of connection c and the server's connection is down
  Connects : Event  -- the proxy connects to the server again, unless a line that needs a view has to be taken back first
  Counts : (last : ℕ) → Event  -- the loop found the last number of the proxy's client

abbrev pub new_run : Run
new_run = record { proxy = new_proxy; requests = []; in_flight = []; queued = []; delivered = []; ended = []; sent = []; wire = []; answers = []; counts = [] }

abbrev pub is_ended : ℕ → List ℕ → Bool
is_ended c ended = is_among c ended

abbrev pub without : ℕ → List Request → List Request
without c asks = filter (λ (a : Request). not (a.from == c)) asks

-- ---- a line arrives

abbrev pub next_request : Run → ℕ → ℕ → List ℕ → Request
next_request w c role line = record { place = length w.requests; from = c; role = role; line = line }

abbrev pub came : Rules → Run → ℕ → ℕ → List ℕ → Admission → Run
came r w c role line Queued = record w {
  proxy = after_admission Queued (new_pending c line (r.is_once line) (r.is_query line) (needs_number r line)) w.proxy;
  requests = w.requests ++ next_request w c role line ∷ [];
  queued = w.queued ++ next_request w c role line ∷ [];
}
came r w c role line Denied = record w {
  proxy = after_admission Denied (new_pending c line (r.is_once line) (r.is_query line) (needs_number r line)) w.proxy;
  requests = w.requests ++ next_request w c role line ∷ [];
  delivered = w.delivered ++ record { to = c; place = length w.requests; answer = None } ∷ [];
}
came r w c role line Deferred = record w { proxy = after_admission Deferred (new_pending c line (r.is_once line) (r.is_query line) (needs_number r line)) w.proxy }

-- ---- lines are written

abbrev pub first_place : List Request → ℕ
first_place [] = 0
first_place (a ∷ more) = a.place

-- the lines of a flight as they are written to the server, each with the place of its request
abbrev pub written : Rules → ℕ → Bool → ℕ → ℕ → List Request → List Pending → List Sent
written r taken first serial number asks [] = []
written r taken first serial number asks (x ∷ xs) =
    record { from = x.from; place = first_place asks; serial = serial; line = as_sent r (next number) x.is_unnumbered x.line; number = next number; is_once = x.is_once; is_unnumbered = x.is_unnumbered; is_first = first; taken = taken }
    ∷ written r taken first (serial + 1) (step x.is_unnumbered number) (rest asks) xs

abbrev pub went : Rules → List Bool → Run → Run
went r picks w = record w {
  proxy = flown picks w.proxy;
  in_flight = picked picks w.queued;
  queued = left picks w.queued;
  sent = w.sent ++ written r (length w.requests) true (length w.sent) w.proxy.last (picked picks w.queued) (picked picks w.proxy.waiting);
  wire = w.wire ++ written r (length w.requests) true (length w.sent) w.proxy.last (picked picks w.queued) (picked picks w.proxy.waiting);
}

abbrev pub by_view : Run → Run
by_view w = record w { proxy = record (w.proxy) { needs_view = true } }

-- a line that needs a view is accepted and written at once, or denied, or not taken
abbrev pub followed : Rules → Run → ℕ → ℕ → List ℕ → Admission → Run
followed r w c role line Queued = by_view (went r (true ∷ []) (came r w c role line Queued))
followed r w c role line Denied = came r w c role line Denied
followed r w c role line Deferred = w

abbrev pub connected : Rules → Run → Run
connected r w = record w {
  proxy = record (w.proxy) { is_up = true };
  sent = w.sent ++ written r (length w.requests) false (length w.sent) w.proxy.number w.in_flight w.proxy.flight;
  wire = written r (length w.requests) false (length w.sent) w.proxy.number w.in_flight w.proxy.flight;
}

-- ---- the server answers

abbrev pub answer_of : ℕ → List Sent → List ℕ → List Answer
answer_of heard [] answer = []
answer_of heard (s ∷ more) answer = record { sent = s; answer = answer; heard = heard } ∷ []

-- the deliveries with this answer added, unless its connection has ended: an ended connection receives nothing
abbrev pub delivered_too : List ℕ → List Delivery → ℕ → ℕ → List ℕ → List Delivery
delivered_too ended delivered c place answer = if is_ended c ended then delivered else delivered ++ record { to = c; place = place; answer = Some answer } ∷ []

abbrev pub said : Rules → Run → List ℕ → Outcome → Run
said r w answer (To c) = record w {
  proxy = after_outcome r answer (To c) w.proxy;
  in_flight = rest w.in_flight;
  delivered = delivered_too w.ended w.delivered c (first_place w.in_flight) answer;
  wire = rest w.wire;
  answers = w.answers ++ answer_of (length w.sent) w.wire answer;
}
said r w answer (Ended c) = record w {
  proxy = after_outcome r answer (Ended c) w.proxy;
  in_flight = rest w.in_flight;
  queued = without c w.queued;
  ended = c ∷ w.ended;
  wire = rest w.wire;
  answers = w.answers ++ answer_of (length w.sent) w.wire answer;
}
said r w answer (Retry c) = record w {
  proxy = after_outcome r answer (Retry c) w.proxy;
  in_flight = rest w.in_flight;
  queued = put_back w.proxy.refused (firsts w.in_flight) w.queued;
  wire = rest w.wire;
  answers = w.answers ++ answer_of (length w.sent) w.wire answer;
}
said r w answer Unsolicited = record w { proxy = after_outcome r answer Unsolicited w.proxy; wire = [] }

-- ---- the connection to the server breaks

abbrev pub broke : Run → Option ℕ → Run
broke w None = record w { proxy = after_broken None w.proxy; wire = [] }
broke w (Some c) = record w { proxy = after_broken (Some c) w.proxy; in_flight = rest w.in_flight; queued = without c w.queued; ended = c ∷ w.ended; wire = [] }

-- the run after an order is taken back: the order's connection counts as ended. If the loop keeps it open, it gets another number
abbrev pub took : Run → Option ℕ → Run
took w None = w
took w (Some number) = record w { proxy = after_taken (Some number) w.proxy; in_flight = rest w.in_flight; queued = without (sender_of w.proxy.flight) w.queued; ended = sender_of w.proxy.flight ∷ w.ended }

-- ----

-- the run after an event. An ended connection sends nothing, and no answer arrives while the proxy isn't connected to the server
abbrev pub happens : Rules → Run → Event → Run
happens r w (Arrives c role line) = if is_ended c w.ended then w else came r w c role line (admission r c role line w.proxy)
happens r w (Leaves c) = record w { proxy = without_connection c w.proxy; queued = without c w.queued; ended = c ∷ w.ended }
happens r w (Follows c role line) = if is_ended c w.ended then w else followed r w c role line (admission_after_view r c role line w.proxy)
happens r w (Flies picks) = if may_go picks w.proxy then went r picks w else w
happens r w (Answers answer) = if w.proxy.is_up then said r w answer (outcome r answer w.proxy) else w
happens r w Breaks = broke w (lost w.proxy)
happens r w (TakesBack c) = took w (taken_back c w.proxy)
happens r w Connects = if may_connect w.proxy then connected r w else w
happens r w (Counts last) = record w { proxy = counted last w.proxy; counts = w.counts ++ record { last = last; sent = length w.sent } ∷ [] }

abbrev pub run : Rules → Run → List Event → Run
run r w [] = w
run r w (event ∷ events) = run r (happens r w event) events
