-- What the proxy promises to its clients, to other connections and to the server, whatever happens.
use Rattle.std.specs.Prelude.{◌≡◌, ◌⊎◌, ℕ, ◌+◌, ◌≤◌, ◌<◌, ◌==◌, ◌&&◌, not, Bool, true, false, List, [], ◌∷◌, ◌++◌, Option, Some, None, length, map, take, drop, count_by, Contains}
use Rattle.std.specs.List.{AllByRecursion}
use Rattle.proxy_core.specs.Rules.{Rules, as_sent, next, needs_number}
use Rattle.proxy_core.specs.Pending.{Pending, new_pending, step, text_of}
use Rattle.proxy_core.specs.Machine.{held, is_alike}
use Rattle.proxy_core.specs.Numbers.{AreSerial, HasOneNumber, IsFresh, IsInOrder, asks_again}
use Rattle.proxy_core.specs.Views.{FollowViews}
use Rattle.proxy_core.specs.Run.{Request, Sent, Delivery, Answer, Run, Event, new_run, is_ended, run}

-- ---- the lines of one connection

abbrev pub place_if : Bool → ℕ → List ℕ
place_if true place = place ∷ []
place_if false place = []

-- the places of connection c's lines, in order
abbrev pub places_of : ℕ → List Request → List ℕ
places_of c [] = []
places_of c (a ∷ more) = place_if (a.from == c) a.place ++ places_of c more

-- the places of the lines that connection c received an answer to, in order
abbrev pub places_delivered : ℕ → List Delivery → List ℕ
places_delivered c [] = []
places_delivered c (t ∷ more) = place_if (t.to == c) t.place ++ places_delivered c more

-- the places of connection c's lines that have no answer, in order: the first `refused` of the queued requests wait again, and
-- come before those in flight
abbrev pub hand : ℕ → ℕ → List Request → List Request → List ℕ
hand c refused in_flight queued = places_of c (take refused queued) ++ (places_of c in_flight ++ places_of c (drop refused queued))

-- the places of the requests are n, n + 1, n + 2 ..
abbrev pub AreNumbered : ℕ → List Request → Type 0
AreNumbered n [] = Unit {0}
AreNumbered n (a ∷ more) = (a.place ≡ n) × AreNumbered (n + 1) more

-- a request as the proxy holds it
abbrev pub pending_of : Rules → Request → Pending
pending_of r a = new_pending a.from a.line (r.is_once a.line) (r.is_query a.line) (needs_number r a.line)

-- a request as a line that is written to the server
abbrev pub sending : Rules → ℕ → Bool → ℕ → ℕ → Request → Sent
sending r taken first serial number a = record { from = a.from; place = a.place; serial = serial; number = number; line = as_sent r number (needs_number r a.line) a.line; is_once = r.is_once a.line; is_unnumbered = needs_number r a.line; is_first = first; taken = taken }

-- the requests of a flight as lines that are written to the server
abbrev pub sendings : Rules → ℕ → Bool → ℕ → ℕ → List Request → List Sent
sendings r taken first serial number [] = []
sendings r taken first serial number (a ∷ more) = sending r taken first serial (next number) a ∷ sendings r taken first (serial + 1) (step (needs_number r a.line) number) more

-- the bytes of lines as they are written to the server, each with a line feed
abbrev pub bytes_of : List Sent → List ℕ
bytes_of [] = []
bytes_of (s ∷ more) = (s.line ++ (10 ∷ [])) ++ bytes_of more

-- ---- what is sent

-- the sent line is, byte for byte, the line of a request that arrived earlier, or the proxy's form of it if the request is an
-- unnumbered order; and the request's sender may send it
pub record IsAllowed (r : Rules) (requests : List Request) (s : Sent) : Type 0 where
  pub ask : Request
  pub requested : Contains requests ask
  pub from : ask.from ≡ s.from
  pub place : ask.place ≡ s.place
  pub unnumbered : needs_number r ask.line ≡ s.is_unnumbered
  pub line : as_sent r s.number s.is_unnumbered ask.line ≡ s.line
  pub once : r.is_once ask.line ≡ s.is_once
  pub before : ask.place < s.taken
  pub may : r.allows ask.role ask.line ≡ true

-- the line was sent for the request at this place, and must not be sent twice
abbrev pub is_once_at : ℕ → Sent → Bool
is_once_at place s = (s.place == place) && s.is_once

-- the line is a new one for the request at this place: no line was sent for the request with the same number before
abbrev pub is_first_at : ℕ → Sent → Bool
is_first_at place s = (s.place == place) && s.is_first

-- the answer refuses the number of a new line for the request at this place
abbrev pub refuses_number_at : Rules → ℕ → Answer → Bool
refuses_number_at r place h = (h.sent.place == place) && asks_again r h

-- the lines sent include a new line for the same request, with the same number and the same bytes
abbrev pub IsKnown : List Sent → Sent → Type 0
IsKnown sent s = (t : Sent) × Contains sent t × (t.is_first ≡ true) × (t.place ≡ s.place) × (t.number ≡ s.number) × (t.line ≡ s.line)

-- ---- what is answered

-- the delivered answer is the server's answer to a line that was sent for that very request, after the request arrived
pub record IsAnswerTo (r : Rules) (requests : List Request) (sent : List Sent) (t : Delivery) (h : Answer) : Type 0 where
  pub ask : Request
  pub requested : Contains requests ask
  pub to : ask.from ≡ t.to
  pub place : ask.place ≡ t.place
  pub sent_it : Contains sent h.sent
  pub same_place : h.sent.place ≡ ask.place
  pub same_line : h.sent.line ≡ as_sent r h.sent.number (needs_number r ask.line) ask.line
  pub after : ask.place < h.sent.taken
  pub answer : t.answer ≡ Some h.answer

-- each delivery belongs to one of the answers, in the same order, and no two deliveries belong to the same answer
abbrev pub AreOf : (Delivery → Answer → Type 0) → List Delivery → List Answer → Type 0
AreOf P [] answers = Unit {0}
AreOf P (t ∷ more) [] = ⊥
AreOf P (t ∷ more) (h ∷ answers) = (P t h × AreOf P more answers) ⊎ AreOf P (t ∷ more) answers

-- the delivery, if it is an answer of the server; none if it is a denial by the proxy
abbrev pub one_by_server : Delivery → Option (List ℕ) → List Delivery
one_by_server t None = []
one_by_server t (Some answer) = t ∷ []

abbrev pub by_server : List Delivery → List Delivery
by_server [] = []
by_server (t ∷ more) = one_by_server t t.answer ++ by_server more

-- if the delivery is a denial, the connection sent a line at this place that it may not send
abbrev pub IsDenied : Rules → List Request → Delivery → Option (List ℕ) → Type 0
IsDenied r requests t None = (a : Request) × Contains requests a × (a.from ≡ t.to) × (a.place ≡ t.place) × (r.allows a.role a.line ≡ false)
IsDenied r requests t (Some answer) = Unit {0}

abbrev pub IsDeniedRightly : Rules → List Request → Delivery → Type 0
IsDeniedRightly r requests t = IsDenied r requests t t.answer

-- ----

pub record Keeps (r : Rules) (w : Run) : Type 0 where
  -- the places of the accepted lines are 0, 1, 2 ..
  pub numbered : AreNumbered 0 w.requests
  -- a connection receives the answers to its lines in the order of the lines, none twice and none omitted
  pub in_turn : (c : ℕ) → (more : List ℕ) × (places_delivered c w.delivered ++ more ≡ places_of c w.requests)
  -- until a connection ends, each of its lines that has no answer is in flight, waits, or waits again
  pub in_hand : (c : ℕ) → is_ended c w.ended ≡ false → places_delivered c w.delivered ++ hand c w.proxy.refused w.in_flight w.queued ≡ places_of c w.requests
  -- the proxy's state holds exactly these lines: those in flight, and those that wait
  pub flying : w.proxy.flight ≡ map (pending_of r) w.in_flight
  pub waiting : w.proxy.waiting ≡ map (pending_of r) w.queued
  -- the lines that wait again are the first `refused` of the waiting lines
  pub refused : w.proxy.refused ≤ length w.queued
  -- over the present connection, the lines that the server has not answered are exactly those of the flight, so the next answer
  -- is to the flight's first line
  pub wire : w.proxy.is_up ≡ true → (taken : ℕ) × (serial : ℕ) × (w.wire ≡ sendings r taken (not w.proxy.is_resent) serial w.proxy.number w.in_flight)
  -- these lines were written with the bytes of `flight_text`
  pub text : w.proxy.is_up ≡ true → text_of r w.proxy.number w.proxy.flight ≡ bytes_of w.wire
  -- an answer that a connection receives, unless it is a denial, is the server's answer to a line that was sent for that very
  -- request, after the request arrived; no answer is delivered twice
  pub own : AreOf (IsAnswerTo r w.requests w.sent) (by_server w.delivered) w.answers
  -- a line is denied only if the rules do not allow it
  pub denied : AllByRecursion (IsDeniedRightly r w.requests) w.delivered
  -- each line sent to the server was sent for a request whose sender may send it
  pub allowed : AllByRecursion (IsAllowed r w.requests) w.sent
  -- for each request, a line that must not be sent twice is sent at most once
  pub once : (place : ℕ) → count_by (is_once_at place) w.sent ≤ 1
  -- for each request, at most one line is sent that repeats no earlier line, and one more for each answer that refuses the number
  -- of such a new line
  pub renumbered : (place : ℕ) → count_by (is_first_at place) w.sent ≤ 1 + count_by (refuses_number_at r place) w.answers
  -- each other line sent repeats, byte for byte, a new line for the same request
  pub again : AllByRecursion (λ s. s.is_first ≡ false → IsKnown w.sent s) w.sent
  -- an answered line was sent after all lines sent for older requests of its connection, unless the answer refuses the line's
  -- number and the line was not sent before with that number
  pub in_order : IsInOrder r w
  -- the serial numbers of the lines sent are 0, 1, 2 ..
  pub serial : AreSerial 0 w.sent
  -- two lines for the same request have different numbers only if the server refused the number of the earlier line
  pub one_number : HasOneNumber r w
  -- two lines for different requests have the same number only if it is known that the earlier line did not use the number
  pub fresh : IsFresh r w
  -- a line that needs a view is sent only if the answer to the line sent just before it permits it and has already been heard
  pub follow_views : FollowViews r w
  -- no connection takes all the room: at most 64 lines of each connection are in flight or wait
  pub few : (c : ℕ) → held c w.proxy ≤ 64
  pub flight : length w.proxy.flight ≤ 256
  -- no flight has both queries and orders, so the server answers a query without a commit
  pub alike : is_alike w.proxy.flight ≡ true

abbrev pub EveryRun : Type 0
EveryRun = (r : Rules) (events : List Event) → Keeps r (run r new_run events)
