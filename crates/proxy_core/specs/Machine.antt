-- The proxy's state, and its state after each call.
use Rattle.std.specs.Prelude.{ℕ, ◌+◌, ◌-◌, ◌==◌, ◌&&◌, ◌||◌, not, max, nat_le, nat_lt, Bool, true, false, List, [], ◌∷◌, ◌++◌, Option, Some, None, if◌then◌else◌, filter, count_by, length, take, drop}
use Rattle.std.specs.List.{list_all, list_any}
use Rattle.proxy_core.specs.declared.choice.Kind.{Kind}
use Rattle.proxy_core.specs.declared.choice.Kind.TheVariants.{Any, Alone, Queries, Orders}
use Rattle.proxy_core.specs.declared.proxy.Admission.{Admission}
use Rattle.proxy_core.specs.declared.proxy.Admission.TheVariants.{Queued, Denied, Deferred}
use Rattle.proxy_core.specs.declared.proxy.Outcome.{Outcome}
use Rattle.proxy_core.specs.declared.proxy.Outcome.TheVariants.{To, Ended, Retry, Unsolicited}
use Rattle.proxy_core.specs.Rules.{Rules, needs_number, next}
use Rattle.proxy_core.specs.Pending.{Pending, is_from, step}

pub record Proxy : Type 0 where
  pub flight : List Pending  -- the lines that were sent, or are to be sent again; the next answer is to the first line
  pub waiting : List Pending  -- the waiting lines, in the order in which they may fly
  pub refused : ℕ  -- how many waiting lines, the first ones, were in this flight until the server refused their numbers
  pub is_up : Bool  -- the proxy is connected to the server
  pub is_resent : Bool  -- the flight was sent before, over a connection that broke
  pub number : ℕ  -- the number before the first number of the flight
  pub last : ℕ  -- the last number of the proxy's client that the proxy knows of
  pub is_counted : Bool  -- the last number is known: no sending with a higher number can have been carried out
  pub has_refusal : Bool  -- an order of the flight was refused on its merits, so the server refuses the numbers after it
  pub needs_view : Bool  -- the flight is a single line that needs a view: the line is neither sent again nor given another number
  pub view : Option (List ℕ)  -- the answer to the last line that was sent, if that line is a query and the connection has not broken since

abbrev pub new_proxy : Proxy
new_proxy = record { flight = []; waiting = []; refused = 0; is_up = false; is_resent = false; number = 0; last = 0; is_counted = false; has_refusal = false; needs_view = false; view = None }

-- the number of a connection's lines that have no answer
abbrev pub held : ℕ → Proxy → ℕ
held c f = count_by (is_from c) f.flight + count_by (is_from c) f.waiting

-- ---- a line arrives

-- what becomes of a line that its sender may not send: it is deferred until all earlier lines of its connection have their
-- answers, and then denied
abbrev pub denial : ℕ → Proxy → Admission
denial c f = if held c f == 0 then Denied else Deferred

-- what becomes of a line that arrives: it waits for the server if fewer than 64 lines of its connection have no answer, and if it
-- needs no view; else it is deferred
abbrev pub admission : Rules → ℕ → ℕ → List ℕ → Proxy → Admission
admission r c role line f =
    if r.allows role line then (if not (r.needs_view line) && nat_lt (held c f) 64 then Queued else Deferred)
    else denial c f

abbrev pub after_admission : Admission → Pending → Proxy → Proxy
after_admission Queued a f = record f { waiting = f.waiting ++ a ∷ [] }
after_admission Denied a f = f
after_admission Deferred a f = f

-- a line of connection c that its role may not send
abbrev pub is_denied : Rules → ℕ → ℕ → Pending → Bool
is_denied r c role a = is_from c a && not (r.allows role a.line)

abbrev pub has_denied : Rules → ℕ → ℕ → Proxy → Bool
has_denied r c role f = list_any (is_denied r c role) f.waiting

-- ---- a flight is sent

abbrev pub is_none : List Pending → Bool
is_none [] = true
is_none (a ∷ more) = false

-- these lines may fly together: there are at most 256, and a line that must not be sent twice flies alone
abbrev pub is_flight : List Pending → Bool
is_flight lines = nat_le (length lines) 256 && (length lines == 1 || list_all (λ a. not a.is_once) lines)

-- all of these lines are queries, or none of them is
abbrev pub is_alike : List Pending → Bool
is_alike lines = list_all (λ a. a.is_query) lines || list_all (λ a. not a.is_query) lines

-- the waiting lines that are picked; `left` has the waiting lines that stay
abbrev pub picked : {X : Type 0} → List Bool → List X → List X
picked [] waiting = []
picked (pick ∷ picks) [] = []
picked (true ∷ picks) (a ∷ more) = a ∷ picked picks more
picked (false ∷ picks) (a ∷ more) = picked picks more

abbrev pub left : {X : Type 0} → List Bool → List X → List X
left [] waiting = waiting
left (pick ∷ picks) [] = []
left (true ∷ picks) (a ∷ more) = left picks more
left (false ∷ picks) (a ∷ more) = a ∷ left picks more

abbrev pub is_among : ℕ → List ℕ → Bool
is_among c [] = false
is_among c (d ∷ ds) = (d == c) || is_among c ds

-- no line is picked if an older line of its connection stays; `stay` has the connections of the lines before this list that stay
abbrev pub is_in_turn : List ℕ → List Bool → List Pending → Bool
is_in_turn stay [] waiting = true
is_in_turn stay (pick ∷ picks) [] = true
is_in_turn stay (true ∷ picks) (a ∷ more) = not (is_among a.from stay) && is_in_turn stay picks more
is_in_turn stay (false ∷ picks) (a ∷ more) = is_in_turn (a.from ∷ stay) picks more

-- a line may get a number now: an unnumbered order flies only while the last number is known
abbrev pub is_ready : Bool → Pending → Bool
is_ready counted a = counted || not a.is_unnumbered

abbrev pub may_go : List Bool → Proxy → Bool
may_go picks f =
    f.is_up && (is_none f.flight && (is_flight (picked picks f.waiting) && (is_alike (picked picks f.waiting) && (is_in_turn [] picks f.waiting && list_all (is_ready f.is_counted) (picked picks f.waiting)))))

-- ---- the choice of a flight

-- whether a line may fly in a flight of this kind
abbrev pub joins : Kind → Pending → Bool
joins Any a = true
joins Alone a = false
joins Queries a = not a.is_once && a.is_query
joins Orders a = not a.is_once && not a.is_query

abbrev pub kind_of : Pending → Kind
kind_of a = if a.is_once then Alone else (if a.is_query then Queries else Orders)

-- the kind of a flight after this line joins it: the line's kind if the flight had no line, else the same kind
abbrev pub kind_with : Kind → Pending → Kind
kind_with Any a = kind_of a
kind_with Alone a = Alone
kind_with Queries a = Queries
kind_with Orders a = Orders

abbrev pub kind_after : Bool → Kind → Pending → Kind
kind_after goes kind a = if goes then kind_with kind a else kind

abbrev pub room_after : Bool → ℕ → ℕ
room_after goes room = if goes then room - 1 else room

-- whether a line may fly: there is room, its number is known, the line is of this kind, and its connection is not in `stay`
abbrev pub may_join : Bool → Kind → ℕ → List ℕ → Pending → Bool
may_join counted kind room stay a = nat_lt 0 room && (is_ready counted a && (joins kind a && not (is_among a.from stay)))

-- the result of a round: for each waiting line whether it flies, the kind of the flight, and how many more lines it has room for
pub record Round : Type 0 where
  pub picks : List Bool
  pub kind : Kind
  pub room : ℕ

abbrev pub with_pick : Bool → Round → Round
with_pick goes round = record { picks = goes ∷ round.picks; kind = round.kind; room = round.room }

-- the first round picks the first waiting line of each connection, if the line may fly; the oldest picked line sets the kind
abbrev pub first_round : Bool → Kind → ℕ → List ℕ → List Pending → Round
first_round counted kind room seen [] = record { picks = []; kind = kind; room = room }
first_round counted kind room seen (a ∷ more) =
    with_pick (may_join counted kind room seen a) (first_round counted (kind_after (may_join counted kind room seen a) kind a) (room_after (may_join counted kind room seen a) room) (a.from ∷ seen) more)

abbrev pub is_begun : Kind → Bool
is_begun Any = false
is_begun Alone = true
is_begun Queries = true
is_begun Orders = true

-- after an unnumbered order that flies, a line of the same connection may join only if it is an unnumbered order too, and only if
-- a connection's unnumbered orders fly together: if the server refuses the first order's number, it also refuses the later
-- numbers. But the server would carry out an order that came with a number, and the answer to that order would come too early
abbrev pub keeps_up : Bool → List ℕ → Pending → Bool
keeps_up together own a = (together && a.is_unnumbered) || not (is_among a.from own)

-- whether a line flies in the second round: it was picked in the first round, or it may join while there is room
abbrev pub may_fill : Bool → Bool → Kind → ℕ → List ℕ → List ℕ → Bool → Pending → Bool
may_fill counted together kind room stay own leads a = leads || (is_begun kind && (may_join counted kind room stay a && keeps_up together own a))

-- the connections with a line that stays, up to and including this line
abbrev pub stay_after : Bool → Pending → List ℕ → List ℕ
stay_after goes a stay = if goes then stay else a.from ∷ stay

-- the connections with an unnumbered order in the flight, up to and including this line
abbrev pub own_after : Bool → Pending → List ℕ → List ℕ
own_after goes a own = if goes && a.is_unnumbered then a.from ∷ own else own

abbrev pub second_round : Bool → Bool → Kind → ℕ → List ℕ → List ℕ → List Bool → List Pending → List Bool
second_round counted together kind room stay own [] waiting = []
second_round counted together kind room stay own (leads ∷ picks) [] = []
second_round counted together kind room stay own (leads ∷ picks) (a ∷ more) =
    may_fill counted together kind room stay own leads a
    ∷ second_round counted together kind (room_after (not leads && may_fill counted together kind room stay own leads a) room) (stay_after (may_fill counted together kind room stay own leads a) a stay)
    (own_after (may_fill counted together kind room stay own leads a) a own) picks more

abbrev pub led : Bool → List Pending → Round
led counted waiting = first_round counted Any 256 [] waiting

-- for each waiting line, whether it is in the next flight
abbrev pub picks_of : Bool → Bool → List Pending → List Bool
picks_of counted together waiting = second_round counted together (led counted waiting).kind (led counted waiting).room [] [] (led counted waiting).picks waiting

abbrev pub flown : List Bool → Proxy → Proxy
flown picks f = record f { flight = picked picks f.waiting; waiting = left picks f.waiting; refused = 0; is_resent = false; number = f.last; has_refusal = false; needs_view = false; view = None }

-- ---- a line that needs a view

abbrev pub is_permitted : Rules → Option (List ℕ) → List ℕ → Bool
is_permitted r None line = false
is_permitted r (Some view) line = r.permits view line

-- a line that needs a view may be sent: the proxy is connected, no line is without an answer, the line's number is known, and the
-- view that was just heard permits the line
abbrev pub may_follow : Rules → List ℕ → Proxy → Bool
may_follow r line f = f.is_up && (is_none f.flight && (is_none f.waiting && ((f.is_counted || not (needs_number r line)) && is_permitted r f.view line)))

-- what becomes of a line that needs a view: it is sent at once if it may be sent, else it is not taken
abbrev pub admission_after_view : Rules → ℕ → ℕ → List ℕ → Proxy → Admission
admission_after_view r c role line f =
    if r.allows role line then (if may_follow r line f then Queued else Deferred)
    else denial c f

-- a line that needs a view, once it is taken, is the only line of the next flight
abbrev pub after_following : Admission → Pending → Proxy → Proxy
after_following Queued a f = record (flown (true ∷ []) (after_admission Queued a f)) { needs_view = true }
after_following Denied a f = f
after_following Deferred a f = f

-- ---- the last number was found

abbrev pub counted : ℕ → Proxy → Proxy
counted last f = record f { last = last; is_counted = true }

-- ---- a connection ended: its waiting lines are not sent

-- how many lines of connection c wait again because the server refused their numbers in this flight
abbrev pub refused_from : ℕ → Proxy → ℕ
refused_from c f = count_by (is_from c) (take f.refused f.waiting)

abbrev pub without_connection : ℕ → Proxy → Proxy
without_connection c f = record f { waiting = filter (λ a. not (is_from c a)) f.waiting; refused = f.refused - refused_from c f }

-- ---- an answer arrives

-- an older line of this connection waits again, because the server refused its number in this flight. If no other process orders
-- as the proxy's client, a server that judges by its session rule then also refuses the numbers of all later unnumbered orders of
-- the flight, unless it answers Stopped, OutOfMemory, PendingFull or Exhausted: the server checks for these before the number
abbrev pub is_late : Proxy → ℕ → Bool
is_late f c = nat_lt 0 (refused_from c f)

abbrev pub outcome_of : Rules → List ℕ → Bool → Bool → (ℕ → Bool) → List Pending → Outcome
outcome_of r answer again needs_view is_late [] = Unsolicited
outcome_of r answer again needs_view is_late (a ∷ more) =
    if a.is_unnumbered && r.refuses_number answer then (if again || needs_view then Ended a.from else Retry a.from)
    else (if (again && r.is_inconclusive answer) || is_late a.from then Ended a.from else To a.from)

-- where the answer goes: to the connection of the flight's first line. That connection ends instead if the answer does not say
-- whether a line that was sent twice was carried out, or would come before the answer to an older line. If the answer refuses the
-- number of a line that was sent once, the line waits for another number; but if the line was sent twice or needs a view, its
-- connection ends
abbrev pub outcome : Rules → List ℕ → Proxy → Outcome
outcome r answer f = if f.is_up then outcome_of r answer f.is_resent f.needs_view (is_late f) f.flight else Unsolicited

abbrev pub rest : {X : Type 0} → List X → List X
rest [] = []
rest (a ∷ more) = more

abbrev pub firsts : {X : Type 0} → List X → List X
firsts [] = []
firsts (a ∷ more) = a ∷ []

abbrev pub begins_own : List Pending → Bool
begins_own [] = false
begins_own (a ∷ more) = a.is_unnumbered

-- whether the last number is still known after this answer to an unnumbered order: the answer says whether the number was used,
-- or it refuses the number after an order of the same flight, which was sent once, was refused on its merits
abbrev pub is_counted_after : Rules → List ℕ → Proxy → Bool
is_counted_after r answer f =
    f.is_counted && (r.uses_number answer || (r.is_refusal answer || (r.refuses_number answer && (f.has_refusal && not f.is_resent))))

-- the proxy's numbers after an answer to an unnumbered order
abbrev pub after_number : Rules → List ℕ → Proxy → Proxy
after_number r answer f = record f {
  number = next f.number;
  last = if r.uses_number answer then max f.last (next f.number) else f.last;
  is_counted = is_counted_after r answer f;
  has_refusal = f.has_refusal || r.is_refusal answer;
}

abbrev pub begins_query : List Pending → Bool
begins_query [] = false
begins_query (a ∷ more) = a.is_query

-- this answer, if it is to the last line of a flight and that line is a query
abbrev pub view_after : List ℕ → List Pending → Option (List ℕ)
view_after answer flight = if begins_query flight && length flight == 1 then Some answer else None

-- the state after the first line of the flight gets its answer
abbrev pub after_first_answer : Rules → List ℕ → Proxy → Proxy
after_first_answer r answer f = record f {
  flight = rest f.flight;
  number = step (begins_own f.flight) f.number;
  last = if begins_own f.flight && r.uses_number answer then max f.last (next f.number) else f.last;
  is_counted = if begins_own f.flight then is_counted_after r answer f else f.is_counted;
  has_refusal = f.has_refusal || (begins_own f.flight && r.is_refusal answer);
  view = view_after answer f.flight;
}

-- lines whose numbers were refused wait again, after the lines of the flight that already wait again and before all other lines
abbrev pub put_back : {X : Type 0} → ℕ → List X → List X → List X
put_back refused lines waiting = take refused waiting ++ (lines ++ drop refused waiting)

abbrev pub after_outcome : Rules → List ℕ → Outcome → Proxy → Proxy
after_outcome r answer (To c) f = after_first_answer r answer f
after_outcome r answer (Ended c) f = without_connection c (after_first_answer r answer f)
after_outcome r answer (Retry c) f = record (after_first_answer r answer f) { waiting = put_back f.refused (firsts f.flight) f.waiting; refused = f.refused + 1 }
-- nothing was in flight: the loop closes the connection to the server
after_outcome r answer Unsolicited f = record f { is_up = false; view = None }

-- ---- the connection to the server breaks

-- the connection of the flight's first line, if that line must not be sent twice
abbrev pub lost_of : List Pending → Option ℕ
lost_of [] = None
lost_of (a ∷ more) = if a.is_once then Some a.from else None

abbrev pub lost : Proxy → Option ℕ
lost f = lost_of f.flight

abbrev pub after_broken : Option ℕ → Proxy → Proxy
after_broken None f = record f { is_up = false; is_resent = true; view = None }
after_broken (Some c) f = without_connection c (record f { flight = rest f.flight; is_up = false; is_resent = true; view = None })

-- ---- an order is taken back, while the connection to the server is down

-- the first line of the flight is an unnumbered order of this connection
abbrev pub begins_order : ℕ → List Pending → Bool
begins_order c [] = false
begins_order c (a ∷ more) = a.is_unnumbered && is_from c a

-- the number that this order was sent with; None if the order is not taken back
abbrev pub taken_back : ℕ → Proxy → Option ℕ
taken_back c f = if f.is_up then None else (if begins_order c f.flight then Some (next f.number) else None)

abbrev pub sender_of : List Pending → ℕ
sender_of [] = 0
sender_of (a ∷ more) = a.from

-- the order is not sent again. The server may have used the order's number, so the later lines of the flight keep theirs, and the
-- last number is no longer known
abbrev pub after_taken : Option ℕ → Proxy → Proxy
after_taken None f = f
after_taken (Some number) f = without_connection (sender_of f.flight) (record f { flight = rest f.flight; number = number; is_counted = false })

-- ---- the proxy is connected to the server again

-- the proxy may connect unless a line that needs a view is in flight: such a line is not sent again, so the loop takes it back
-- first
abbrev pub may_connect : Proxy → Bool
may_connect f = not f.is_up && (not f.needs_view || is_none f.flight)

abbrev pub after_connection : Proxy → Proxy
after_connection f = record f { is_up = f.is_up || may_connect f }
