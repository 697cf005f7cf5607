-- What the proxy and the server's session rule guarantee together: an unnumbered order is carried out at most once, and a client
-- that gets a reply to such an order gets the reply to its own order.
use Rattle.std.specs.Prelude.{◌≡◌, ℕ, ◌≤◌, ◌<◌, ◌==◌, ◌&&◌, Bool, true, List, count_by, Contains}
use Rattle.proxy_core.specs.Rules.{Rules}
use Rattle.proxy_core.specs.Run.{Sent, Answer, Count, Run, Event, new_run, run}

-- the sent line has this number of the proxy's client
abbrev pub has_number : ℕ → Sent → Bool
has_number n s = s.is_unnumbered && (s.number == n)

-- the sent line is an unnumbered order, sent for the request at this place
abbrev pub is_order_at : ℕ → Sent → Bool
is_order_at place s = s.is_unnumbered && (s.place == place)

-- `done` are the sent lines that the server carried out, by its session rule (docs/PROTOCOL.md; `ExactlyOnce` of coord_orders): a
-- client's orders have rising numbers, and the server checks an order's number first
pub record Session (r : Rules) (w : Run) (done : List Sent) : Type 0 where
  pub was_sent : (s : Sent) → Contains done s → Contains w.sent s
  -- at most one order with each number is carried out
  pub once : (n : ℕ) → count_by (has_number n) done ≤ 1
  -- if an answer refuses a sent line's number, that sent line is not carried out
  pub number_refused : (h : Answer) → Contains w.answers h → r.refuses_number h.answer ≡ true → Contains done h.sent → ⊥
  -- an order that is refused on its merits had the next number, so neither it nor an earlier line with its number was carried out
  pub order_refused : (h : Answer) → Contains w.answers h → h.sent.is_unnumbered ≡ true → r.is_refusal h.answer ≡ true
      → (s : Sent) → Contains done s → s.is_unnumbered ≡ true → s.number ≡ h.sent.number → h.sent.serial < s.serial
  -- a reply to an order means that a line with its number, sent no later, was carried out, if no other process orders as the
  -- proxy's client
  pub number_used : (h : Answer) → Contains w.answers h → h.sent.is_unnumbered ≡ true → r.uses_number h.answer ≡ true
      → (s : Sent) × Contains done s × (s.is_unnumbered ≡ true) × (s.number ≡ h.sent.number) × (s.serial ≤ h.sent.serial)
  -- the numbers of the orders carried out stay below the greatest number, since each is at most the number of steps
  pub below : (s : Sent) → Contains done s → s.number < 18446744073709551615

-- each last number that the loop found is at least the number of every order that was sent before then and is carried out
abbrev pub CountsAreRight : Run → List Sent → Type 0
CountsAreRight w done = (c : Count) → Contains w.counts c → (s : Sent) → Contains done s → s.is_unnumbered ≡ true → s.serial < c.sent → s.number ≤ c.last

-- whatever last numbers the loop finds, each unnumbered order is carried out at most once
abbrev pub AtMostOnce : Type 0
AtMostOnce = (r : Rules) (events : List Event) (done : List Sent) → Session r (run r new_run events) done → (place : ℕ) → count_by (is_order_at place) done ≤ 1

-- if the loop finds the right last numbers, a reply to an unnumbered order means that exactly this request was carried out
abbrev pub OwnReplies : Type 0
OwnReplies = (r : Rules) (events : List Event) (done : List Sent) → Session r (run r new_run events) done → CountsAreRight (run r new_run events) done
    → (h : Answer) → Contains (run r new_run events).answers h → h.sent.is_unnumbered ≡ true → r.uses_number h.answer ≡ true
    → (s : Sent) × Contains done s × (s.is_unnumbered ≡ true) × (s.place ≡ h.sent.place)
