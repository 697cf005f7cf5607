-- An order that the loop takes back: the number that the order may have used, and when it is known not to be carried out.
use Rattle.std.specs.Prelude.{◌≡◌, ◌⊎◌, ℕ, ◌<◌, true, List, Some, Contains}
use Rattle.proxy_core.specs.Rules.{Rules}
use Rattle.proxy_core.specs.Machine.{taken_back}
use Rattle.proxy_core.specs.Numbers.{IsNumberRefused}
use Rattle.proxy_core.specs.Run.{Sent, Count, Event, new_run, run, first_place}
use Rattle.proxy_core.specs.Session.{CountsAreRight}

-- each line sent for an order that is taken back has the number that `taken_back` returns, or the server refused its number
abbrev pub TakenBackNumber : Type 0
TakenBackNumber = (r : Rules) (events : List Event) (c n : ℕ) → taken_back c (run r new_run events).proxy ≡ Some n
    → (s : Sent) → Contains (run r new_run events).sent s → s.is_unnumbered ≡ true → s.place ≡ first_place (run r new_run events).in_flight
    → (s.number ≡ n) ⊎ IsNumberRefused r (run r new_run events).answers s

-- if the loop finds the right last numbers, and after an unnumbered order was sent finds one below the order's number, the order
-- is never carried out with that number
abbrev pub TakenBackInTime : Type 0
TakenBackInTime = (r : Rules) (events : List Event) (done : List Sent) → CountsAreRight (run r new_run events) done
    → (s : Sent) → s.is_unnumbered ≡ true → (c : Count) → Contains (run r new_run events).counts c → s.serial < c.sent → c.last < s.number → Contains done s → ⊥
