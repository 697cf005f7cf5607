-- Runs with known results. In the first run, the server refuses the first of two unnumbered orders on its merits, so it also
-- refuses the number of the second order. The second order is sent again with the free number. Then the server's connection
-- breaks, and the order is sent once more.
use Rattle.std.specs.Prelude.{◌≡◌, ℕ, ◌==◌, ◌||◌, not, Bool, true, false, List, [], ◌∷◌, Some, map}
use Rattle.proxy_core.specs.Rules.{Rules}
use Rattle.proxy_core.specs.Pending.{Pending}
use Rattle.proxy_core.specs.Machine.{picks_of}
use Rattle.proxy_core.specs.Session.{CountsAreRight, Session}
use Rattle.proxy_core.specs.Run.{Request, Delivery, Sent, Event, Arrives, Flies, Follows, TakesBack, Answers, Breaks, Connects, Counts, Run, new_run, run}

abbrev pub begins_with : ℕ → List ℕ → Bool
begins_with n [] = false
begins_with n (x ∷ xs) = x == n

-- a line that begins with 1 or 3 is an unnumbered order, and every other line is a query. An answer that begins with 0 is a
-- reply, with 1 refuses a number, and with 2 refuses an order. A line that begins with 3 needs a view that begins with 7
abbrev pub worked_rules : Rules
worked_rules = record {
  allows = λ role line. true;
  is_once = λ line. false;
  is_query = λ line. not (begins_with 1 line || begins_with 3 line);
  is_unnumbered = λ line. begins_with 1 line || begins_with 3 line;
  spelled = λ number line. number ∷ line;
  refuses_number = begins_with 1;
  uses_number = begins_with 0;
  is_refusal = begins_with 2;
  is_inconclusive = λ answer. false;
  needs_view = begins_with 3;
  permits = λ view line. begins_with 7 view;
}

-- connections 5 and 6 send an order each, and the last number found is 9
abbrev pub worked_events : List Event
worked_events =
    Arrives 5 0 (1 ∷ []) ∷ Arrives 6 0 (1 ∷ []) ∷ Connects ∷ Counts 9 ∷ Flies (true ∷ true ∷ []) ∷ Answers (2 ∷ []) ∷ Answers (1 ∷ [])
    ∷ Flies (true ∷ []) ∷ Breaks ∷ Connects ∷ Answers (0 ∷ []) ∷ []

abbrev pub worked_run : Run
worked_run = run worked_rules new_run worked_events

abbrev pub delivery : ℕ → ℕ → List ℕ → Delivery
delivery to place answer = record { to = to; place = place; answer = Some answer }

pub record WorkedRun : Type 0 where
  pub places : map (λ (s : Sent). s.place) worked_run.sent ≡ 0 ∷ 1 ∷ 1 ∷ 1 ∷ []
  pub numbers : map (λ (s : Sent). s.number) worked_run.sent ≡ 10 ∷ 11 ∷ 10 ∷ 10 ∷ []
  pub firsts : map (λ (s : Sent). s.is_first) worked_run.sent ≡ true ∷ true ∷ true ∷ false ∷ []
  pub delivered : worked_run.delivered ≡ delivery 5 0 (2 ∷ []) ∷ delivery 6 1 (0 ∷ []) ∷ []

-- three orders of connection 5 and one of connection 6 fly together. The server carries out the first order and refuses the
-- second on its merits, so it refuses the numbers of the other two. These two wait again, before an order of connection 5 that
-- arrived during the flight
abbrev pub turn_events : List Event
turn_events =
    Arrives 5 0 (1 ∷ 1 ∷ []) ∷ Arrives 5 0 (1 ∷ 2 ∷ []) ∷ Arrives 5 0 (1 ∷ 3 ∷ []) ∷ Arrives 6 0 (1 ∷ 4 ∷ []) ∷ Connects ∷ Counts 9 ∷ Flies (true ∷ true ∷ true ∷ true ∷ [])
    ∷ Arrives 5 0 (1 ∷ 5 ∷ []) ∷ Answers (0 ∷ []) ∷ Answers (2 ∷ []) ∷ Answers (1 ∷ []) ∷ Answers (1 ∷ []) ∷ []

abbrev pub turn_run : Run
turn_run = run worked_rules new_run turn_events

-- the two orders fly again, with the one that arrived, and the server carries out all three
abbrev pub again_run : Run
again_run = run worked_rules turn_run (Flies (true ∷ true ∷ true ∷ []) ∷ Answers (0 ∷ []) ∷ Answers (0 ∷ []) ∷ Answers (0 ∷ []) ∷ [])

-- the three orders fly, and the server refuses the number of the first but carries out the others, which its rule forbids.
-- Connection 5 ends, because the answer to its last order would come before the answer to an older order
abbrev pub overtaken_run : Run
overtaken_run = run worked_rules turn_run (Flies (true ∷ true ∷ true ∷ []) ∷ Answers (1 ∷ []) ∷ Answers (0 ∷ []) ∷ Answers (0 ∷ []) ∷ [])

-- an order of connection 5: an unnumbered one if `own` is true, else one that arrived with a number
abbrev pub order : Bool → Pending
order own = record { from = 5; line = 1 ∷ []; is_once = false; is_query = false; is_unnumbered = own }

pub record WorkedTurn : Type 0 where
  pub together : picks_of true true (order true ∷ order true ∷ order true ∷ []) ≡ true ∷ true ∷ true ∷ []
  pub alone : picks_of true false (order true ∷ order true ∷ order true ∷ []) ≡ true ∷ false ∷ false ∷ []
  pub apart : picks_of true true (order false ∷ order true ∷ order false ∷ order true ∷ []) ≡ true ∷ true ∷ false ∷ false ∷ []
  pub waits : map (λ (a : Request). a.place) turn_run.queued ≡ 2 ∷ 3 ∷ 4 ∷ []
  pub refused : turn_run.proxy.refused ≡ 2
  pub places : map (λ (s : Sent). s.place) again_run.sent ≡ 0 ∷ 1 ∷ 2 ∷ 3 ∷ 2 ∷ 3 ∷ 4 ∷ []
  pub numbers : map (λ (s : Sent). s.number) again_run.sent ≡ 10 ∷ 11 ∷ 12 ∷ 13 ∷ 11 ∷ 12 ∷ 13 ∷ []
  pub delivered : again_run.delivered ≡ delivery 5 0 (0 ∷ []) ∷ delivery 5 1 (2 ∷ []) ∷ delivery 5 2 (0 ∷ []) ∷ delivery 6 3 (0 ∷ []) ∷ delivery 5 4 (0 ∷ []) ∷ []
  pub overtaken : overtaken_run.delivered ≡ delivery 5 0 (0 ∷ []) ∷ delivery 5 1 (2 ∷ []) ∷ delivery 6 3 (0 ∷ []) ∷ []
  pub ended : overtaken_run.ended ≡ 5 ∷ []
  pub dropped : overtaken_run.queued ≡ []

-- the run in which connection 6 asks for a view and gets this answer; `follows` is a line of connection 5 that needs a view
abbrev pub viewed : List ℕ → Run
viewed answer = run worked_rules new_run (Connects ∷ Counts 9 ∷ Arrives 6 0 (4 ∷ []) ∷ Flies (true ∷ []) ∷ Answers answer ∷ [])

abbrev pub follows : Event
follows = Follows 5 0 (3 ∷ [])

abbrev pub sent_after : List ℕ → List Event → List ℕ
sent_after answer events = map (λ (s : Sent). s.place) (run worked_rules (viewed answer) events).sent

pub record WorkedView : Type 0 where
  pub permitted : sent_after (7 ∷ []) (follows ∷ []) ≡ 0 ∷ 1 ∷ []
  pub not_permitted : sent_after (8 ∷ []) (follows ∷ []) ≡ 0 ∷ []
  -- the line that needs a view does not wait as other lines do
  pub not_queued : sent_after (7 ∷ []) (Arrives 5 0 (3 ∷ []) ∷ Flies (true ∷ []) ∷ []) ≡ 0 ∷ []
  -- the line is not sent if an order was sent after the view, or if the server's connection broke after the view
  pub overtaken : sent_after (7 ∷ []) (Arrives 6 0 (1 ∷ []) ∷ Flies (true ∷ []) ∷ Answers (0 ∷ []) ∷ follows ∷ []) ≡ 0 ∷ 1 ∷ []
  pub broken : sent_after (7 ∷ []) (Breaks ∷ Connects ∷ follows ∷ []) ≡ 0 ∷ []
  -- the line is not sent again after a break: the loop takes it back
  pub once : sent_after (7 ∷ []) (follows ∷ Breaks ∷ Connects ∷ []) ≡ 0 ∷ 1 ∷ []
  pub taken_back : sent_after (7 ∷ []) (follows ∷ Breaks ∷ TakesBack 5 ∷ Connects ∷ []) ≡ 0 ∷ 1 ∷ []
  -- the line is not sent with another number after its number was refused
  pub refused : sent_after (7 ∷ []) (follows ∷ Answers (1 ∷ []) ∷ Flies (true ∷ []) ∷ []) ≡ 0 ∷ 1 ∷ []

-- the third sent line, the only one that the server carried out in the first run
abbrev pub third_sending : Sent
third_sending = record { from = 6; place = 1; serial = 2; line = 10 ∷ 1 ∷ []; number = 10; is_once = false; is_unnumbered = true; is_first = true; taken = 2 }

pub record WorkedSession : Type 0 where
  pub session : Session worked_rules worked_run (third_sending ∷ [])
  pub counts : CountsAreRight worked_run (third_sending ∷ [])
