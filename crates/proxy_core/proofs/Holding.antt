-- What every event keeps.
use Rattle.std.proofs.Common.{◌≡◌, ℕ, ◌+◌, ◌≤◌, ◌<◌, ◌==◌, ◌&&◌, ◌||◌, not, nat_le, nat_lt, Bool, true, false, List, [], ◌∷◌, ◌++◌, Option, Some, None, length, map, filter, take, count_by, refl, sym, ap, subst, ◌∙◌, arith, append_assoc, append-nil, cond, Contains}
use Rattle.std.specs.List.{AllByRecursion, list_all}
use Rattle.std.proofs.lemmas.Bool.Decides.{nat_tests}
use Rattle.std.proofs.lemmas.List.{map-append, length_push}
use Rattle.std.proofs.lemmas.List.Edits.{length-insert}
use Rattle.std.proofs.lemmas.List.Sums.{sum_by-cons, sum_by-append}
use Rattle.std.proofs.lemmas.List.Elements.{All-contains, All-contains_itself, All-from_recursion, Contains-append_left, Contains-append_right, Contains-push, recursion_from_All}
use Rattle.proxy_core.specs.declared.proxy.Admission.{Admission}
use Rattle.proxy_core.specs.declared.proxy.Admission.TheVariants.{Queued, Denied, Deferred}
use Rattle.proxy_core.specs.declared.proxy.Outcome.{Outcome}
use Rattle.proxy_core.specs.declared.proxy.Outcome.TheVariants.{To, Ended, Retry, Unsolicited}
use Rattle.proxy_core.specs.Rules.{Rules, next, needs_number}
use Rattle.proxy_core.specs.Pending.{Pending, is_from, step, text_of}
use Rattle.proxy_core.specs.Machine.{Proxy, outcome, outcome_of, flown, held, is_in_turn, left, picked, rest, is_alike, is_flight, is_none, is_ready, lost_of, may_go, after_first_answer, admission, begins_order, is_late, put_back, admission_after_view, is_permitted, may_connect, may_follow}
use Rattle.proxy_core.specs.Run.{Request, Sent, Delivery, Answer, Run, Event, Arrives, Leaves, Flies, Answers, Breaks, Follows, TakesBack, Connects, Counts, broke, by_view, followed, came, connected, happens, answer_of, is_ended, run, new_run, next_request, said, delivered_too, took, went, without, written}
use Rattle.proxy_core.specs.Numbers.{AreSerial, HasOneNumber, IsFresh, IsInOrder}
use Rattle.proxy_core.specs.Views.{FollowViews}
use Rattle.proxy_core.specs.Promises.{AreNumbered, AreOf, IsAllowed, IsAnswerTo, IsKnown, IsDenied, IsDeniedRightly, Keeps, hand, by_server, bytes_of, pending_of, is_first_at, is_once_at, refuses_number_at, place_if, places_of, places_delivered, sending, sendings}
use Rattle.proxy_core.proofs.Hand.{hand_again, hand_first, hand_flies, hand_none, hand_other, hand_push, hand_rest, none_late, refused_without, within_without}
use Rattle.proxy_core.proofs.Lists.{alike_rest, all_append, all_filter, all_left, all_picked, all_put, all_weaker, are_more, are_push, are_weaker, both_false, both_true, count_filter, count_less, count_sendings, count_picked, count_push, count_put, count_rest, either, ended_apart, flight_is, flight_rest, left_pending_of, map_put, none_from, numbered_push, of_push, one_place, picked_pending_of, rest_twice, server-append, text_same, delivered_push, without_pending_of, written_of}

abbrev pub is_twice : Pending → Bool
is_twice a = not a.is_once

-- a line in hand
pub record IsGood (r : Rules) (requests : List Request) (a : Request) : Type 0 where
  pub requested : Contains requests a
  pub before : a.place < length requests
  pub may : r.allows a.role a.line ≡ true

-- a line at this place that must not be sent twice
abbrev pub is_once_request : Rules → ℕ → Request → Bool
is_once_request r p a = (a.place == p) && r.is_once a.line

-- of what must not be sent twice, what was sent and what waits is no more than what was asked
abbrev pub Once : Rules → List Sent → List Request → List Request → Type 0
Once r sent queued requests = (p : ℕ) → count_by (is_once_at p) sent + count_by (is_once_request r p) queued ≤ count_by (is_once_request r p) requests

abbrev pub is_at : ℕ → Request → Bool
is_at p a = a.place == p

-- what was sent for the first time with some number and what waits is no more than what was asked and what was turned away
abbrev pub Fresh : Rules → List Sent → List Request → List Request → List Answer → Type 0
Fresh r sent queued requests answers = (p : ℕ) → count_by (is_first_at p) sent + count_by (is_at p) queued ≤ count_by (is_at p) requests + count_by (refuses_number_at r p) answers

abbrev pub IsAgain : List Sent → Sent → Type 0
IsAgain sent s = s.is_first ≡ false → IsKnown sent s

-- those of a connection that is not over: its answers and its lines in hand are those that it asked
abbrev pub Turn : List ℕ → List Delivery → ℕ → List Request → List Request → List Request → Type 0
Turn ended delivered refused in_flight queued requests = (c : ℕ) → is_ended c ended ≡ false → places_delivered c delivered ++ hand c refused in_flight queued ≡ places_of c requests

abbrev pub Over : List ℕ → List Delivery → List Request → Type 0
Over ended delivered requests = (c : ℕ) → is_ended c ended ≡ true → (more : List ℕ) × (places_delivered c delivered ++ more ≡ places_of c requests)

abbrev pub Few : List Pending → List Pending → Type 0
Few flight waiting = (c : ℕ) → count_by (is_from c) flight + count_by (is_from c) waiting ≤ 64

pub record Holds (r : Rules) (w : Run) : Type 0 where
  pub numbered : AreNumbered 0 w.requests
  pub flying : w.proxy.flight ≡ map (pending_of r) w.in_flight
  pub waiting : w.proxy.waiting ≡ map (pending_of r) w.queued
  pub wire : w.proxy.is_up ≡ true → (taken : ℕ) × (serial : ℕ) × (w.wire ≡ sendings r taken (not w.proxy.is_resent) serial w.proxy.number w.in_flight)
  pub quiet : w.proxy.is_up ≡ false → w.proxy.is_resent ≡ false → w.in_flight ≡ []
  pub wired : AllByRecursion (Contains w.sent) w.wire
  pub single : w.proxy.is_up ≡ true → is_flight w.proxy.flight ≡ true
  pub twice : w.proxy.is_up ≡ false → list_all is_twice w.proxy.flight ≡ true
  pub within : w.proxy.refused ≤ length w.queued
  pub turn : Turn w.ended w.delivered w.proxy.refused w.in_flight w.queued w.requests
  pub over : Over w.ended w.delivered w.requests
  pub own : AreOf (IsAnswerTo r w.requests w.sent) (by_server w.delivered) w.answers
  pub denied : AllByRecursion (IsDeniedRightly r w.requests) w.delivered
  pub in_flight : AllByRecursion (IsGood r w.requests) w.in_flight
  pub queued : AllByRecursion (IsGood r w.requests) w.queued
  pub sent : AllByRecursion (IsAllowed r w.requests) w.sent
  pub once : Once r w.sent w.queued w.requests
  pub few : Few w.proxy.flight w.proxy.waiting
  pub flight : length w.proxy.flight ≤ 256
  pub alike : is_alike w.proxy.flight ≡ true
  pub fresh : Fresh r w.sent w.queued w.requests w.answers
  pub known : AllByRecursion (IsKnown w.sent) (sendings r 0 true 0 w.proxy.number w.in_flight)
  pub again : AllByRecursion (IsAgain w.sent) w.sent

-- a life whose front has these lines in hand
abbrev pub with_hand : Rules → List Request → List Request → Run → Run
with_hand r in_flight queued w = record w { proxy = record (w.proxy) { flight = map (pending_of r) in_flight; waiting = map (pending_of r) queued }; in_flight = in_flight; queued = queued }

-- ---- the beginning

pub begins : (r : Rules) → Holds r new_run
begins r = record {
  numbered = tt;
  flying = refl;
  waiting = refl;
  wire = λ up. (0, 0, refl);
  quiet = λ down new. refl;
  wired = tt;
  single = λ up. refl;
  twice = λ down. refl;
  within = omega arith;
  turn = λ c going. refl;
  over = λ c over. absurd (cc over);
  own = tt;
  denied = tt;
  in_flight = tt;
  queued = tt;
  sent = tt;
  once = λ p. omega arith;
  few = λ c. omega arith;
  flight = omega arith;
  alike = refl;
  fresh = λ p. omega arith;
  known = tt;
  again = tt;
}

-- ---- a connection is over

apart_of : (c d : ℕ) (ended : List ℕ) → is_ended d (c ∷ ended) ≡ false → (c == d) ≡ false
apart_of c d ended h = elim (c == d) as (λ b. (b || is_ended d ended) ≡ false → b ≡ false) [ true ↦ λ t. t | false ↦ λ f. refl ] h

going_of : (c d : ℕ) (ended : List ℕ) → is_ended d (c ∷ ended) ≡ false → is_ended d ended ≡ false
going_of c d ended h = elim (c == d) as (λ b. (b || is_ended d ended) ≡ false → is_ended d ended ≡ false) [ true ↦ λ t. absurd (cc t) | false ↦ λ f. f ] h

-- a connection that is over had the answers to its first lines, whether it is over now or was before
over_all : (ended : List ℕ) (delivered : List Delivery) (k : ℕ) (in_flight queued requests : List Request) → Turn ended delivered k in_flight queued requests → Over ended delivered requests
    → (c : ℕ) → (more : List ℕ) × (places_delivered c delivered ++ more ≡ places_of c requests)
over_all ended delivered k in_flight queued requests turn over c =
    elim (is_ended c ended) as (λ b. is_ended c ended ≡ b → (more : List ℕ) × (places_delivered c delivered ++ more ≡ places_of c requests)) [
      | true ↦ λ is. over c is
      | false ↦ λ going. (hand c k in_flight queued, turn c going)
    ] refl

turn_forgetting : (r : Rules) (c : ℕ) (ended : List ℕ) (delivered : List Delivery) (k : ℕ) (in_flight queued requests : List Request)
    → ((d : ℕ) → (c == d) ≡ false → is_ended d ended ≡ false → places_delivered d delivered ++ hand d k in_flight queued ≡ places_of d requests)
    → Turn (c ∷ ended) delivered (refused_without r c k queued) in_flight (without c queued) requests
turn_forgetting r c ended delivered k in_flight queued requests turn d going =
    let apart : (c == d) ≡ false = apart_of c d ended going in
    ap (λ l. places_delivered d delivered ++ l) (hand_other r c d k in_flight queued apart) ∙ turn d apart (going_of c d ended going)

once_forgetting : (r : Rules) (c : ℕ) (sent : List Sent) (queued requests : List Request) → Once r sent queued requests → Once r sent (without c queued) requests
once_forgetting r c sent queued requests once p =
    let before = once p in
    let less = count_filter (is_once_request r p) (λ (a : Request). not (a.from == c)) queued in
    omega (arith, before, less)

fresh_forgetting : (r : Rules) (c : ℕ) (sent : List Sent) (queued requests : List Request) (answers : List Answer) → Fresh r sent queued requests answers → Fresh r sent (without c queued) requests answers
fresh_forgetting r c sent queued requests answers fresh p =
    let before = fresh p in
    let less = count_filter (is_at p) (λ (a : Request). not (a.from == c)) queued in
    omega (arith, before, less)

fresh_heard : (r : Rules) (sent : List Sent) (queued requests : List Request) (answers more : List Answer) → Fresh r sent queued requests answers → Fresh r sent queued requests (answers ++ more)
fresh_heard r sent queued requests answers more fresh p =
    let before = fresh p in
    let whole : count_by (refuses_number_at r p) (answers ++ more) ≡ count_by (refuses_number_at r p) answers + count_by (refuses_number_at r p) more = sum_by-append (λ y. cond (refuses_number_at r p y) 1 0) answers more in
    omega (arith, before, whole)

few_forgetting : (c : ℕ) (flight waiting : List Pending) → Few flight waiting → Few flight (filter (λ a. not (is_from c a)) waiting)
few_forgetting c flight waiting few d = let before = few d in let less = count_filter (is_from d) (λ a. not (is_from c a)) waiting in omega (arith, before, less)

leaves_holds : (r : Rules) (w : Run) (in_flight queued : List Request) (c : ℕ) → Holds r (with_hand r in_flight queued w) → Holds r (happens r (with_hand r in_flight queued w) (Leaves c))
leaves_holds r w in_flight queued c h = record {
  numbered = h.numbered;
  flying = refl;
  waiting = without_pending_of r c queued;
  wire = h.wire;
  quiet = h.quiet;
  wired = h.wired;
  single = h.single;
  twice = h.twice;
  within = within_without r c w.proxy.refused queued h.within;
  turn = turn_forgetting r c w.ended w.delivered w.proxy.refused in_flight queued w.requests (λ d apart going. h.turn d going);
  over = λ d is. over_all w.ended w.delivered w.proxy.refused in_flight queued w.requests h.turn h.over d;
  own = h.own;
  denied = h.denied;
  in_flight = h.in_flight;
  queued = all_filter (IsGood r w.requests) (λ (a : Request). not (a.from == c)) queued h.queued;
  sent = h.sent;
  once = once_forgetting r c w.sent queued w.requests h.once;
  few = few_forgetting c (map (pending_of r) in_flight) (map (pending_of r) queued) h.few;
  flight = h.flight;
  alike = h.alike;
  fresh = fresh_forgetting r c w.sent queued w.requests w.answers h.fresh;
  known = h.known;
  again = h.again;
}

-- ---- a line comes

more_allowed : (r : Rules) (requests more : List Request) (s : Sent) → IsAllowed r requests s → IsAllowed r (requests ++ more) s
more_allowed r requests more s is = record { ask = is.ask; requested = Contains-append_left requests more is.ask is.requested; from = is.from; place = is.place; unnumbered = is.unnumbered; line = is.line; once = is.once; before = is.before; may = is.may }

more_good : (r : Rules) (requests : List Request) (b a : Request) → IsGood r requests a → IsGood r (requests ++ b ∷ []) a
more_good r requests b a is = record { requested = Contains-append_left requests (b ∷ []) a is.requested; before = (let less = is.before in omega (arith, less, length_push requests b)); may = is.may }

more_own : (r : Rules) (requests : List Request) (sent : List Sent) (more : List Request) (later : List Sent) (t : Delivery) (h : Answer) → IsAnswerTo r requests sent t h → IsAnswerTo r (requests ++ more) (sent ++ later) t h
more_own r requests sent more later t h is = record {
  ask = is.ask;
  requested = Contains-append_left requests more is.ask is.requested;
  to = is.to;
  place = is.place;
  sent_it = Contains-append_left sent later h.sent is.sent_it;
  same_place = is.same_place;
  same_line = is.same_line;
  after = is.after;
  answer = is.answer;
}

-- the answers stay right when more is asked, and when more is sent
own_requested : (r : Rules) (requests : List Request) (sent : List Sent) (b : Request) (ts : List Delivery) (hs : List Answer) → AreOf (IsAnswerTo r requests sent) ts hs → AreOf (IsAnswerTo r (requests ++ b ∷ []) sent) ts hs
own_requested r requests sent b ts hs own = subst (λ s. AreOf (IsAnswerTo r (requests ++ b ∷ []) s) ts hs) (append-nil sent) (are_weaker (IsAnswerTo r requests sent) (IsAnswerTo r (requests ++ b ∷ []) (sent ++ [])) (more_own r requests sent (b ∷ []) []) ts hs own)

own_sent : (r : Rules) (requests : List Request) (sent later : List Sent) (ts : List Delivery) (hs : List Answer) → AreOf (IsAnswerTo r requests sent) ts hs → AreOf (IsAnswerTo r requests (sent ++ later)) ts hs
own_sent r requests sent later ts hs own = subst (λ a. AreOf (IsAnswerTo r a (sent ++ later)) ts hs) (append-nil requests) (are_weaker (IsAnswerTo r requests sent) (IsAnswerTo r (requests ++ []) (sent ++ later)) (more_own r requests sent [] later) ts hs own)

more_denied : (r : Rules) (requests more : List Request) (t : Delivery) (answer : Option (List ℕ)) → IsDenied r requests t answer → IsDenied r (requests ++ more) t answer
more_denied r requests more t None is = (is.0, Contains-append_left requests more is.0 is.1, is.2, is.3, is.4)
more_denied r requests more t (Some answer) is = tt

more_denied_rightly : (r : Rules) (requests more : List Request) (t : Delivery) → IsDeniedRightly r requests t → IsDeniedRightly r (requests ++ more) t
more_denied_rightly r requests more t is = more_denied r requests more t t.answer is

admission_cases : (r : Rules) (c role : ℕ) (line : List ℕ) (f : Proxy) (P : Admission → Type 0)
    → (r.allows role line ≡ true → held c f < 64 → P Queued) → (r.allows role line ≡ false → held c f ≡ 0 → P Denied) → P Deferred → P (admission r c role line f)
admission_cases r c role line f P queued denied later =
    either P (r.allows role line) (cond (not (r.needs_view line) && nat_lt (held c f) 64) Queued Deferred) (cond (held c f == 0) Denied Deferred)
    (λ may. either P (not (r.needs_view line) && nat_lt (held c f) 64) Queued Deferred (λ waits. (let room = (both_true (not (r.needs_view line)) (nat_lt (held c f) 64) waits).1 in queued may (grind (arith, nat_tests)))) (λ full. later))
    (λ may_not. either P (held c f == 0) Denied Deferred (λ none. denied may_not (grind (arith, nat_tests))) (λ some. later))

pub following_cases : (r : Rules) (c role : ℕ) (line : List ℕ) (f : Proxy) (P : Admission → Type 0)
    → (r.allows role line ≡ true → may_follow r line f ≡ true → P Queued) → (r.allows role line ≡ false → held c f ≡ 0 → P Denied) → P Deferred → P (admission_after_view r c role line f)
following_cases r c role line f P queued denied later =
    either P (r.allows role line) (cond (may_follow r line f) Queued Deferred) (cond (held c f == 0) Denied Deferred)
    (λ may. either P (may_follow r line f) Queued Deferred (λ follows. queued may follows) (λ not_now. later))
    (λ may_not. either P (held c f == 0) Denied Deferred (λ none. denied may_not (grind (arith, nat_tests))) (λ some. later))

-- one more line of a connection that is not over, at the end of both
turn_queued : (a : Request) (ended : List ℕ) (delivered : List Delivery) (k : ℕ) (in_flight queued requests : List Request) → k ≤ length queued → Turn ended delivered k in_flight queued requests → Turn ended delivered k in_flight (queued ++ a ∷ []) (requests ++ a ∷ [])
turn_queued a ended delivered k in_flight queued requests within turn d going =
    let own : List ℕ = place_if (a.from == d) a.place in
    let t : List ℕ = places_delivered d delivered in
    ap (λ l. t ++ l) (hand_push d k in_flight queued a within)
    ∙ sym (append_assoc t (hand d k in_flight queued) own)
    ∙ ap (λ l. l ++ own) (turn d going)
    ∙ sym (of_push d requests a)

-- one that is over asks nothing and gets no answer
over_push : (a : Request) (ended : List ℕ) (delivered : List Delivery) (requests : List Request) → is_ended a.from ended ≡ false → Over ended delivered requests → Over ended delivered (requests ++ a ∷ [])
over_push a ended delivered requests going over d is =
    let apart : (a.from == d) ≡ false = ended_apart a.from d ended going is in
    let same : places_of d (requests ++ a ∷ []) ≡ places_of d requests =
    of_push d requests a ∙ ap (λ b. places_of d requests ++ place_if b a.place) apart ∙ append-nil (places_of d requests) in
    let o = over d is in
    (o.0, o.1 ∙ sym same)

over_delivered : (t : Delivery) (ended : List ℕ) (delivered : List Delivery) (requests : List Request) → is_ended t.to ended ≡ false → Over ended delivered requests → Over ended (delivered ++ t ∷ []) requests
over_delivered t ended delivered requests going over d is =
    let apart : (t.to == d) ≡ false = ended_apart t.to d ended going is in
    let same : places_delivered d (delivered ++ t ∷ []) ≡ places_delivered d delivered =
    delivered_push d delivered t ∙ ap (λ b. places_delivered d delivered ++ place_if b t.place) apart ∙ append-nil (places_delivered d delivered) in
    let o = over d is in
    (o.0, ap (λ l. l ++ o.0) same ∙ o.1)

once_queued : (r : Rules) (sent : List Sent) (queued requests : List Request) (a : Request) → Once r sent queued requests → Once r sent (queued ++ a ∷ []) (requests ++ a ∷ [])
once_queued r sent queued requests a once p = let before = once p in omega (arith, before, count_push (is_once_request r p) queued a, count_push (is_once_request r p) requests a)

once_denied : (r : Rules) (sent : List Sent) (queued requests : List Request) (a : Request) → Once r sent queued requests → Once r sent queued (requests ++ a ∷ [])
once_denied r sent queued requests a once p = let before = once p in omega (arith, before, count_push (is_once_request r p) requests a)

few_queued : (c : ℕ) (flight waiting : List Pending) (a : Pending) → a.from ≡ c → count_by (is_from c) flight + count_by (is_from c) waiting < 64 → Few flight waiting → Few flight (waiting ++ a ∷ [])
few_queued c flight waiting a from room few d =
    let before = few d in
    let more = count_push (is_from d) waiting a in
    elim (a.from == d) as (λ b. (a.from == d) ≡ b → count_by (is_from d) (waiting ++ a ∷ []) ≡ count_by (is_from d) waiting + cond b 1 0 → count_by (is_from d) flight + count_by (is_from d) (waiting ++ a ∷ []) ≤ 64) [
      | true ↦ λ so e. (let is : c ≡ d = grind (arith, nat_tests) in let fits = subst (λ x. count_by (is_from x) flight + count_by (is_from x) waiting < 64) is room in omega (arith, e, fits))
      | false ↦ λ so e. omega (arith, e, before)
    ] refl more

-- a refusal comes where nothing of the connection is in hand
turn_denied : (r : Rules) (a : Request) (ended : List ℕ) (delivered : List Delivery) (k : ℕ) (in_flight queued requests : List Request)
    → count_by (is_from a.from) (map (pending_of r) in_flight) + count_by (is_from a.from) (map (pending_of r) queued) ≡ 0
    → Turn ended delivered k in_flight queued requests
    → Turn ended (delivered ++ (record { to = a.from; place = a.place; answer = None }) ∷ []) k in_flight queued (requests ++ a ∷ [])
turn_denied r a ended delivered k in_flight queued requests none turn d going =
    let t : Delivery = record { to = a.from; place = a.place; answer = None } in
    elim (a.from == d) as (λ b. (a.from == d) ≡ b → places_delivered d (delivered ++ t ∷ []) ≡ places_delivered d delivered ++ place_if b a.place → places_of d (requests ++ a ∷ []) ≡ places_of d requests ++ place_if b a.place
    → places_delivered d (delivered ++ t ∷ []) ++ hand d k in_flight queued ≡ places_of d (requests ++ a ∷ [])) [
      | true ↦ λ so p q. (
          let is : a.from ≡ d = grind (arith, nat_tests) in
          let empty = subst (λ x. count_by (is_from x) (map (pending_of r) in_flight) + count_by (is_from x) (map (pending_of r) queued) ≡ 0) is none in
          let nothing : hand d k in_flight queued ≡ [] = hand_none d k in_flight queued (none_from r d in_flight (omega (arith, empty))) (none_from r d queued (omega (arith, empty))) in
          let before : places_delivered d delivered ≡ places_of d requests = sym (append-nil (places_delivered d delivered)) ∙ sym (ap (λ l. places_delivered d delivered ++ l) nothing) ∙ turn d going in
          ap (λ l. l ++ hand d k in_flight queued) p
          ∙ ap (λ l. (places_delivered d delivered ++ a.place ∷ []) ++ l) nothing
          ∙ append-nil (places_delivered d delivered ++ a.place ∷ [])
          ∙ ap (λ l. l ++ a.place ∷ []) before
          ∙ sym q)
      | false ↦ λ so p q.
          ap (λ l. l ++ hand d k in_flight queued) (p ∙ append-nil (places_delivered d delivered))
          ∙ turn d going
          ∙ sym (q ∙ append-nil (places_of d requests))
    ] refl (delivered_push d delivered t) (of_push d requests a)

own_denied : (P : Delivery → Answer → Type 0) (delivered : List Delivery) (answers : List Answer) (c place : ℕ) → AreOf P (by_server delivered) answers → AreOf P (by_server (delivered ++ (record { to = c; place = place; answer = None }) ∷ [])) answers
own_denied P delivered answers c place own = subst (λ l. AreOf P l answers) (sym (server-append delivered ((record { to = c; place = place; answer = None }) ∷ []) ∙ append-nil (by_server delivered))) own

pub came_queued : (r : Rules) (w : Run) (in_flight queued : List Request) (c role : ℕ) (line : List ℕ) → is_ended c w.ended ≡ false → r.allows role line ≡ true → held c (with_hand r in_flight queued w).proxy < 64
    → Holds r (with_hand r in_flight queued w) → Holds r (came r (with_hand r in_flight queued w) c role line Queued)
came_queued r w in_flight queued c role line going may room h =
    let a : Request = next_request w c role line in
    let good : IsGood r (w.requests ++ a ∷ []) a = record { requested = Contains-push w.requests a; before = omega (arith, length_push w.requests a); may = may } in
    record {
      numbered = numbered_push 0 w.requests a (omega arith) h.numbered;
      flying = refl;
      waiting = sym (map-append (pending_of r) queued (a ∷ []));
      wire = h.wire;
      quiet = h.quiet;
      wired = h.wired;
      single = h.single;
      twice = h.twice;
      within = (let less = h.within in omega (arith, less, length_push queued a));
      turn = turn_queued a w.ended w.delivered w.proxy.refused in_flight queued w.requests h.within h.turn;
      over = over_push a w.ended w.delivered w.requests going h.over;
      own = own_requested r w.requests w.sent a (by_server w.delivered) w.answers h.own;
      denied = all_weaker (IsDeniedRightly r w.requests) (IsDeniedRightly r (w.requests ++ a ∷ [])) (λ t. more_denied_rightly r w.requests (a ∷ []) t) w.delivered h.denied;
      in_flight = all_weaker (IsGood r w.requests) (IsGood r (w.requests ++ a ∷ [])) (λ x. more_good r w.requests a x) in_flight h.in_flight;
      queued = all_append (IsGood r (w.requests ++ a ∷ [])) queued (a ∷ []) (all_weaker (IsGood r w.requests) (IsGood r (w.requests ++ a ∷ [])) (λ x. more_good r w.requests a x) queued h.queued) (good, tt);
      sent = all_weaker (IsAllowed r w.requests) (IsAllowed r (w.requests ++ a ∷ [])) (λ x. more_allowed r w.requests (a ∷ []) x) w.sent h.sent;
      once = once_queued r w.sent queued w.requests a h.once;
      few = few_queued c (map (pending_of r) in_flight) (map (pending_of r) queued) (pending_of r a) refl room h.few;
      flight = h.flight;
      alike = h.alike;
      fresh = λ p. (let before = h.fresh p in omega (arith, before, count_push (is_at p) queued a, count_push (is_at p) w.requests a));
      known = h.known;
      again = h.again;
    }

came_denied : (r : Rules) (w : Run) (in_flight queued : List Request) (c role : ℕ) (line : List ℕ) → is_ended c w.ended ≡ false → r.allows role line ≡ false → held c (with_hand r in_flight queued w).proxy ≡ 0
    → Holds r (with_hand r in_flight queued w) → Holds r (came r (with_hand r in_flight queued w) c role line Denied)
came_denied r w in_flight queued c role line going may_not none h =
    let a : Request = next_request w c role line in
    let t : Delivery = record { to = c; place = a.place; answer = None } in
    record {
      numbered = numbered_push 0 w.requests a (omega arith) h.numbered;
      flying = refl;
      waiting = refl;
      wire = h.wire;
      quiet = h.quiet;
      wired = h.wired;
      single = h.single;
      twice = h.twice;
      within = h.within;
      turn = turn_denied r a w.ended w.delivered w.proxy.refused in_flight queued w.requests none h.turn;
      over = over_delivered t w.ended w.delivered (w.requests ++ a ∷ []) going (over_push a w.ended w.delivered w.requests going h.over);
      own = own_denied (IsAnswerTo r (w.requests ++ a ∷ []) w.sent) w.delivered w.answers c a.place (own_requested r w.requests w.sent a (by_server w.delivered) w.answers h.own);
      denied = all_append (IsDeniedRightly r (w.requests ++ a ∷ [])) w.delivered (t ∷ []) (all_weaker (IsDeniedRightly r w.requests) (IsDeniedRightly r (w.requests ++ a ∷ [])) (λ x. more_denied_rightly r w.requests (a ∷ []) x) w.delivered h.denied) ((a, Contains-push w.requests a, refl, refl, may_not), tt);
      in_flight = all_weaker (IsGood r w.requests) (IsGood r (w.requests ++ a ∷ [])) (λ x. more_good r w.requests a x) in_flight h.in_flight;
      queued = all_weaker (IsGood r w.requests) (IsGood r (w.requests ++ a ∷ [])) (λ x. more_good r w.requests a x) queued h.queued;
      sent = all_weaker (IsAllowed r w.requests) (IsAllowed r (w.requests ++ a ∷ [])) (λ x. more_allowed r w.requests (a ∷ []) x) w.sent h.sent;
      once = once_denied r w.sent queued w.requests a h.once;
      few = h.few;
      flight = h.flight;
      alike = h.alike;
      fresh = λ p. (let before = h.fresh p in omega (arith, before, count_push (is_at p) w.requests a));
      known = h.known;
      again = h.again;
    }

arrives_holds : (r : Rules) (w : Run) (in_flight queued : List Request) (c role : ℕ) (line : List ℕ) → Holds r (with_hand r in_flight queued w) → Holds r (happens r (with_hand r in_flight queued w) (Arrives c role line))
arrives_holds r w in_flight queued c role line h =
    let v : Run = with_hand r in_flight queued w in
    either (Holds r) (is_ended c w.ended) v (came r v c role line (admission r c role line v.proxy)) (λ over. h)
    (λ going. admission_cases r c role line v.proxy (λ t. Holds r (came r v c role line t))
    (λ may room. came_queued r w in_flight queued c role line going may room h)
    (λ may_not none. came_denied r w in_flight queued c role line going may_not none h)
    h)

-- ---- a flight goes

all_sendings : (r : Rules) (requests : List Request) (first : Bool) (serial number : ℕ) (xs : List Request) → AllByRecursion (IsGood r requests) xs → AllByRecursion (IsAllowed r requests) (sendings r (length requests) first serial number xs)
all_sendings r requests first serial number [] all = tt
all_sendings r requests first serial number (x ∷ xs) all =
    (record { ask = x; requested = all.0.requested; from = refl; place = refl; unnumbered = refl; line = refl; once = refl; before = all.0.before; may = all.0.may }, all_sendings r requests first (serial + 1) (step (needs_number r x.line) number) xs all.1)

-- what was sent stays sent
more_known : (sent later : List Sent) (s : Sent) → IsKnown sent s → IsKnown (sent ++ later) s
more_known sent later s is = (is.0, Contains-append_left sent later is.0 is.1, is.2, is.3, is.4, is.5)

more_again : (sent later : List Sent) (s : Sent) → IsAgain sent s → IsAgain (sent ++ later) s
more_again sent later s is = λ old. more_known sent later s (is old)

-- those of a flight that goes are known by themselves, and are no repeats
first_known : (r : Rules) (sent : List Sent) (taken serial none number : ℕ) (xs : List Request) → AllByRecursion (Contains sent) (sendings r taken true serial number xs) → AllByRecursion (IsKnown sent) (sendings r 0 true none number xs)
first_known r sent taken serial none number [] all = tt
first_known r sent taken serial none number (x ∷ xs) all = ((sending r taken true serial (next number) x, all.0, refl, refl, refl, refl), first_known r sent taken (serial + 1) (none + 1) (step (needs_number r x.line) number) xs all.1)

-- whatever their serial numbers are
known_serial : (r : Rules) (sent : List Sent) (from to number : ℕ) (xs : List Request) → AllByRecursion (IsKnown sent) (sendings r 0 true from number xs) → AllByRecursion (IsKnown sent) (sendings r 0 true to number xs)
known_serial r sent from to number [] all = tt
known_serial r sent from to number (x ∷ xs) all = (all.0, known_serial r sent (from + 1) (to + 1) (step (needs_number r x.line) number) xs all.1)

first_again : (r : Rules) (sent : List Sent) (taken serial number : ℕ) (xs : List Request) → AllByRecursion (IsAgain sent) (sendings r taken true serial number xs)
first_again r sent taken serial number [] = tt
first_again r sent taken serial number (x ∷ xs) = (λ old. absurd (cc old), first_again r sent taken (serial + 1) (step (needs_number r x.line) number) xs)

known_again : (r : Rules) (sent : List Sent) (taken serial none number : ℕ) (xs : List Request) → AllByRecursion (IsKnown sent) (sendings r 0 true none number xs) → AllByRecursion (IsAgain sent) (sendings r taken false serial number xs)
known_again r sent taken serial none number [] all = tt
known_again r sent taken serial none number (x ∷ xs) all = (λ old. all.0, known_again r sent taken (serial + 1) (none + 1) (step (needs_number r x.line) number) xs all.1)

all_in_it : (xs : List Sent) → AllByRecursion (Contains xs) xs
all_in_it xs = recursion_from_All (Contains xs) xs (All-contains_itself xs)

-- what is written is part of all that was
sent_right : (sent later : List Sent) → AllByRecursion (Contains (sent ++ later)) later
sent_right sent later = all_weaker (Contains later) (Contains (sent ++ later)) (λ s is. Contains-append_right sent later s is) later (all_in_it later)

pub empty_of : (r : Rules) (xs : List Request) → is_none (map (pending_of r) xs) ≡ true → xs ≡ []
empty_of r [] h = refl
empty_of r (x ∷ xs) h = absurd (cc h)

once_goes : (r : Rules) (picks : List Bool) (taken serial number : ℕ) (sent : List Sent) (queued requests : List Request) → Once r sent queued requests → Once r (sent ++ sendings r taken true serial number (picked picks queued)) (left picks queued) requests
once_goes r picks taken serial number sent queued requests once p =
    let before = once p in
    let go : List Sent = sendings r taken true serial number (picked picks queued) in
    let whole : count_by (is_once_at p) (sent ++ go) ≡ count_by (is_once_at p) sent + count_by (is_once_at p) go = sum_by-append (λ y. cond (is_once_at p y) 1 0) sent go in
    let same : count_by (is_once_at p) go ≡ count_by (is_once_request r p) (picked picks queued) = count_sendings r taken true (is_once_at p) (is_once_request r p) (λ k n a. refl) serial number (picked picks queued) in
    omega (arith, before, whole, same, count_picked (is_once_request r p) picks queued)

and_true : (b : Bool) → (b && true) ≡ b
and_true true = refl
and_true false = refl

and_false : (b : Bool) → (b && false) ≡ false
and_false true = refl
and_false false = refl

fresh_goes : (r : Rules) (picks : List Bool) (taken serial number : ℕ) (sent : List Sent) (queued requests : List Request) (answers : List Answer) → Fresh r sent queued requests answers → Fresh r (sent ++ sendings r taken true serial number (picked picks queued)) (left picks queued) requests answers
fresh_goes r picks taken serial number sent queued requests answers fresh p =
    let before = fresh p in
    let go : List Sent = sendings r taken true serial number (picked picks queued) in
    let whole : count_by (is_first_at p) (sent ++ go) ≡ count_by (is_first_at p) sent + count_by (is_first_at p) go = sum_by-append (λ y. cond (is_first_at p y) 1 0) sent go in
    let same : count_by (is_first_at p) go ≡ count_by (is_at p) (picked picks queued) = count_sendings r taken true (is_first_at p) (is_at p) (λ k n a. and_true (a.place == p)) serial number (picked picks queued) in
    omega (arith, before, whole, same, count_picked (is_at p) picks queued)

went_holds : (r : Rules) (w : Run) (in_flight queued : List Request) (picks : List Bool) → may_go picks (with_hand r in_flight queued w).proxy ≡ true → Holds r (with_hand r in_flight queued w) → Holds r (went r picks (with_hand r in_flight queued w))
went_holds r w in_flight queued picks may h =
    let n : ℕ = length w.requests in
    let f : Proxy = (with_hand r in_flight queued w).proxy in
    let go : List Pending = picked picks f.waiting in
    let all : List Request = picked picks queued in
    let p = both_true f.is_up (is_none f.flight && (is_flight go && (is_alike go && (is_in_turn [] picks f.waiting && list_all (is_ready f.is_counted) go)))) may in
    let q = both_true (is_none f.flight) (is_flight go && (is_alike go && (is_in_turn [] picks f.waiting && list_all (is_ready f.is_counted) go))) p.1 in
    let s = both_true (is_flight go) (is_alike go && (is_in_turn [] picks f.waiting && list_all (is_ready f.is_counted) go)) q.1 in
    let t = both_true (is_alike go) (is_in_turn [] picks f.waiting && list_all (is_ready f.is_counted) go) s.1 in
    let turn = (both_true (is_in_turn [] picks f.waiting) (list_all (is_ready f.is_counted) go) t.1).0 in
    let none : in_flight ≡ [] = empty_of r in_flight q.0 in
    let few_lines = both_true (nat_le (length go) 256) (length go == 1 || list_all is_twice go) s.0 in
    let out = h.wire p.0 in
    let clear : w.wire ≡ [] = out.2 ∙ ap (sendings r out.0 (not f.is_resent) out.1 f.number) none in
    let m : ℕ = length w.sent in
    let sends : List Sent = sendings r n true m f.last all in
    let wrote : written r n true m f.last all go ≡ sends = ap (written r n true m f.last all) (picked_pending_of r picks queued) ∙ written_of r n true m f.last all in
    let good : AllByRecursion (IsGood r w.requests) all = all_picked (IsGood r w.requests) picks queued h.queued in
    subst (λ l. Holds r (record w { proxy = flown picks f; in_flight = all; queued = left picks queued; sent = w.sent ++ l; wire = w.wire ++ l })) (sym wrote) (record {
      numbered = h.numbered;
      flying = picked_pending_of r picks queued;
      waiting = left_pending_of r picks queued;
      wire = λ up. (n, m, ap (λ l. l ++ sends) clear);
      wired = all_append (Contains (w.sent ++ sends)) w.wire (sends) (subst (AllByRecursion (Contains (w.sent ++ sends))) (sym clear) tt) (sent_right w.sent (sends));
      single = λ up. s.0;
      twice = λ down. absurd (cc (down, p.0));
      within = omega arith;
      turn = λ c going. ap (λ l. places_delivered c w.delivered ++ l) (hand_flies r c w.proxy.refused picks queued turn) ∙ sym (ap (λ l. places_delivered c w.delivered ++ hand c w.proxy.refused l queued) none) ∙ h.turn c going;
      over = h.over;
      own = own_sent r w.requests w.sent (sends) (by_server w.delivered) w.answers h.own;
      denied = h.denied;
      in_flight = good;
      queued = all_left (IsGood r w.requests) picks queued h.queued;
      sent = all_append (IsAllowed r w.requests) w.sent (sends) h.sent (all_sendings r w.requests true m f.last all good);
      once = once_goes r picks n m f.last w.sent queued w.requests h.once;
      few = λ c. (let before = h.few c in omega (arith, before, count_picked (is_from c) picks f.waiting));
      flight = (let fits = few_lines.0 in grind (arith, nat_tests));
      alike = t.0;
      quiet = λ down new. absurd (cc (down, p.0));
      fresh = fresh_goes r picks n m f.last w.sent queued w.requests w.answers h.fresh;
      known = first_known r (w.sent ++ sends) n m 0 f.last all (sent_right w.sent sends);
      again = all_append (IsAgain (w.sent ++ sends)) w.sent sends (all_weaker (IsAgain w.sent) (IsAgain (w.sent ++ sends)) (more_again w.sent sends) w.sent h.again) (first_again r (w.sent ++ sends) n m f.last all);
    })

flies_holds : (r : Rules) (w : Run) (in_flight queued : List Request) (picks : List Bool) → Holds r (with_hand r in_flight queued w) → Holds r (happens r (with_hand r in_flight queued w) (Flies picks))
flies_holds r w in_flight queued picks h =
    let v : Run = with_hand r in_flight queued w in
    either (Holds r) (may_go picks v.proxy) (went r picks v) v (λ may. went_holds r w in_flight queued picks may h) (λ may_not. h)

-- ---- a line that needs a view is sent

-- what lets it be sent
pub record FollowsNow (r : Rules) (line : List ℕ) (f : Proxy) : Type 0 where
  pub up : f.is_up ≡ true
  pub none_flies : is_none f.flight ≡ true
  pub none_waits : is_none f.waiting ≡ true
  pub ready : (f.is_counted || not (needs_number r line)) ≡ true
  pub permitted : is_permitted r f.view line ≡ true

pub follows_of : (r : Rules) (line : List ℕ) (f : Proxy) → may_follow r line f ≡ true → FollowsNow r line f
follows_of r line f may =
    let ready : Bool = f.is_counted || not (needs_number r line) in
    let permitted : Bool = is_permitted r f.view line in
    let p = both_true f.is_up (is_none f.flight && (is_none f.waiting && (ready && permitted))) may in
    let q = both_true (is_none f.flight) (is_none f.waiting && (ready && permitted)) p.1 in
    let s = both_true (is_none f.waiting) (ready && permitted) q.1 in
    let t = both_true ready permitted s.1 in
    record { up = p.0; none_flies = q.0; none_waits = s.0; ready = t.0; permitted = t.1 }

-- alone, it may go
pub alone_goes : (up ready query : Bool) → up ≡ true → ready ≡ true → (up && (true && (true && (((query && true) || (not query && true)) && (true && (ready && true)))))) ≡ true
alone_goes true true true is_up is_ready = refl
alone_goes true true false is_up is_ready = refl
alone_goes true false query is_up is_ready = absurd (cc is_ready)
alone_goes false ready query is_up is_ready = absurd (cc is_up)

-- the requests in hand before and after it is accepted
abbrev pub accepted : Rules → Run → ℕ → ℕ → List ℕ → Run
accepted r w c role line = came r (with_hand r [] [] w) c role line Queued

pub goes_alone : (r : Rules) (w : Run) (c role : ℕ) (line : List ℕ) → FollowsNow r line (with_hand r [] [] w).proxy → may_go (true ∷ []) (accepted r w c role line).proxy ≡ true
goes_alone r w c role line now = alone_goes w.proxy.is_up (w.proxy.is_counted || not (needs_number r line)) (r.is_query line) now.up now.ready

pub accepted_holds : (r : Rules) (w : Run) (c role : ℕ) (line : List ℕ) → is_ended c w.ended ≡ false → r.allows role line ≡ true → Holds r (with_hand r [] [] w) → Holds r (accepted r w c role line)
accepted_holds r w c role line going may h = came_queued r w [] [] c role line going may (omega arith) h

by_view_holds : (r : Rules) (w : Run) → Holds r w → Holds r (by_view w)
by_view_holds r w h = record {
  numbered = h.numbered;
  flying = h.flying;
  waiting = h.waiting;
  wire = h.wire;
  quiet = h.quiet;
  wired = h.wired;
  single = h.single;
  twice = h.twice;
  within = h.within;
  turn = h.turn;
  over = h.over;
  own = h.own;
  denied = h.denied;
  in_flight = h.in_flight;
  queued = h.queued;
  sent = h.sent;
  once = h.once;
  few = h.few;
  flight = h.flight;
  alike = h.alike;
  fresh = h.fresh;
  known = h.known;
  again = h.again;
}

followed_holds : (r : Rules) (w : Run) (in_flight queued : List Request) (c role : ℕ) (line : List ℕ) → is_ended c w.ended ≡ false → r.allows role line ≡ true → FollowsNow r line (with_hand r in_flight queued w).proxy
    → Holds r (with_hand r in_flight queued w) → Holds r (followed r (with_hand r in_flight queued w) c role line Queued)
followed_holds r w (a ∷ more) queued c role line going may now h = (let none : false ≡ true = now.none_flies in absurd (cc none))
followed_holds r w [] (a ∷ more) c role line going may now h = (let none : false ≡ true = now.none_waits in absurd (cc none))
followed_holds r w [] [] c role line going may now h =
    let v : Run = accepted r w c role line in
    by_view_holds r (went r (true ∷ []) v) (went_holds r v [] (next_request w c role line ∷ []) (true ∷ []) (goes_alone r w c role line now) (accepted_holds r w c role line going may h))

follows_holds : (r : Rules) (w : Run) (in_flight queued : List Request) (c role : ℕ) (line : List ℕ) → Holds r (with_hand r in_flight queued w) → Holds r (happens r (with_hand r in_flight queued w) (Follows c role line))
follows_holds r w in_flight queued c role line h =
    let v : Run = with_hand r in_flight queued w in
    either (Holds r) (is_ended c w.ended) v (followed r v c role line (admission_after_view r c role line v.proxy)) (λ over. h)
    (λ going. following_cases r c role line v.proxy (λ t. Holds r (followed r v c role line t))
    (λ may follows. followed_holds r w in_flight queued c role line going may (follows_of r line v.proxy follows) h)
    (λ may_not none. came_denied r w in_flight queued c role line going may_not none h)
    h)

-- ---- the server says something

all_twice_rest : (a : Pending) (more : List Pending) → list_all is_twice (a ∷ more) ≡ true → list_all is_twice more ≡ true
all_twice_rest a more all = (both_true (is_twice a) (list_all is_twice more) all).1

turn_rest : (a : Request) (more : List Request) (delivered : List Delivery) (k : ℕ) (queued requests : List Request) (d : ℕ) → (a.from == d) ≡ false
    → places_delivered d delivered ++ hand d k (a ∷ more) queued ≡ places_of d requests → places_delivered d delivered ++ hand d k more queued ≡ places_of d requests
turn_rest a more delivered k queued requests d apart turn = sym (ap (λ l. places_delivered d delivered ++ l) (hand_rest d k a more queued apart)) ∙ turn

turn_delivered : (a : Request) (more : List Request) (ended : List ℕ) (delivered : List Delivery) (k : ℕ) (queued requests : List Request) (answer : List ℕ) → places_of a.from (take k queued) ≡ []
    → Turn ended delivered k (a ∷ more) queued requests
    → Turn ended (delivered ++ (record { to = a.from; place = a.place; answer = Some answer }) ∷ []) k more queued requests
turn_delivered a more ended delivered k queued requests answer oldest turn d going =
    let own : List ℕ = place_if (a.from == d) a.place in
    ap (λ l. l ++ hand d k more queued) (delivered_push d delivered (record { to = a.from; place = a.place; answer = Some answer }))
    ∙ append_assoc (places_delivered d delivered) own (hand d k more queued)
    ∙ ap (λ l. places_delivered d delivered ++ l) (sym (hand_first d k a more queued oldest))
    ∙ turn d going

few_rest : (a : Pending) (more waiting : List Pending) → Few (a ∷ more) waiting → Few more waiting
few_rest a more waiting few d = let before = few d in let less = count_rest (is_from d) (a ∷ more) in omega (arith, before, less)

own_delivered : (P : Delivery → Answer → Type 0) (delivered : List Delivery) (answers : List Answer) (c place : ℕ) (answer : List ℕ) (h : Answer) → AreOf P (by_server delivered) answers → P (record { to = c; place = place; answer = Some answer }) h
    → AreOf P (by_server (delivered ++ (record { to = c; place = place; answer = Some answer }) ∷ [])) (answers ++ h ∷ [])
own_delivered P delivered answers c place answer h own is =
    let t : Delivery = record { to = c; place = place; answer = Some answer } in
    subst (λ l. AreOf P l (answers ++ h ∷ [])) (sym (server-append delivered (t ∷ []))) (are_push P (by_server delivered) answers t h own is)

said_to : (r : Rules) (w : Run) (answer : List ℕ) (a : Request) (more queued : List Request) → w.proxy.is_up ≡ true → places_of a.from (take w.proxy.refused queued) ≡ [] → Holds r (with_hand r (a ∷ more) queued w) → Holds r (said r (with_hand r (a ∷ more) queued w) answer (To a.from))
said_to r w answer a more queued up oldest h =
    let out = h.wire up in
    let n : ℕ = out.0 in
    let first : Bool = not w.proxy.is_resent in
    let m : ℕ = out.1 in
    let s : Sent = sending r n first m (next w.proxy.number) a in
    let later : List Sent = sendings r n first (m + 1) (step (needs_number r a.line) w.proxy.number) more in
    let wired : AllByRecursion (Contains w.sent) (s ∷ later) = subst (AllByRecursion (Contains w.sent)) out.2 h.wired in
    let allowed : IsAllowed r w.requests s = All-contains (IsAllowed r w.requests) w.sent s (All-from_recursion (IsAllowed r w.requests) w.sent h.sent) wired.0 in
    let early : a.place < n = (let less = allowed.before in let same = allowed.place in omega (arith, less, same)) in
    let is : IsAnswerTo r w.requests w.sent (record { to = a.from; place = a.place; answer = Some answer }) (record { sent = s; answer = answer; heard = length w.sent }) =
    record { ask = a; requested = h.in_flight.0.requested; to = refl; place = refl; sent_it = wired.0; same_place = refl; same_line = refl; after = early; answer = refl } in
    let v : Run = with_hand r (a ∷ more) queued w in
    subst (λ l. Holds r (record v { proxy = after_first_answer r answer v.proxy; in_flight = more; delivered = delivered_too w.ended w.delivered a.from a.place answer; wire = rest l; answers = w.answers ++ answer_of (length w.sent) l answer })) (sym out.2)
    (either (λ delivered. Holds r (record v { proxy = after_first_answer r answer v.proxy; in_flight = more; delivered = delivered; wire = later; answers = w.answers ++ record { sent = s; answer = answer; heard = length w.sent } ∷ [] }))
    (is_ended a.from w.ended) w.delivered (w.delivered ++ record { to = a.from; place = a.place; answer = Some answer } ∷ [])
    (λ gone. record {
      numbered = h.numbered;
      flying = refl;
      waiting = refl;
      wire = λ now. (n, m + 1, refl);
      wired = wired.1;
      quiet = λ down new. absurd (cc (down, up));
      single = λ now. flight_rest (pending_of r a) (map (pending_of r) more) (h.single now);
      twice = λ now. all_twice_rest (pending_of r a) (map (pending_of r) more) (h.twice now);
      within = h.within;
      turn = λ d going. turn_rest a more w.delivered w.proxy.refused queued w.requests d (flipped d a.from (ended_apart d a.from w.ended going gone)) (h.turn d going);
      over = h.over;
      own = are_more (IsAnswerTo r w.requests w.sent) (by_server w.delivered) w.answers (record { sent = s; answer = answer; heard = length w.sent } ∷ []) h.own;
      denied = h.denied;
      in_flight = h.in_flight.1;
      queued = h.queued;
      sent = h.sent;
      once = h.once;
      few = few_rest (pending_of r a) (map (pending_of r) more) (map (pending_of r) queued) h.few;
      flight = (let long = h.flight in omega (arith, long));
      alike = alike_rest (pending_of r a) (map (pending_of r) more) h.alike;
      fresh = fresh_heard r w.sent queued w.requests w.answers (record { sent = s; answer = answer; heard = length w.sent } ∷ []) h.fresh;
      known = known_serial r w.sent 1 0 (step (needs_number r a.line) w.proxy.number) more h.known.1;
      again = h.again;
    })
    (λ there. record {
      numbered = h.numbered;
      flying = refl;
      waiting = refl;
      wire = λ now. (n, m + 1, refl);
      wired = wired.1;
      quiet = λ down new. absurd (cc (down, up));
      single = λ now. flight_rest (pending_of r a) (map (pending_of r) more) (h.single now);
      twice = λ now. all_twice_rest (pending_of r a) (map (pending_of r) more) (h.twice now);
      within = h.within;
      turn = turn_delivered a more w.ended w.delivered w.proxy.refused queued w.requests answer oldest h.turn;
      over = over_delivered (record { to = a.from; place = a.place; answer = Some answer }) w.ended w.delivered w.requests there h.over;
      own = own_delivered (IsAnswerTo r w.requests w.sent) w.delivered w.answers a.from a.place answer (record { sent = s; answer = answer; heard = length w.sent }) h.own is;
      denied = all_append (IsDeniedRightly r w.requests) w.delivered (record { to = a.from; place = a.place; answer = Some answer } ∷ []) h.denied (tt, tt);
      in_flight = h.in_flight.1;
      queued = h.queued;
      sent = h.sent;
      once = h.once;
      few = few_rest (pending_of r a) (map (pending_of r) more) (map (pending_of r) queued) h.few;
      flight = (let long = h.flight in omega (arith, long));
      alike = alike_rest (pending_of r a) (map (pending_of r) more) h.alike;
      fresh = fresh_heard r w.sent queued w.requests w.answers (record { sent = s; answer = answer; heard = length w.sent } ∷ []) h.fresh;
      known = known_serial r w.sent 1 0 (step (needs_number r a.line) w.proxy.number) more h.known.1;
      again = h.again;
    }))
  where
    flipped : (c d : ℕ) → (c == d) ≡ false → (d == c) ≡ false
    flipped c d apart = grind (arith, nat_tests)

said_ended : (r : Rules) (w : Run) (answer : List ℕ) (a : Request) (more queued : List Request) → w.proxy.is_up ≡ true → Holds r (with_hand r (a ∷ more) queued w) → Holds r (said r (with_hand r (a ∷ more) queued w) answer (Ended a.from))
said_ended r w answer a more queued up h =
    let out = h.wire up in
    let n : ℕ = out.0 in
    let first : Bool = not w.proxy.is_resent in
    let m : ℕ = out.1 in
    let s : Sent = sending r n first m (next w.proxy.number) a in
    let later : List Sent = sendings r n first (m + 1) (step (needs_number r a.line) w.proxy.number) more in
    let wired : AllByRecursion (Contains w.sent) (s ∷ later) = subst (AllByRecursion (Contains w.sent)) out.2 h.wired in
    record {
      numbered = h.numbered;
      flying = refl;
      waiting = without_pending_of r a.from queued;
      wire = λ now. (n, m + 1, ap rest out.2);
      wired = subst (λ l. AllByRecursion (Contains w.sent) (rest l)) (sym out.2) wired.1;
      quiet = λ down new. absurd (cc (down, up));
      single = λ now. flight_rest (pending_of r a) (map (pending_of r) more) (h.single now);
      twice = λ now. all_twice_rest (pending_of r a) (map (pending_of r) more) (h.twice now);
      within = within_without r a.from w.proxy.refused queued h.within;
      turn = turn_forgetting r a.from w.ended w.delivered w.proxy.refused more queued w.requests (λ d apart going. turn_rest a more w.delivered w.proxy.refused queued w.requests d apart (h.turn d going));
      over = λ d is. over_all w.ended w.delivered w.proxy.refused (a ∷ more) queued w.requests h.turn h.over d;
      own = are_more (IsAnswerTo r w.requests w.sent) (by_server w.delivered) w.answers (answer_of (length w.sent) w.wire answer) h.own;
      denied = h.denied;
      in_flight = h.in_flight.1;
      queued = all_filter (IsGood r w.requests) (λ (x : Request). not (x.from == a.from)) queued h.queued;
      sent = h.sent;
      once = once_forgetting r a.from w.sent queued w.requests h.once;
      few = few_forgetting a.from (map (pending_of r) more) (map (pending_of r) queued) (few_rest (pending_of r a) (map (pending_of r) more) (map (pending_of r) queued) h.few);
      flight = (let long = h.flight in omega (arith, long));
      alike = alike_rest (pending_of r a) (map (pending_of r) more) h.alike;
      fresh = fresh_heard r w.sent (without a.from queued) w.requests w.answers (answer_of (length w.sent) w.wire answer) (fresh_forgetting r a.from w.sent queued w.requests w.answers h.fresh);
      known = known_serial r w.sent 1 0 (step (needs_number r a.line) w.proxy.number) more h.known.1;
      again = h.again;
    }

said_retry : (r : Rules) (w : Run) (answer : List ℕ) (a : Request) (more queued : List Request) → w.proxy.is_up ≡ true → w.proxy.is_resent ≡ false → needs_number r a.line ≡ true → r.refuses_number answer ≡ true
    → Holds r (with_hand r (a ∷ more) queued w) → Holds r (said r (with_hand r (a ∷ more) queued w) answer (Retry a.from))
said_retry r w answer a more queued up new own turned h =
    let out = h.wire up in
    let n : ℕ = out.0 in
    let first : Bool = not w.proxy.is_resent in
    let m : ℕ = out.1 in
    let s : Sent = sending r n first m (next w.proxy.number) a in
    let later : List Sent = sendings r n first (m + 1) (step (needs_number r a.line) w.proxy.number) more in
    let wired : AllByRecursion (Contains w.sent) (s ∷ later) = subst (AllByRecursion (Contains w.sent)) out.2 h.wired in
    let v : Run = with_hand r (a ∷ more) queued w in
    let not_once : r.is_once a.line ≡ false = never (r.is_unnumbered a.line) (r.is_once a.line) own in
    subst (λ l. Holds r (record v { proxy = record (after_first_answer r answer v.proxy) { waiting = put_back w.proxy.refused (pending_of r a ∷ []) (map (pending_of r) queued); refused = w.proxy.refused + 1 }; in_flight = more; queued = put_back w.proxy.refused (a ∷ []) queued; wire = rest l; answers = w.answers ++ answer_of (length w.sent) l answer })) (sym out.2) (record {
      numbered = h.numbered;
      flying = refl;
      waiting = map_put (pending_of r) w.proxy.refused a queued;
      wire = λ now. (n, m + 1, refl);
      quiet = λ down old. absurd (cc (down, up));
      wired = wired.1;
      single = λ now. flight_rest (pending_of r a) (map (pending_of r) more) (h.single now);
      twice = λ now. all_twice_rest (pending_of r a) (map (pending_of r) more) (h.twice now);
      within = (let less = h.within in omega (arith, less, length-insert queued w.proxy.refused a h.within));
      turn = λ d going. ap (λ l. places_delivered d w.delivered ++ l) (hand_again d w.proxy.refused a more queued h.within) ∙ h.turn d going;
      over = h.over;
      own = are_more (IsAnswerTo r w.requests w.sent) (by_server w.delivered) w.answers (record { sent = s; answer = answer; heard = length w.sent } ∷ []) h.own;
      denied = h.denied;
      in_flight = h.in_flight.1;
      queued = all_put (IsGood r w.requests) w.proxy.refused a queued h.queued h.in_flight.0;
      sent = h.sent;
      once = λ p. (
          let before = h.once p in
          let none : cond {A = ℕ} (is_once_request r p a) 1 0 ≡ 0 = ap (λ b. cond {A = ℕ} ((a.place == p) && b) 1 0) not_once ∙ ap (λ b. cond {A = ℕ} b 1 0) (and_false (a.place == p)) in
          omega (arith, before, none, count_put (is_once_request r p) w.proxy.refused a queued));
      few = λ d. (let before = h.few d in omega (arith, before, sum_by-cons (λ y. cond {A = ℕ} (is_from d y) 1 0) (pending_of r a) (map (pending_of r) more), count_put (is_from d) w.proxy.refused (pending_of r a) (map (pending_of r) queued)));
      flight = (let long = h.flight in omega (arith, long));
      alike = alike_rest (pending_of r a) (map (pending_of r) more) h.alike;
      fresh = λ p. (
          let before = h.fresh p in
          let g : Answer = record { sent = s; answer = answer; heard = length w.sent } in
          let counts : refuses_number_at r p g ≡ (a.place == p) = ap (λ b. (a.place == p) && (not b && (needs_number r a.line && r.refuses_number answer))) new ∙ ap (λ b. (a.place == p) && (b && r.refuses_number answer)) own ∙ ap (λ b. (a.place == p) && b) turned ∙ and_true (a.place == p) in
          let one : cond {A = ℕ} (refuses_number_at r p g) 1 0 ≡ cond {A = ℕ} (a.place == p) 1 0 = ap (λ b. cond {A = ℕ} b 1 0) counts in
          omega (arith, before, one, count_push (refuses_number_at r p) w.answers g, count_put (is_at p) w.proxy.refused a queued));
      known = known_serial r w.sent 1 0 (step (needs_number r a.line) w.proxy.number) more h.known.1;
      again = h.again;
    })
  where
    never : (own once : Bool) → (own && not once) ≡ true → once ≡ false
    never own true h = absurd (cc (sym (and_false own) ∙ h))
    never own false h = refl

said_unsolicited : (r : Rules) (w : Run) (answer : List ℕ) (queued : List Request) → Holds r (with_hand r [] queued w) → Holds r (said r (with_hand r [] queued w) answer Unsolicited)
said_unsolicited r w answer queued h = record {
  quiet = λ down new. refl;
  numbered = h.numbered;
  flying = refl;
  waiting = refl;
  wire = λ up. absurd (cc up);
  wired = tt;
  single = λ up. absurd (cc up);
  twice = λ down. refl;
  within = h.within;
  turn = h.turn;
  over = h.over;
  own = h.own;
  denied = h.denied;
  in_flight = tt;
  queued = h.queued;
  sent = h.sent;
  once = h.once;
  few = h.few;
  flight = h.flight;
  alike = h.alike;
  fresh = h.fresh;
  known = tt;
  again = h.again;
}

outcome_cases : (r : Rules) (w : Run) (answer : List ℕ) (in_flight queued : List Request) → w.proxy.is_up ≡ true → Holds r (with_hand r in_flight queued w)
    → Holds r (said r (with_hand r in_flight queued w) answer (outcome_of r answer w.proxy.is_resent w.proxy.needs_view (is_late (with_hand r in_flight queued w).proxy) (map (pending_of r) in_flight)))
outcome_cases r w answer [] queued up h = said_unsolicited r w answer queued h
outcome_cases r w answer (a ∷ more) queued up h =
    let P : Outcome → Type 0 = λ g. Holds r (said r (with_hand r (a ∷ more) queued w) answer g) in
    let turned : Bool = needs_number r a.line && r.refuses_number answer in
    let unclear : Bool = w.proxy.is_resent && r.is_inconclusive answer in
    let late : Bool = is_late (with_hand r (a ∷ more) queued w).proxy a.from in
    either P turned (cond (w.proxy.is_resent || w.proxy.needs_view) (Ended a.from) (Retry a.from)) (cond (unclear || late) (Ended a.from) (To a.from))
    (λ is. either P (w.proxy.is_resent || w.proxy.needs_view) (Ended a.from) (Retry a.from) (λ again. said_ended r w answer a more queued up h)
    (λ new. (let p = both_true (needs_number r a.line) (r.refuses_number answer) is in said_retry r w answer a more queued up (both_false w.proxy.is_resent w.proxy.needs_view new).0 p.0 p.1 h)))
    (λ is_not. either P (unclear || late) (Ended a.from) (To a.from) (λ ends. said_ended r w answer a more queued up h)
    (λ in_turn. said_to r w answer a more queued up (none_late r a.from w.proxy.refused queued (both_false unclear late in_turn).1) h))

answers_holds : (r : Rules) (w : Run) (in_flight queued : List Request) (answer : List ℕ) → Holds r (with_hand r in_flight queued w) → Holds r (happens r (with_hand r in_flight queued w) (Answers answer))
answers_holds r w in_flight queued answer h =
    let v : Run = with_hand r in_flight queued w in
    either (Holds r) w.proxy.is_up (said r v answer (outcome r answer v.proxy)) v
    (λ up. (
    let is : outcome r answer v.proxy ≡ outcome_of r answer w.proxy.is_resent w.proxy.needs_view (is_late (with_hand r in_flight queued w).proxy) (map (pending_of r) in_flight) = ap (λ b. cond b (outcome_of r answer w.proxy.is_resent w.proxy.needs_view (is_late (with_hand r in_flight queued w).proxy) (map (pending_of r) in_flight)) Unsolicited) up in
    subst (λ g. Holds r (said r v answer g)) (sym is) (outcome_cases r w answer in_flight queued up h)))
    (λ down. h)

-- ---- the server's connection breaks

-- without the first, if it must not be sent twice, the flight may be sent again
rest_again : (a : Pending) (more : List Pending) (up : Bool) → (up ≡ true → is_flight (a ∷ more) ≡ true) → (up ≡ false → list_all is_twice (a ∷ more) ≡ true) → list_all is_twice more ≡ true
rest_again a more true single twice = rest_twice a more (single refl)
rest_again a more false single twice = all_twice_rest a more (twice refl)

lost_none : (r : Rules) (w : Run) (in_flight queued : List Request) → list_all is_twice (map (pending_of r) in_flight) ≡ true → Holds r (with_hand r in_flight queued w) → Holds r (broke (with_hand r in_flight queued w) None)
lost_none r w in_flight queued again h = record {
  quiet = λ down new. absurd (cc new);
  numbered = h.numbered;
  flying = refl;
  waiting = refl;
  wire = λ up. absurd (cc up);
  wired = tt;
  single = λ up. absurd (cc up);
  twice = λ down. again;
  within = h.within;
  turn = h.turn;
  over = h.over;
  own = h.own;
  denied = h.denied;
  in_flight = h.in_flight;
  queued = h.queued;
  sent = h.sent;
  once = h.once;
  few = h.few;
  flight = h.flight;
  alike = h.alike;
  fresh = h.fresh;
  known = h.known;
  again = h.again;
}

lost_first : (r : Rules) (w : Run) (a : Request) (more queued : List Request) → needs_number r a.line ≡ false → list_all is_twice (map (pending_of r) more) ≡ true → Holds r (with_hand r (a ∷ more) queued w) → Holds r (broke (with_hand r (a ∷ more) queued w) (Some a.from))
lost_first r w a more queued unowned again h = record {
  quiet = λ down new. absurd (cc new);
  numbered = h.numbered;
  flying = refl;
  waiting = without_pending_of r a.from queued;
  wire = λ up. absurd (cc up);
  wired = tt;
  single = λ up. absurd (cc up);
  twice = λ down. again;
  within = within_without r a.from w.proxy.refused queued h.within;
  turn = turn_forgetting r a.from w.ended w.delivered w.proxy.refused more queued w.requests (λ d apart going. turn_rest a more w.delivered w.proxy.refused queued w.requests d apart (h.turn d going));
  over = λ d is. over_all w.ended w.delivered w.proxy.refused (a ∷ more) queued w.requests h.turn h.over d;
  own = h.own;
  denied = h.denied;
  in_flight = h.in_flight.1;
  queued = all_filter (IsGood r w.requests) (λ (x : Request). not (x.from == a.from)) queued h.queued;
  sent = h.sent;
  once = once_forgetting r a.from w.sent queued w.requests h.once;
  few = few_forgetting a.from (map (pending_of r) more) (map (pending_of r) queued) (few_rest (pending_of r a) (map (pending_of r) more) (map (pending_of r) queued) h.few);
  flight = (let long = h.flight in omega (arith, long));
  alike = alike_rest (pending_of r a) (map (pending_of r) more) h.alike;
  fresh = fresh_forgetting r a.from w.sent queued w.requests w.answers h.fresh;
  known = subst (λ b. AllByRecursion (IsKnown w.sent) (sendings r 0 true 0 (step b w.proxy.number) more)) unowned (known_serial r w.sent 1 0 (step (needs_number r a.line) w.proxy.number) more h.known.1);
  again = h.again;
}

lost_cases : (r : Rules) (w : Run) (in_flight queued : List Request) → Holds r (with_hand r in_flight queued w) → Holds r (broke (with_hand r in_flight queued w) (lost_of (map (pending_of r) in_flight)))
lost_cases r w [] queued h = lost_none r w [] queued refl h
lost_cases r w (a ∷ more) queued h =
    let again : list_all is_twice (map (pending_of r) more) ≡ true = rest_again (pending_of r a) (map (pending_of r) more) w.proxy.is_up h.single h.twice in
    either (λ l. Holds r (broke (with_hand r (a ∷ more) queued w) l)) (r.is_once a.line) (Some a.from) None
    (λ once. lost_first r w a more queued (unowned (r.is_unnumbered a.line) (r.is_once a.line) once) again h)
    (λ more_than_once. lost_none r w (a ∷ more) queued (ap (λ b. not b && list_all is_twice (map (pending_of r) more)) more_than_once ∙ again) h)
  where
    unowned : (own once : Bool) → once ≡ true → (own && not once) ≡ false
    unowned true once is = ap not is
    unowned false once is = refl

-- ---- an order is taken back

taken_first : (r : Rules) (w : Run) (a : Request) (more queued : List Request) → w.proxy.is_up ≡ false → needs_number r a.line ≡ true → Holds r (with_hand r (a ∷ more) queued w) → Holds r (took (with_hand r (a ∷ more) queued w) (Some (next w.proxy.number)))
taken_first r w a more queued down owned h = record {
  quiet = λ is_down new. ap rest (h.quiet is_down new);
  numbered = h.numbered;
  flying = refl;
  waiting = without_pending_of r a.from queued;
  wire = λ up. absurd (cc (up, down));
  wired = h.wired;
  single = λ up. absurd (cc (up, down));
  twice = λ is_down. all_twice_rest (pending_of r a) (map (pending_of r) more) (h.twice is_down);
  within = within_without r a.from w.proxy.refused queued h.within;
  turn = turn_forgetting r a.from w.ended w.delivered w.proxy.refused more queued w.requests (λ d apart going. turn_rest a more w.delivered w.proxy.refused queued w.requests d apart (h.turn d going));
  over = λ d is. over_all w.ended w.delivered w.proxy.refused (a ∷ more) queued w.requests h.turn h.over d;
  own = h.own;
  denied = h.denied;
  in_flight = h.in_flight.1;
  queued = all_filter (IsGood r w.requests) (λ (x : Request). not (x.from == a.from)) queued h.queued;
  sent = h.sent;
  once = once_forgetting r a.from w.sent queued w.requests h.once;
  few = few_forgetting a.from (map (pending_of r) more) (map (pending_of r) queued) (few_rest (pending_of r a) (map (pending_of r) more) (map (pending_of r) queued) h.few);
  flight = (let long = h.flight in omega (arith, long));
  alike = alike_rest (pending_of r a) (map (pending_of r) more) h.alike;
  fresh = fresh_forgetting r a.from w.sent queued w.requests w.answers h.fresh;
  known = subst (λ b. AllByRecursion (IsKnown w.sent) (sendings r 0 true 0 (step b w.proxy.number) more)) owned (known_serial r w.sent 1 0 (step (needs_number r a.line) w.proxy.number) more h.known.1);
  again = h.again;
}

takes_holds : (r : Rules) (w : Run) (in_flight queued : List Request) (c : ℕ) → Holds r (with_hand r in_flight queued w) → Holds r (happens r (with_hand r in_flight queued w) (TakesBack c))
takes_holds r w in_flight queued c h =
    let v : Run = with_hand r in_flight queued w in
    either (λ t. Holds r (took v t)) w.proxy.is_up None (cond (begins_order c (map (pending_of r) in_flight)) (Some (next w.proxy.number)) None) (λ up. h)
    (λ down. either (λ t. Holds r (took v t)) (begins_order c (map (pending_of r) in_flight)) (Some (next w.proxy.number)) None (λ begins. taken_cases r w in_flight queued c down begins h) (λ other. h))
  where
    taken_cases : (r : Rules) (w : Run) (in_flight queued : List Request) (c : ℕ) → w.proxy.is_up ≡ false → begins_order c (map (pending_of r) in_flight) ≡ true → Holds r (with_hand r in_flight queued w) → Holds r (took (with_hand r in_flight queued w) (Some (next w.proxy.number)))
    taken_cases r w [] queued c down begins h = absurd (cc begins)
    taken_cases r w (a ∷ more) queued c down begins h = taken_first r w a more queued down (both_true (needs_number r a.line) (a.from == c) begins).0 h

-- ---- there is a new one

pub is_down : (f : Proxy) → may_connect f ≡ true → f.is_up ≡ false
is_down f may = not_up f.is_up (both_true (not f.is_up) (not f.needs_view || is_none f.flight) may).0
  where
    not_up : (up : Bool) → not up ≡ true → up ≡ false
    not_up true is = absurd (cc is)
    not_up false is = refl

none_once : (r : Rules) (p : ℕ) (xs : List Request) → list_all is_twice (map (pending_of r) xs) ≡ true → count_by (is_once_request r p) xs ≡ 0
none_once r p [] twice = refl
none_once r p (x ∷ xs) twice =
    let q = both_true (not (r.is_once x.line)) (list_all is_twice (map (pending_of r) xs)) twice in
    let others = none_once r p xs q.1 in
    let none : is_once_request r p x ≡ false = never (x.place == p) (r.is_once x.line) q.0 in
    let whole : count_by (is_once_request r p) (x ∷ xs) ≡ cond {A = ℕ} (is_once_request r p x) 1 0 + count_by (is_once_request r p) xs = sum_by-cons (λ y. cond {A = ℕ} (is_once_request r p y) 1 0) x xs in
    let zero : cond {A = ℕ} (is_once_request r p x) 1 0 ≡ 0 = ap (λ b. cond {A = ℕ} b 1 0) none in
    omega (arith, others, whole, zero)
  where
    never : (a b : Bool) → not b ≡ true → (a && b) ≡ false
    never true true h = absurd (cc h)
    never true false h = refl
    never false b h = refl

connected_holds : (r : Rules) (w : Run) (in_flight queued : List Request) → w.proxy.is_up ≡ false → Holds r (with_hand r in_flight queued w) → Holds r (connected r (with_hand r in_flight queued w))
connected_holds r w in_flight queued down h =
    let n : ℕ = length w.requests in
    let v : Run = with_hand r in_flight queued w in
    let k : ℕ = w.proxy.number in
    let m : ℕ = length w.sent in
    let sends : List Sent = sendings r n false m k in_flight in
    subst (λ l. Holds r (record v { proxy = record (v.proxy) { is_up = true }; sent = w.sent ++ l; wire = l })) (sym (written_of r n false m k in_flight)) (record {
      numbered = h.numbered;
      flying = refl;
      waiting = refl;
      wire = λ up. (n, m, same_first r n m k in_flight w.proxy.is_resent (h.quiet down));
      quiet = λ now new. absurd (cc now);
      wired = sent_right w.sent (sends);
      single = λ up. flight_is (map (pending_of r) in_flight) h.flight (h.twice down);
      twice = λ now. absurd (cc now);
      within = h.within;
      turn = h.turn;
      over = h.over;
      own = own_sent r w.requests w.sent (sends) (by_server w.delivered) w.answers h.own;
      denied = h.denied;
      in_flight = h.in_flight;
      queued = h.queued;
      sent = all_append (IsAllowed r w.requests) w.sent (sends) h.sent (all_sendings r w.requests false m k in_flight h.in_flight);
      once = λ p. (
          let before = h.once p in
          let go : List Sent = sends in
          let none : count_by (is_once_at p) go ≡ 0 = count_sendings r n false (is_once_at p) (is_once_request r p) (λ j i a. refl) m k in_flight ∙ none_once r p in_flight (h.twice down) in
          let whole : count_by (is_once_at p) (w.sent ++ go) ≡ count_by (is_once_at p) w.sent + count_by (is_once_at p) go = sum_by-append (λ y. cond (is_once_at p y) 1 0) w.sent go in
          omega (arith, before, none, whole));
      few = h.few;
      flight = h.flight;
      alike = h.alike;
      fresh = λ p. (
          let before = h.fresh p in
          let none : count_by (is_first_at p) sends ≡ 0 = count_sendings r n false (is_first_at p) (λ a. false) (λ j i a. and_false (a.place == p)) m k in_flight ∙ none_false in_flight in
          let whole : count_by (is_first_at p) (w.sent ++ sends) ≡ count_by (is_first_at p) w.sent + count_by (is_first_at p) sends = sum_by-append (λ y. cond (is_first_at p y) 1 0) w.sent sends in
          omega (arith, before, none, whole));
      known = all_weaker (IsKnown w.sent) (IsKnown (w.sent ++ sends)) (more_known w.sent sends) (sendings r 0 true 0 k in_flight) h.known;
      again = all_append (IsAgain (w.sent ++ sends)) w.sent sends (all_weaker (IsAgain w.sent) (IsAgain (w.sent ++ sends)) (more_again w.sent sends) w.sent h.again)
          (known_again r (w.sent ++ sends) n m 0 k in_flight (all_weaker (IsKnown w.sent) (IsKnown (w.sent ++ sends)) (more_known w.sent sends) (sendings r 0 true 0 k in_flight) h.known));
    })
  where
    none_false : (xs : List Request) → count_by (λ (a : Request). false) xs ≡ 0
    none_false [] = refl
    none_false (x ∷ xs) = (let others = none_false xs in omega (arith, others, sum_by-cons (λ (y : Request). cond {A = ℕ} false 1 0) x xs))

    same_first : (r : Rules) (n m k : ℕ) (in_flight : List Request) (again : Bool) → (again ≡ false → in_flight ≡ []) → sendings r n false m k in_flight ≡ sendings r n (not again) m k in_flight
    same_first r n m k in_flight true quiet = refl
    same_first r n m k in_flight false quiet = ap (sendings r n false m k) (quiet refl) ∙ sym (ap (sendings r n true m k) (quiet refl))

connects_holds : (r : Rules) (w : Run) (in_flight queued : List Request) → Holds r (with_hand r in_flight queued w) → Holds r (happens r (with_hand r in_flight queued w) Connects)
connects_holds r w in_flight queued h =
    let v : Run = with_hand r in_flight queued w in
    either (Holds r) (may_connect v.proxy) (connected r v) v (λ may. connected_holds r w in_flight queued (is_down v.proxy may) h) (λ may_not. h)

-- ---- a whole life

hand_happens : (r : Rules) (w : Run) (in_flight queued : List Request) (event : Event) → Holds r (with_hand r in_flight queued w) → Holds r (happens r (with_hand r in_flight queued w) event)
hand_happens r w in_flight queued (Arrives c role line) h = arrives_holds r w in_flight queued c role line h
hand_happens r w in_flight queued (Leaves c) h = leaves_holds r w in_flight queued c h
hand_happens r w in_flight queued (Follows c role line) h = follows_holds r w in_flight queued c role line h
hand_happens r w in_flight queued (Flies picks) h = flies_holds r w in_flight queued picks h
hand_happens r w in_flight queued (Answers answer) h = answers_holds r w in_flight queued answer h
hand_happens r w in_flight queued Breaks h = lost_cases r w in_flight queued h
hand_happens r w in_flight queued (TakesBack c) h = takes_holds r w in_flight queued c h
hand_happens r w in_flight queued Connects h = connects_holds r w in_flight queued h
hand_happens r w in_flight queued (Counts last) h = record {
  numbered = h.numbered;
  flying = h.flying;
  waiting = h.waiting;
  wire = h.wire;
  quiet = h.quiet;
  wired = h.wired;
  single = h.single;
  twice = h.twice;
  within = h.within;
  turn = h.turn;
  over = h.over;
  own = h.own;
  denied = h.denied;
  in_flight = h.in_flight;
  queued = h.queued;
  sent = h.sent;
  once = h.once;
  few = h.few;
  flight = h.flight;
  alike = h.alike;
  fresh = h.fresh;
  known = h.known;
  again = h.again;
}

pub happens_holds : (r : Rules) (w : Run) (event : Event) → Holds r w → Holds r (happens r w event)
happens_holds r w event h =
    let with : (List Pending × List Pending) → Run = λ p. record w { proxy = record (w.proxy) { flight = p.0; waiting = p.1 } } in
    let same : (w.proxy.flight, w.proxy.waiting) ≡ (map (pending_of r) w.in_flight, map (pending_of r) w.queued) = cc (h.flying, h.waiting) in
    subst (λ p. Holds r (happens r (with p) event)) (sym same) (hand_happens r w w.in_flight w.queued event (subst (λ p. Holds r (with p)) same h))

pub run_holds : (r : Rules) (w : Run) (events : List Event) → Holds r w → Holds r (run r w events)
run_holds r w [] h = h
run_holds r w (event ∷ events) h = run_holds r (happens r w event) events (happens_holds r w event h)

pub keeps_of : (r : Rules) (w : Run) → Holds r w → AreSerial 0 w.sent → HasOneNumber r w → IsFresh r w → IsInOrder r w → FollowViews r w → Keeps r w
keeps_of r w h serial one_number fresh in_order follow_views = record {
  follow_views = follow_views;
  in_order = in_order;
  serial = serial;
  one_number = one_number;
  fresh = fresh;
  numbered = h.numbered;
  in_turn = over_all w.ended w.delivered w.proxy.refused w.in_flight w.queued w.requests h.turn h.over;
  in_hand = h.turn;
  flying = h.flying;
  waiting = h.waiting;
  refused = h.within;
  wire = h.wire;
  text = λ up. (let out = h.wire up in ap (text_of r w.proxy.number) h.flying ∙ text_same r out.0 (not w.proxy.is_resent) out.1 w.proxy.number w.in_flight ∙ sym (ap bytes_of out.2));
  own = h.own;
  denied = h.denied;
  allowed = h.sent;
  renumbered = λ p. (let all = h.fresh p in let one = one_place p 0 w.requests h.numbered in omega (arith, all, one));
  again = h.again;
  once = λ p. (
      let all = h.once p in
      let one = one_place p 0 w.requests h.numbered in
      let less = count_less (is_once_request r p) (λ (a : Request). a.place == p) (λ a both. (both_true (a.place == p) (r.is_once a.line) both).0) w.requests in
      omega (arith, all, one, less));
  few = h.few;
  flight = h.flight;
  alike = h.alike;
}
