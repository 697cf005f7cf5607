-- What every event keeps of the numbers.
use Rattle.std.proofs.Common.{◌≡◌, ◌⊎◌, ℕ, ◌+◌, ◌≤◌, ◌<◌, ◌==◌, ◌&&◌, ◌||◌, not, max, Bool, true, false, List, [], ◌∷◌, ◌++◌, Some, None, length, map, filter, count_by, refl, sym, ap, subst, ◌∙◌, arith, inl, inr, cond, Contains}
use Rattle.std.specs.List.{AllByRecursion, list_all}
use Rattle.std.proofs.lemmas.Bool.Decides.{nat_tests}
use Rattle.std.proofs.lemmas.List.Sums.{sum_by-cons}
use Rattle.std.proofs.lemmas.List.Elements.{Contains-append_cases, Contains-append_left, Contains-push}
use Rattle.proxy_core.specs.declared.proxy.Admission.TheVariants.{Queued, Denied, Deferred}
use Rattle.proxy_core.specs.declared.proxy.Outcome.TheVariants.{To, Ended, Retry, Unsolicited}
use Rattle.proxy_core.specs.Rules.{Rules, next, needs_number}
use Rattle.proxy_core.specs.Pending.{Pending, is_from, step}
use Rattle.proxy_core.specs.declared.proxy.Outcome.{Outcome}
use Rattle.proxy_core.specs.Machine.{Proxy, admission, after_first_answer, flown, is_alike, is_flight, is_in_turn, is_ready, left, may_go, outcome, outcome_of, picked, rest, begins_order, is_late, put_back, without_connection, admission_after_view, may_connect}
use Rattle.proxy_core.specs.Run.{Request, Sent, Delivery, Answer, answer_of, delivered_too, Count, Run, Event, Arrives, Leaves, Flies, Answers, Breaks, Follows, TakesBack, Connects, Counts, broke, by_view, followed, came, connected, happens, is_ended, new_run, next_request, run, said, took, went, without, written}
use Rattle.proxy_core.specs.Numbers.{AreSerial, HasOneNumber, IsFresh, IsNumberRefused, IsUnused}
use Rattle.proxy_core.specs.Promises.{AreNumbered, IsAllowed, pending_of, sending, sendings}
use Rattle.proxy_core.proofs.Hand.{refused_without}
use Rattle.proxy_core.proofs.Lists.{all_append, all_filter, all_left, all_picked, all_put, all_weaker, both_false, both_true, count_filter, count_picked, count_push, count_put, count_rest, either, one_place, picked_pending_of, written_of}
use Rattle.proxy_core.proofs.Sendings.{AreApart, all_at, all_in, all_of, compare, cons_cases, in_head, in_tail, is_at, is_of, number_more, same_number, same_place, serial_append, serial_from, serial_less, serial_sendings, some_at}
use Rattle.proxy_core.proofs.Holding.{FollowsNow, Holds, accepted, accepted_holds, following_cases, follows_of, goes_alone, happens_holds, is_down, with_hand}

-- ---- what is known of the requests in hand

-- each number of a request that waits was refused
abbrev pub WaitsAnew : Rules → List Sent → List Answer → Request → Type 0
WaitsAnew r sent answers a = (s : Sent) → Contains sent s → s.is_unnumbered ≡ true → s.place ≡ a.place → IsNumberRefused r answers s

-- a request of the flight has this number, and each other one was refused
abbrev pub HasNumber : Rules → List Sent → List Answer → ℕ → Request → Type 0
HasNumber r sent answers n a = (s : Sent) → Contains sent s → s.is_unnumbered ≡ true → s.place ≡ a.place → (s.number ≡ n) ⊎ IsNumberRefused r answers s

-- and no other request has its number
abbrev pub OwnsNumber : Rules → List Sent → List Answer → List Count → ℕ → Request → Type 0
OwnsNumber r sent answers counts n a = needs_number r a.line ≡ true → (s : Sent) → Contains sent s → s.is_unnumbered ≡ true → s.number ≡ n → n < 18446744073709551615 → (s.place ≡ a.place) ⊎ IsUnused r answers counts s

-- the requests of a flight, each with its number
abbrev pub AllFlying : Rules → (ℕ → Request → Type 0) → ℕ → List Request → Type 0
AllFlying r P k [] = Unit {0}
AllFlying r P k (a ∷ more) = P (next k) a × AllFlying r P (step (needs_number r a.line) k) more

-- the sending is of a request of the flight, with its number
abbrev pub IsFlying : Rules → Sent → ℕ → List Request → Type 0
IsFlying r s k [] = ⊥
IsFlying r s k (a ∷ more) = ((needs_number r a.line ≡ true) × (s.place ≡ a.place) × (s.number ≡ next k)) ⊎ IsFlying r s (step (needs_number r a.line) k) more

-- a line that has no answer is the last sending of its request
abbrev pub IsLatest : List Sent → Sent → Type 0
IsLatest sent z = (s : Sent) → Contains sent s → s.place ≡ z.place → s.serial ≤ z.serial

-- and the only one whose number was not refused
abbrev pub IsOnly : Rules → List Sent → List Answer → Sent → Type 0
IsOnly r sent answers z = (s : Sent) → Contains sent s → s.is_unnumbered ≡ true → s.place ≡ z.place → (s ≡ z) ⊎ IsNumberRefused r answers s

-- what was sent with a number of the client is below the last one, was not carried out, or is in the flight
abbrev pub IsCounted : Rules → List Sent → List Answer → List Count → ℕ → ℕ → List Request → Type 0
IsCounted r sent answers counts last k in_flight = (s : Sent) → Contains sent s → s.is_unnumbered ≡ true → (s.number ≤ last) ⊎ (IsUnused r answers counts s ⊎ IsFlying r s k in_flight)

abbrev pub Hand : List Request → List Request → List Request → Type 0
Hand in_flight queued requests = (p : ℕ) → count_by (is_at p) in_flight + count_by (is_at p) queued ≤ count_by (is_at p) requests

pub record Numbers (r : Rules) (w : Run) : Type 0 where
  pub serial : AreSerial 0 w.sent
  pub heard : AllByRecursion (λ h. Contains w.sent h.sent) w.answers
  pub hand : Hand w.in_flight w.queued w.requests
  pub one_number : HasOneNumber r w
  pub fresh : IsFresh r w
  pub counted : w.proxy.is_counted ≡ true → IsCounted r w.sent w.answers w.counts w.proxy.last w.proxy.number w.in_flight
  pub waits : AllByRecursion (WaitsAnew r w.sent w.answers) w.queued
  pub has : AllFlying r (HasNumber r w.sent w.answers) w.proxy.number w.in_flight
  pub owns : AllFlying r (OwnsNumber r w.sent w.answers w.counts) w.proxy.number w.in_flight
  pub latest : AllByRecursion (IsLatest w.sent) w.wire
  pub only : w.proxy.is_resent ≡ false → AllByRecursion (IsOnly r w.sent w.answers) w.wire

pub begins : (r : Rules) → Numbers r new_run
begins r = record {
  serial = tt;
  heard = tt;
  hand = λ p. omega arith;
  one_number = λ s t two same. absurd (none two.first);
  fresh = λ s t two same small. absurd (none two.first);
  counted = λ is. absurd (cc is);
  waits = tt;
  has = tt;
  owns = tt;
  latest = tt;
  only = λ new. tt;
}
  where
    none : {s : Sent} → Contains [] s → ⊥
    none in_it = (let less = in_it.1 in absurd (omega (arith, less)))

-- ---- what stays known when more is heard and found

refused_more : (r : Rules) (answers more : List Answer) (s : Sent) → IsNumberRefused r answers s → IsNumberRefused r (answers ++ more) s
refused_more r answers more s is = (is.0, Contains-append_left answers more is.0 is.1, is.2, is.3)

unused_more : (r : Rules) (answers more : List Answer) (counts : List Count) (s : Sent) → IsUnused r answers counts s → IsUnused r (answers ++ more) counts s
unused_more r answers more counts s is = elim is [
  | inl number ↦ inl (refused_more r answers more s number)
  | inr other ↦ elim other [
    | inl order ↦ inr (inl (order.0, Contains-append_left answers more order.0 order.1, order.2, order.3, order.4, order.5))
    | inr above ↦ inr (inr above)
  ]
]

waits_more : (r : Rules) (sent : List Sent) (answers more : List Answer) (a : Request) → WaitsAnew r sent answers a → WaitsAnew r sent (answers ++ more) a
waits_more r sent answers more a is s in_it own at = refused_more r answers more s (is s in_it own at)

has_more : (r : Rules) (sent : List Sent) (answers more : List Answer) (n : ℕ) (a : Request) → HasNumber r sent answers n a → HasNumber r sent (answers ++ more) n a
has_more r sent answers more n a is s in_it own at = elim (is s in_it own at) [ inl same ↦ inl same | inr refused ↦ inr (refused_more r answers more s refused) ]

owns_more : (r : Rules) (sent : List Sent) (answers more : List Answer) (counts : List Count) (n : ℕ) (a : Request) → OwnsNumber r sent answers counts n a → OwnsNumber r sent (answers ++ more) counts n a
owns_more r sent answers more counts n a is needs s in_it own same small = elim (is needs s in_it own same small) [ inl at ↦ inl at | inr unused ↦ inr (unused_more r answers more counts s unused) ]

only_more : (r : Rules) (sent : List Sent) (answers more : List Answer) (z : Sent) → IsOnly r sent answers z → IsOnly r sent (answers ++ more) z
only_more r sent answers more z is s in_it own at = elim (is s in_it own at) [ inl same ↦ inl same | inr refused ↦ inr (refused_more r answers more s refused) ]

flying_weaker : (r : Rules) (P Q : ℕ → Request → Type 0) → ((n : ℕ) (a : Request) → P n a → Q n a) → (k : ℕ) (xs : List Request) → AllFlying r P k xs → AllFlying r Q k xs
flying_weaker r P Q weaker k [] all = tt
flying_weaker r P Q weaker k (a ∷ more) all = (weaker (next k) a all.0, flying_weaker r P Q weaker (step (needs_number r a.line) k) more all.1)

-- ---- a connection ends, a line arrives, a number is found

hand_filter : (c : ℕ) (in_flight queued requests : List Request) → Hand in_flight queued requests → Hand in_flight (without c queued) requests
hand_filter c in_flight queued requests hand p = let all = hand p in let less = count_filter (is_at p) (λ (a : Request). not (a.from == c)) queued in omega (arith, all, less)

leaves_numbers : (r : Rules) (w : Run) (c : ℕ) → Numbers r w → Numbers r (happens r w (Leaves c))
leaves_numbers r w c h = record {
  serial = h.serial;
  heard = h.heard;
  hand = hand_filter c w.in_flight w.queued w.requests h.hand;
  one_number = λ s t two same. h.one_number s t (record { first = two.first; second = two.second; first_own = two.first_own; second_own = two.second_own; before = two.before }) same;
  fresh = λ s t two same small. h.fresh s t (record { first = two.first; second = two.second; first_own = two.first_own; second_own = two.second_own; before = two.before }) same small;
  counted = h.counted;
  waits = all_filter (WaitsAnew r w.sent w.answers) (λ (a : Request). not (a.from == c)) w.queued h.waits;
  has = h.has;
  owns = h.owns;
  latest = h.latest;
  only = h.only;
}

-- a place that was given is below the next one
place_less : (n p : ℕ) (requests : List Request) (a : Request) → AreNumbered n requests → Contains requests a → a.place < n + length requests
place_less n p [] a all in_it = (let less = in_it.1 in absurd (omega (arith, less)))
place_less n p (x ∷ xs) a all in_it = elim (cons_cases x a xs in_it) [
  | inl same ↦ (let at = all.0 in let e : x.place ≡ a.place = ap (λ (y : Request). y.place) same in omega (arith, at, e))
  | inr more ↦ (let less = place_less (n + 1) p xs a all.1 more in omega (arith, less))
]

-- nothing was sent for a request that arrives
pub none_sent : (r : Rules) (w : Run) → Holds r w → (s : Sent) → Contains w.sent s → s.place < length w.requests
none_sent r w held s in_it =
    let allowed : IsAllowed r w.requests s = all_at (IsAllowed r w.requests) w.sent s held.sent in_it in
    let less = place_less 0 0 w.requests allowed.ask held.numbered allowed.requested in
    let at = allowed.place in
    omega (arith, less, at)

came_numbers : (r : Rules) (w : Run) (c role : ℕ) (line : List ℕ) → Holds r w → Numbers r w → Numbers r (came r w c role line Queued)
came_numbers r w c role line held h = record {
  serial = h.serial;
  heard = h.heard;
  hand = λ p. (let all = h.hand p in let a : Request = next_request w c role line in omega (arith, all, count_push (is_at p) w.queued a, count_push (is_at p) w.requests a));
  one_number = λ s t two same. h.one_number s t (record { first = two.first; second = two.second; first_own = two.first_own; second_own = two.second_own; before = two.before }) same;
  fresh = λ s t two same small. h.fresh s t (record { first = two.first; second = two.second; first_own = two.first_own; second_own = two.second_own; before = two.before }) same small;
  counted = h.counted;
  waits = all_push (WaitsAnew r w.sent w.answers) w.queued (next_request w c role line) h.waits (λ s in_it own at. (let less = none_sent r w held s in_it in absurd (omega (arith, less, at))));
  has = h.has;
  owns = h.owns;
  latest = h.latest;
  only = h.only;
}
  where
    all_push : (P : Request → Type 0) (xs : List Request) (x : Request) → AllByRecursion P xs → P x → AllByRecursion P (xs ++ x ∷ [])
    all_push P [] x all is = (is, tt)
    all_push P (y ∷ ys) x all is = (all.0, all_push P ys x all.1 is)

denied_numbers : (r : Rules) (w : Run) (c role : ℕ) (line : List ℕ) → Numbers r w → Numbers r (came r w c role line Denied)
denied_numbers r w c role line h = record {
  serial = h.serial;
  heard = h.heard;
  hand = λ p. (let all = h.hand p in let a : Request = next_request w c role line in omega (arith, all, count_push (is_at p) w.requests a));
  one_number = λ s t two same. h.one_number s t (record { first = two.first; second = two.second; first_own = two.first_own; second_own = two.second_own; before = two.before }) same;
  fresh = λ s t two same small. h.fresh s t (record { first = two.first; second = two.second; first_own = two.first_own; second_own = two.second_own; before = two.before }) same small;
  counted = h.counted;
  waits = h.waits;
  has = h.has;
  owns = h.owns;
  latest = h.latest;
  only = h.only;
}

deferred_numbers : (r : Rules) (w : Run) (c role : ℕ) (line : List ℕ) → Numbers r w → Numbers r (came r w c role line Deferred)
deferred_numbers r w c role line h = record {
  serial = h.serial;
  heard = h.heard;
  hand = h.hand;
  one_number = λ s t two same. h.one_number s t (record { first = two.first; second = two.second; first_own = two.first_own; second_own = two.second_own; before = two.before }) same;
  fresh = λ s t two same small. h.fresh s t (record { first = two.first; second = two.second; first_own = two.first_own; second_own = two.second_own; before = two.before }) same small;
  counted = h.counted;
  waits = h.waits;
  has = h.has;
  owns = h.owns;
  latest = h.latest;
  only = h.only;
}

arrives_numbers : (r : Rules) (w : Run) (c role : ℕ) (line : List ℕ) → Holds r w → Numbers r w → Numbers r (happens r w (Arrives c role line))
arrives_numbers r w c role line held h =
    either (Numbers r) (is_ended c w.ended) w (came r w c role line (admission r c role line w.proxy)) (λ over. h)
    (λ going. elim (admission r c role line w.proxy) as (λ t. Numbers r (came r w c role line t)) [
      | Queued ↦ came_numbers r w c role line held h
      | Denied ↦ denied_numbers r w c role line h
      | Deferred ↦ deferred_numbers r w c role line h
    ])

counts_numbers : (r : Rules) (w : Run) (last : ℕ) → Numbers r w → Numbers r (happens r w (Counts last))
counts_numbers r w last h =
    let c : Count = record { last = last; sent = length w.sent } in
    record {
      serial = h.serial;
      heard = h.heard;
      hand = h.hand;
      one_number = λ s t two same. h.one_number s t (record { first = two.first; second = two.second; first_own = two.first_own; second_own = two.second_own; before = two.before }) same;
      fresh = λ s t two same small.
          elim (h.fresh s t (record { first = two.first; second = two.second; first_own = two.first_own; second_own = two.second_own; before = two.before }) same small) [
            | inl place ↦ inl place
            | inr unused ↦ inr (found c s unused)
          ];
      counted = λ is s in_it own. elim (compare last s.number) [
        | inl less ↦ inr (inl (inr (inr (c, Contains-push w.counts c, (let early = serial_less 0 w.sent s h.serial in_it in omega (arith, early)), less))))
        | inr other ↦ inl (elim other [ inl same ↦ omega (arith, same) | inr more ↦ omega (arith, more) ])
      ];
      waits = h.waits;
      has = h.has;
      owns = flying_weaker r (OwnsNumber r w.sent w.answers w.counts) (OwnsNumber r w.sent w.answers (w.counts ++ c ∷ [])) (λ n a is needs s in_it own same small. elim (is needs s in_it own same small) [ inl at ↦ inl at | inr unused ↦ inr (found c s unused) ]) w.proxy.number w.in_flight h.owns;
      latest = h.latest;
      only = h.only;
    }
  where
    found : (c : Count) (s : Sent) → IsUnused r w.answers w.counts s → IsUnused r w.answers (w.counts ++ c ∷ []) s
    found c s is = elim is [
      | inl number ↦ inl number
      | inr other ↦ elim other [ inl order ↦ inr (inl order) | inr above ↦ inr (inr (above.0, Contains-append_left w.counts (c ∷ []) above.0 above.1, above.2, above.3)) ]
    ]

-- ---- the connection to the server breaks

breaks_none : (r : Rules) (w : Run) → Numbers r w → Numbers r (broke w None)
breaks_none r w h = record {
  serial = h.serial;
  heard = h.heard;
  hand = h.hand;
  one_number = λ s t two same. h.one_number s t (record { first = two.first; second = two.second; first_own = two.first_own; second_own = two.second_own; before = two.before }) same;
  fresh = λ s t two same small. h.fresh s t (record { first = two.first; second = two.second; first_own = two.first_own; second_own = two.second_own; before = two.before }) same small;
  counted = h.counted;
  waits = h.waits;
  has = h.has;
  owns = h.owns;
  latest = tt;
  only = λ new. absurd (cc new);
}

breaks_first : (r : Rules) (w : Run) (a : Request) (more queued : List Request) → needs_number r a.line ≡ false → Numbers r (with_hand r (a ∷ more) queued w) → Numbers r (broke (with_hand r (a ∷ more) queued w) (Some a.from))
breaks_first r w a more queued other h = record {
  serial = h.serial;
  heard = h.heard;
  hand = λ p. (let all = h.hand p in let less = count_rest (is_at p) (a ∷ more) in let filtered = count_filter (is_at p) (λ (x : Request). not (x.from == a.from)) queued in omega (arith, all, less, filtered));
  one_number = λ s t two same. h.one_number s t (record { first = two.first; second = two.second; first_own = two.first_own; second_own = two.second_own; before = two.before }) same;
  fresh = λ s t two same small. h.fresh s t (record { first = two.first; second = two.second; first_own = two.first_own; second_own = two.second_own; before = two.before }) same small;
  counted = λ is s in_it own. elim (h.counted is s in_it own) [
    | inl below ↦ inl below
    | inr known ↦ elim known [
      | inl unused ↦ inr (inl unused)
      | inr flying ↦ elim flying [
        | inl first ↦ (let is_own = first.0 in absurd (cc (is_own, other)))
        | inr later ↦ inr (inr (subst (λ b. IsFlying r s (step b w.proxy.number) more) other later))
      ]
    ]
  ];
  waits = all_filter (WaitsAnew r w.sent w.answers) (λ (x : Request). not (x.from == a.from)) queued h.waits;
  has = subst (λ b. AllFlying r (HasNumber r w.sent w.answers) (step b w.proxy.number) more) other h.has.1;
  owns = subst (λ b. AllFlying r (OwnsNumber r w.sent w.answers w.counts) (step b w.proxy.number) more) other h.owns.1;
  latest = tt;
  only = λ new. absurd (cc new);
}

breaks_numbers : (r : Rules) (w : Run) (in_flight queued : List Request) → Numbers r (with_hand r in_flight queued w) → Numbers r (happens r (with_hand r in_flight queued w) Breaks)
breaks_numbers r w [] queued h = breaks_none r (with_hand r [] queued w) h
breaks_numbers r w (a ∷ more) queued h =
    either (λ l. Numbers r (broke (with_hand r (a ∷ more) queued w) l)) (r.is_once a.line) (Some a.from) None
    (λ once. breaks_first r w a more queued (other (r.is_unnumbered a.line) (r.is_once a.line) once) h)
    (λ twice. breaks_none r (with_hand r (a ∷ more) queued w) h)
  where
    other : (own once : Bool) → once ≡ true → (own && not once) ≡ false
    other true once is = ap not is
    other false once is = refl

-- ---- an order is taken back

-- its number may be used, so the last number is no longer known
taken_first : (r : Rules) (w : Run) (a : Request) (more queued : List Request) → needs_number r a.line ≡ true → Numbers r (with_hand r (a ∷ more) queued w) → Numbers r (took (with_hand r (a ∷ more) queued w) (Some (next w.proxy.number)))
taken_first r w a more queued owned h = record {
  serial = h.serial;
  heard = h.heard;
  hand = λ p. (let all = h.hand p in let less = count_rest (is_at p) (a ∷ more) in let filtered = count_filter (is_at p) (λ (x : Request). not (x.from == a.from)) queued in omega (arith, all, less, filtered));
  one_number = λ s t two same. h.one_number s t (record { first = two.first; second = two.second; first_own = two.first_own; second_own = two.second_own; before = two.before }) same;
  fresh = λ s t two same small. h.fresh s t (record { first = two.first; second = two.second; first_own = two.first_own; second_own = two.second_own; before = two.before }) same small;
  counted = λ is. absurd (cc is);
  waits = all_filter (WaitsAnew r w.sent w.answers) (λ (x : Request). not (x.from == a.from)) queued h.waits;
  has = subst (λ b. AllFlying r (HasNumber r w.sent w.answers) (step b w.proxy.number) more) owned h.has.1;
  owns = subst (λ b. AllFlying r (OwnsNumber r w.sent w.answers w.counts) (step b w.proxy.number) more) owned h.owns.1;
  latest = h.latest;
  only = h.only;
}

takes_numbers : (r : Rules) (w : Run) (in_flight queued : List Request) (c : ℕ) → Numbers r (with_hand r in_flight queued w) → Numbers r (happens r (with_hand r in_flight queued w) (TakesBack c))
takes_numbers r w in_flight queued c h =
    let v : Run = with_hand r in_flight queued w in
    either (λ t. Numbers r (took v t)) w.proxy.is_up None (cond (begins_order c (map (pending_of r) in_flight)) (Some (next w.proxy.number)) None) (λ up. h)
    (λ down. either (λ t. Numbers r (took v t)) (begins_order c (map (pending_of r) in_flight)) (Some (next w.proxy.number)) None (λ begins. taken_cases r w in_flight queued c begins h) (λ other. h))
  where
    taken_cases : (r : Rules) (w : Run) (in_flight queued : List Request) (c : ℕ) → begins_order c (map (pending_of r) in_flight) ≡ true → Numbers r (with_hand r in_flight queued w) → Numbers r (took (with_hand r in_flight queued w) (Some (next w.proxy.number)))
    taken_cases r w [] queued c begins h = absurd (cc begins)
    taken_cases r w (a ∷ more) queued c begins h = taken_first r w a more queued (both_true (needs_number r a.line) (a.from == c) begins).0 h

-- ---- the server answers

module _ (r : Rules) (w : Run) (answer : List ℕ) (a : Request) (more queued : List Request) (z : Sent) (later : List Sent)
    (h : Numbers r (with_hand r (a ∷ more) queued w)) (is_wire : w.wire ≡ z ∷ later) (of_a : z.place ≡ a.place) (own_z : z.is_unnumbered ≡ needs_number r a.line) (number_z : z.number ≡ next w.proxy.number) (sent_z : Contains w.sent z) where
  abbrev answered : Answer
  answered = record { sent = z; answer = answer; heard = length w.sent }

  in_answers : Contains (w.answers ++ answered ∷ []) answered
  in_answers = Contains-push w.answers answered

  -- the first line's number, if its answer leaves the last number known
  first_counted : (s : Sent) → Contains w.sent s → needs_number r a.line ≡ true → s.place ≡ a.place → s.number ≡ next w.proxy.number → s.is_unnumbered ≡ true
      → (w.proxy.is_counted && (r.uses_number answer || (r.is_refusal answer || (r.refuses_number answer && (w.proxy.has_refusal && not w.proxy.is_resent))))) ≡ true
      → (s.number ≤ cond (r.uses_number answer) (max w.proxy.last (next w.proxy.number)) w.proxy.last) ⊎ IsUnused r (w.answers ++ answered ∷ []) w.counts s
  first_counted s in_it needs at same own known =
      let p = both_true w.proxy.is_counted (r.uses_number answer || (r.is_refusal answer || (r.refuses_number answer && (w.proxy.has_refusal && not w.proxy.is_resent)))) known in
      elim (r.uses_number answer) as (λ u. (u || (r.is_refusal answer || (r.refuses_number answer && (w.proxy.has_refusal && not w.proxy.is_resent)))) ≡ true
      → (s.number ≤ cond u (max w.proxy.last (next w.proxy.number)) w.proxy.last) ⊎ IsUnused r (w.answers ++ answered ∷ []) w.counts s) [
        | true ↦ λ t. inl (subst (λ n. n ≤ max w.proxy.last (next w.proxy.number)) (sym same) (max_right w.proxy.last (next w.proxy.number)))
        | false ↦ λ t. inr (elim (r.is_refusal answer) as (λ f. r.is_refusal answer ≡ f → (f || (r.refuses_number answer && (w.proxy.has_refusal && not w.proxy.is_resent))) ≡ true → IsUnused r (w.answers ++ answered ∷ []) w.counts s) [
          | true ↦ λ refusal _. inr (inl (answered, in_answers, own_z ∙ needs, number_z ∙ sym same, late s in_it at, refusal))
          | false ↦ λ no q. (
              let parts = both_true (r.refuses_number answer) (w.proxy.has_refusal && not w.proxy.is_resent) q in
              let new = (both_true w.proxy.has_refusal (not w.proxy.is_resent) parts.1).1 in
              inl (only_first s in_it own at (not_true w.proxy.is_resent new) parts.0))
        ] refl t)
      ] p.1
    where
      max_right : (m n : ℕ) → n ≤ max m n
      max_right m n = grind (arith, nat_tests)

      not_true : (b : Bool) → not b ≡ true → b ≡ false
      not_true true t = absurd (cc t)
      not_true false t = refl

      late : (s : Sent) → Contains w.sent s → s.place ≡ a.place → s.serial ≤ z.serial
      late s in_it at = (subst (AllByRecursion (IsLatest w.sent)) is_wire h.latest).0 s in_it (at ∙ sym of_a)

      only_first : (s : Sent) → Contains w.sent s → s.is_unnumbered ≡ true → s.place ≡ a.place → w.proxy.is_resent ≡ false → r.refuses_number answer ≡ true → IsNumberRefused r (w.answers ++ answered ∷ []) s
      only_first s in_it own at new refuses = elim ((subst (AllByRecursion (IsOnly r w.sent w.answers)) is_wire (h.only new)).0 s in_it own (at ∙ sym of_a)) [
        | inl same ↦ (answered, in_answers, sym same, refuses)
        | inr refused ↦ refused_more r w.answers (answered ∷ []) s refused
      ]

  -- the first line has its answer
  abbrev dropped : List Pending → ℕ → List Request → List Delivery → List ℕ → Run
  dropped waiting refused rest delivered ended = record w {
    proxy = record (after_first_answer r answer (with_hand r (a ∷ more) queued w).proxy) { waiting = waiting; refused = refused };
    in_flight = more;
    queued = rest;
    delivered = delivered;
    ended = ended;
    wire = later;
    answers = w.answers ++ answered ∷ [];
  }

  rest_counted : cond (needs_number r a.line) (w.proxy.is_counted && (r.uses_number answer || (r.is_refusal answer || (r.refuses_number answer && (w.proxy.has_refusal && not w.proxy.is_resent))))) w.proxy.is_counted ≡ true
      → IsCounted r w.sent (w.answers ++ answered ∷ []) w.counts (cond (needs_number r a.line && r.uses_number answer) (max w.proxy.last (next w.proxy.number)) w.proxy.last) (step (needs_number r a.line) w.proxy.number) more
  rest_counted is s in_it own = elim (h.counted (before (needs_number r a.line) is) s in_it own) [
    | inl below ↦ inl (raised (needs_number r a.line && r.uses_number answer) below)
    | inr known ↦ elim known [
      | inl unused ↦ inr (inl (unused_more r w.answers (answered ∷ []) w.counts s unused))
      | inr flying ↦ elim flying [
        | inl first ↦ at_first first.0 first.1 first.2
        | inr later_one ↦ inr (inr later_one)
      ]
    ]
  ]
    where
      known_after : Bool
      known_after = r.uses_number answer || (r.is_refusal answer || (r.refuses_number answer && (w.proxy.has_refusal && not w.proxy.is_resent)))

      before : (needs : Bool) → cond needs (w.proxy.is_counted && known_after) w.proxy.is_counted ≡ true → w.proxy.is_counted ≡ true
      before true t = (both_true w.proxy.is_counted known_after t).0
      before false t = t

      raised : (b : Bool) → s.number ≤ w.proxy.last → s.number ≤ cond b (max w.proxy.last (next w.proxy.number)) w.proxy.last
      raised true below = grind (arith, nat_tests)
      raised false below = below

      at_first : needs_number r a.line ≡ true → s.place ≡ a.place → s.number ≡ next w.proxy.number
          → (s.number ≤ cond (needs_number r a.line && r.uses_number answer) (max w.proxy.last (next w.proxy.number)) w.proxy.last) ⊎ (IsUnused r (w.answers ++ answered ∷ []) w.counts s ⊎ IsFlying r s (step (needs_number r a.line) w.proxy.number) more)
      at_first needs at same =
          let known : (w.proxy.is_counted && known_after) ≡ true = sym (ap (λ b. cond b (w.proxy.is_counted && known_after) w.proxy.is_counted) needs) ∙ is in
          elim (first_counted s in_it needs at same own known) [
            | inl below ↦ inl (subst (λ b. s.number ≤ cond (b && r.uses_number answer) (max w.proxy.last (next w.proxy.number)) w.proxy.last) (sym needs) below)
            | inr unused ↦ inr (inl unused)
          ]

  dropped_numbers : (waiting : List Pending) (refused : ℕ) (rest : List Request) (delivered : List Delivery) (ended : List ℕ)
      → Hand more rest w.requests → AllByRecursion (WaitsAnew r w.sent (w.answers ++ answered ∷ [])) rest → Numbers r (dropped waiting refused rest delivered ended)
  dropped_numbers waiting refused rest delivered ended hand waits =
      let heard : List Answer = answered ∷ [] in
      record {
        serial = h.serial;
        heard = all_append (λ g. Contains w.sent g.sent) w.answers heard h.heard (sent_z, tt);
        hand = hand;
        one_number = λ s t two same. elim (h.one_number s t (record { first = two.first; second = two.second; first_own = two.first_own; second_own = two.second_own; before = two.before }) same) [
          | inl number ↦ inl number
          | inr refused ↦ inr (refused_more r w.answers heard s refused)
        ];
        fresh = λ s t two same small. elim (h.fresh s t (record { first = two.first; second = two.second; first_own = two.first_own; second_own = two.second_own; before = two.before }) same small) [
          | inl place ↦ inl place
          | inr unused ↦ inr (unused_more r w.answers heard w.counts s unused)
        ];
        counted = rest_counted;
        waits = waits;
        has = flying_weaker r (HasNumber r w.sent w.answers) (HasNumber r w.sent (w.answers ++ heard)) (has_more r w.sent w.answers heard) (step (needs_number r a.line) w.proxy.number) more h.has.1;
        owns = flying_weaker r (OwnsNumber r w.sent w.answers w.counts) (OwnsNumber r w.sent (w.answers ++ heard) w.counts) (owns_more r w.sent w.answers heard w.counts) (step (needs_number r a.line) w.proxy.number) more h.owns.1;
        latest = (subst (AllByRecursion (IsLatest w.sent)) is_wire h.latest).1;
        only = λ new. all_weaker (IsOnly r w.sent w.answers) (IsOnly r w.sent (w.answers ++ heard)) (only_more r w.sent w.answers heard) later (subst (AllByRecursion (IsOnly r w.sent w.answers)) is_wire (h.only new)).1;
      }

  waits_heard : (xs : List Request) → AllByRecursion (WaitsAnew r w.sent w.answers) xs → AllByRecursion (WaitsAnew r w.sent (w.answers ++ answered ∷ [])) xs
  waits_heard xs all = all_weaker (WaitsAnew r w.sent w.answers) (WaitsAnew r w.sent (w.answers ++ answered ∷ [])) (waits_more r w.sent w.answers (answered ∷ [])) xs all

  hand_rest : (rest : List Request) → ((p : ℕ) → count_by (is_at p) rest ≤ count_by (is_at p) queued) → Hand more rest w.requests
  hand_rest rest fewer p = (let all = h.hand p in let less = count_rest (is_at p) (a ∷ more) in let few = fewer p in omega (arith, all, less, few))

  -- it is delivered, or its connection ends, or it waits for another number
  abbrev after : Outcome → Run
  after o = said r (with_hand r (a ∷ more) queued w) answer o

  to_numbers : Numbers r (after (To a.from))
  to_numbers =
      subst (λ l. Numbers r (record (with_hand r (a ∷ more) queued w) { proxy = after_first_answer r answer (with_hand r (a ∷ more) queued w).proxy; in_flight = more; delivered = delivered_too w.ended w.delivered a.from a.place answer; wire = rest l; answers = w.answers ++ answer_of (length w.sent) l answer })) (sym is_wire)
      (dropped_numbers (map (pending_of r) queued) w.proxy.refused queued (delivered_too w.ended w.delivered a.from a.place answer) w.ended (hand_rest queued (λ p. omega arith)) (waits_heard queued h.waits))

  ended_numbers : Numbers r (after (Ended a.from))
  ended_numbers =
      let kept : List Request = without a.from queued in
      subst (λ l. Numbers r (record (with_hand r (a ∷ more) queued w) { proxy = without_connection a.from (after_first_answer r answer (with_hand r (a ∷ more) queued w).proxy); in_flight = more; queued = kept; ended = a.from ∷ w.ended; wire = rest l; answers = w.answers ++ answer_of (length w.sent) l answer })) (sym is_wire)
      (dropped_numbers (filter (λ x. not (is_from a.from x)) (map (pending_of r) queued)) (refused_without r a.from w.proxy.refused queued) kept w.delivered (a.from ∷ w.ended) (hand_rest kept (λ p. count_filter (is_at p) (λ (x : Request). not (x.from == a.from)) queued))
      (waits_heard kept (all_filter (WaitsAnew r w.sent w.answers) (λ (x : Request). not (x.from == a.from)) queued h.waits)))

  retry_numbers : w.proxy.is_resent ≡ false → r.refuses_number answer ≡ true → Numbers r (after (Retry a.from))
  retry_numbers new refuses =
      let anew : WaitsAnew r w.sent (w.answers ++ answered ∷ []) a = λ s in_it own at. only_first_refused s in_it own at in
      subst (λ l. Numbers r (record (with_hand r (a ∷ more) queued w) { proxy = record (after_first_answer r answer (with_hand r (a ∷ more) queued w).proxy) { waiting = put_back w.proxy.refused (pending_of r a ∷ []) (map (pending_of r) queued); refused = w.proxy.refused + 1 }; in_flight = more; queued = put_back w.proxy.refused (a ∷ []) queued; wire = rest l; answers = w.answers ++ answer_of (length w.sent) l answer })) (sym is_wire)
      (dropped_numbers (put_back w.proxy.refused (pending_of r a ∷ []) (map (pending_of r) queued)) (w.proxy.refused + 1) (put_back w.proxy.refused (a ∷ []) queued) w.delivered w.ended
      (λ p. (let all = h.hand p in omega (arith, all, sum_by-cons (λ y. cond {A = ℕ} (is_at p y) 1 0) a more, count_put (is_at p) w.proxy.refused a queued)))
      (all_put (WaitsAnew r w.sent (w.answers ++ answered ∷ [])) w.proxy.refused a queued (waits_heard queued h.waits) anew))
    where
      only_first_refused : (s : Sent) → Contains w.sent s → s.is_unnumbered ≡ true → s.place ≡ a.place → IsNumberRefused r (w.answers ++ answered ∷ []) s
      only_first_refused s in_it own at = elim ((subst (AllByRecursion (IsOnly r w.sent w.answers)) is_wire (h.only new)).0 s in_it own (at ∙ sym of_a)) [
        | inl same ↦ (answered, in_answers, sym same, refuses)
        | inr refused ↦ refused_more r w.answers (answered ∷ []) s refused
      ]

unsolicited_numbers : (r : Rules) (w : Run) (answer : List ℕ) (queued : List Request) → Numbers r (with_hand r [] queued w) → Numbers r (said r (with_hand r [] queued w) answer Unsolicited)
unsolicited_numbers r w answer queued h = record {
  serial = h.serial;
  heard = h.heard;
  hand = h.hand;
  one_number = λ s t two same. h.one_number s t (record { first = two.first; second = two.second; first_own = two.first_own; second_own = two.second_own; before = two.before }) same;
  fresh = λ s t two same small. h.fresh s t (record { first = two.first; second = two.second; first_own = two.first_own; second_own = two.second_own; before = two.before }) same small;
  counted = h.counted;
  waits = h.waits;
  has = h.has;
  owns = h.owns;
  latest = tt;
  only = λ new. tt;
}

outcome_numbers : (r : Rules) (w : Run) (answer : List ℕ) (in_flight queued : List Request) → w.proxy.is_up ≡ true → Holds r (with_hand r in_flight queued w) → Numbers r (with_hand r in_flight queued w)
    → Numbers r (said r (with_hand r in_flight queued w) answer (outcome_of r answer w.proxy.is_resent w.proxy.needs_view (is_late (with_hand r in_flight queued w).proxy) (map (pending_of r) in_flight)))
outcome_numbers r w answer [] queued up held h = unsolicited_numbers r w answer queued h
outcome_numbers r w answer (a ∷ more) queued up held h =
    let v : Run = with_hand r (a ∷ more) queued w in
    let out = held.wire up in
    let z : Sent = sending r out.0 (not w.proxy.is_resent) out.1 (next w.proxy.number) a in
    let later : List Sent = sendings r out.0 (not w.proxy.is_resent) (out.1 + 1) (step (needs_number r a.line) w.proxy.number) more in
    let is_wire : w.wire ≡ z ∷ later = out.2 in
    let sent_z : Contains w.sent z = (subst (AllByRecursion (Contains w.sent)) is_wire held.wired).0 in
    let P : Outcome → Type 0 = λ g. Numbers r (said r v answer g) in
    let refused : Bool = needs_number r a.line && r.refuses_number answer in
    let unclear : Bool = w.proxy.is_resent && r.is_inconclusive answer in
    let late : Bool = is_late v.proxy a.from in
    either P refused (cond (w.proxy.is_resent || w.proxy.needs_view) (Ended a.from) (Retry a.from)) (cond (unclear || late) (Ended a.from) (To a.from))
    (λ is. either P (w.proxy.is_resent || w.proxy.needs_view) (Ended a.from) (Retry a.from) (λ again. ended_numbers r w answer a more queued z later h is_wire refl refl refl sent_z)
    (λ new. retry_numbers r w answer a more queued z later h is_wire refl refl refl sent_z (both_false w.proxy.is_resent w.proxy.needs_view new).0 (both_true (needs_number r a.line) (r.refuses_number answer) is).1))
    (λ is_not. either P (unclear || late) (Ended a.from) (To a.from) (λ ends. ended_numbers r w answer a more queued z later h is_wire refl refl refl sent_z)
    (λ in_turn. to_numbers r w answer a more queued z later h is_wire refl refl refl sent_z))

answers_numbers : (r : Rules) (w : Run) (in_flight queued : List Request) (answer : List ℕ) → Holds r (with_hand r in_flight queued w) → Numbers r (with_hand r in_flight queued w) → Numbers r (happens r (with_hand r in_flight queued w) (Answers answer))
answers_numbers r w in_flight queued answer held h =
    let v : Run = with_hand r in_flight queued w in
    either (Numbers r) w.proxy.is_up (said r v answer (outcome r answer v.proxy)) v
    (λ up. (
    let is : outcome r answer v.proxy ≡ outcome_of r answer w.proxy.is_resent w.proxy.needs_view (is_late (with_hand r in_flight queued w).proxy) (map (pending_of r) in_flight) = ap (λ b. cond b (outcome_of r answer w.proxy.is_resent w.proxy.needs_view (is_late (with_hand r in_flight queued w).proxy) (map (pending_of r) in_flight)) Unsolicited) up in
    subst (λ g. Numbers r (said r v answer g)) (sym is) (outcome_numbers r w answer in_flight queued up held h)))
    (λ down. h)

-- ---- lines are written

-- the requests of a flight by their sendings
flying_at : (r : Rules) (Q : ℕ → Request → Type 0) (n : ℕ) (first : Bool) (m k : ℕ) (xs : List Request) (s : Sent) → AllFlying r Q k xs → Contains (sendings r n first m k xs) s
    → (a : Request) × (Q s.number a) × (a.place ≡ s.place) × (needs_number r a.line ≡ s.is_unnumbered)
flying_at r Q n first m k [] s all in_it = (let less = in_it.1 in absurd (omega (arith, less)))
flying_at r Q n first m k (x ∷ xs) s all in_it = elim (cons_cases (sending r n first m (next k) x) s (sendings r n first (m + 1) (step (needs_number r x.line) k) xs) in_it) [
  | inl same ↦ (x, subst (λ i. Q i x) (ap (λ (y : Sent). y.number) same) all.0, ap (λ (y : Sent). y.place) same, ap (λ (y : Sent). y.is_unnumbered) same)
  | inr more ↦ flying_at r Q n first (m + 1) (step (needs_number r x.line) k) xs s all.1 more
]

flying_is : (r : Rules) (n : ℕ) (first : Bool) (m k : ℕ) (xs : List Request) (s : Sent) → Contains (sendings r n first m k xs) s → s.is_unnumbered ≡ true → IsFlying r s k xs
flying_is r n first m k [] s in_it own = (let less = in_it.1 in absurd (omega (arith, less)))
flying_is r n first m k (x ∷ xs) s in_it own = elim (cons_cases (sending r n first m (next k) x) s (sendings r n first (m + 1) (step (needs_number r x.line) k) xs) in_it) [
  | inl same ↦ inl (ap (λ (y : Sent). y.is_unnumbered) same ∙ own, sym (ap (λ (y : Sent). y.place) same), sym (ap (λ (y : Sent). y.number) same))
  | inr more ↦ inr (flying_is r n first (m + 1) (step (needs_number r x.line) k) xs s more own)
]

flying_from : (r : Rules) (P Q : ℕ → Request → Type 0) (n : ℕ) (first : Bool) (all : List Sent) → ((i j : ℕ) (a : Request) → Contains all (sending r n first i j a) → Q j a → P j a)
    → (m k : ℕ) (xs : List Request) → ((s : Sent) → Contains (sendings r n first m k xs) s → Contains all s) → AllFlying r Q k xs → AllFlying r P k xs
flying_from r P Q n first all f m k [] sub known = tt
flying_from r P Q n first all f m k (x ∷ xs) sub known =
    let z : Sent = sending r n first m (next k) x in
    let later : List Sent = sendings r n first (m + 1) (step (needs_number r x.line) k) xs in
    (f m (next k) x (sub z (in_head z later)) known.0, flying_from r P Q n first all f (m + 1) (step (needs_number r x.line) k) xs (λ s in_it. sub s (in_tail z s later in_it)) known.1)

flying_same : (r : Rules) (P : Request → Type 0) (k : ℕ) (xs : List Request) → AllByRecursion P xs → AllFlying r (λ n a. P a) k xs
flying_same r P k [] all = tt
flying_same r P k (x ∷ xs) all = (all.0, flying_same r P (step (needs_number r x.line) k) xs all.1)

-- a flight with a number of the client has it while the last number is known
ready_counted : (r : Rules) (counted : Bool) (n : ℕ) (first : Bool) (m k : ℕ) (xs : List Request) (s : Sent) → list_all (is_ready counted) (map (pending_of r) xs) ≡ true → Contains (sendings r n first m k xs) s → s.is_unnumbered ≡ true → counted ≡ true
ready_counted r counted n first m k [] s all in_it own = (let less = in_it.1 in absurd (omega (arith, less)))
ready_counted r counted n first m k (x ∷ xs) s all in_it own =
    let p = both_true (is_ready counted (pending_of r x)) (list_all (is_ready counted) (map (pending_of r) xs)) all in
    elim (cons_cases (sending r n first m (next k) x) s (sendings r n first (m + 1) (step (needs_number r x.line) k) xs) in_it) [
      | inl same ↦ known counted (needs_number r x.line) (ap (λ (y : Sent). y.is_unnumbered) same ∙ own) p.0
      | inr more ↦ ready_counted r counted n first (m + 1) (step (needs_number r x.line) k) xs s p.1 more own
    ]
  where
    known : (counted own : Bool) → own ≡ true → (counted || not own) ≡ true → counted ≡ true
    known true own is t = refl
    known false true is t = absurd (cc t)
    known false false is t = absurd (cc is)

module _ (r : Rules) (w : Run) (h : Numbers r w) (n : ℕ) (first : Bool) (k : ℕ) (xs : List Request) (apart : AreApart xs) where
  abbrev sends : List Sent
  sends = sendings r n first (length w.sent) k xs

  late : (s : Sent) → Contains sends s → length w.sent ≤ s.serial
  late s in_it = serial_from (length w.sent) sends s (serial_sendings r n first (length w.sent) k xs) in_it

  early : (s : Sent) → Contains w.sent s → s.serial < length w.sent
  early s in_it = (let less = serial_less 0 w.sent s h.serial in_it in omega (arith, less))

  all_serial : AreSerial 0 (w.sent ++ sends)
  all_serial = serial_append 0 (length w.sent) w.sent sends (omega arith) h.serial (serial_sendings r n first (length w.sent) k xs)

  all_one : ((s t : Sent) → Contains w.sent s → Contains sends t → s.is_unnumbered ≡ true → t.is_unnumbered ≡ true → s.place ≡ t.place → (s.number ≡ t.number) ⊎ IsNumberRefused r w.answers s)
      → (s t : Sent) → Contains (w.sent ++ sends) s → Contains (w.sent ++ sends) t → s.is_unnumbered ≡ true → t.is_unnumbered ≡ true → s.serial < t.serial → s.place ≡ t.place → (s.number ≡ t.number) ⊎ IsNumberRefused r w.answers s
  all_one later s t in_s in_t own_s own_t before same = elim (Contains-append_cases w.sent sends s in_s) [
    | inl old_s ↦ elim (Contains-append_cases w.sent sends t in_t) [
      | inl old_t ↦ h.one_number s t (record { first = old_s; second = old_t; first_own = own_s; second_own = own_t; before = before }) same
      | inr new_t ↦ later s t old_s new_t own_s own_t same
    ]
    | inr new_s ↦ elim (Contains-append_cases w.sent sends t in_t) [
      | inl old_t ↦ (let low = late s new_s in let high = early t old_t in absurd (omega (arith, low, high, before)))
      | inr new_t ↦ inl (ap (λ (y : Sent). y.number) (same_place r n first (length w.sent) k xs s t apart new_s new_t same))
    ]
  ]

  all_fresh : ((s t : Sent) → Contains w.sent s → Contains sends t → s.is_unnumbered ≡ true → t.is_unnumbered ≡ true → s.number ≡ t.number → t.number < 18446744073709551615 → (s.place ≡ t.place) ⊎ IsUnused r w.answers w.counts s)
      → (s t : Sent) → Contains (w.sent ++ sends) s → Contains (w.sent ++ sends) t → s.is_unnumbered ≡ true → t.is_unnumbered ≡ true → s.serial < t.serial → s.number ≡ t.number → t.number < 18446744073709551615 → (s.place ≡ t.place) ⊎ IsUnused r w.answers w.counts s
  all_fresh later s t in_s in_t own_s own_t before same small = elim (Contains-append_cases w.sent sends s in_s) [
    | inl old_s ↦ elim (Contains-append_cases w.sent sends t in_t) [
      | inl old_t ↦ h.fresh s t (record { first = old_s; second = old_t; first_own = own_s; second_own = own_t; before = before }) same small
      | inr new_t ↦ later s t old_s new_t own_s own_t same small
    ]
    | inr new_s ↦ elim (Contains-append_cases w.sent sends t in_t) [
      | inl old_t ↦ (let low = late s new_s in let high = early t old_t in absurd (omega (arith, low, high, before)))
      | inr new_t ↦ inl (ap (λ (y : Sent). y.place) (same_number r n first (length w.sent) k xs s t new_s new_t own_s own_t same small))
    ]
  ]

  all_latest : AllByRecursion (IsLatest (w.sent ++ sends)) sends
  all_latest = all_of (IsLatest (w.sent ++ sends)) sends (λ z in_z s in_s at. elim (Contains-append_cases w.sent sends s in_s) [
    | inl old ↦ (let low = early s old in let high = late z in_z in omega (arith, low, high))
    | inr new ↦ (let same = ap (λ (y : Sent). y.serial) (same_place r n first (length w.sent) k xs s z apart new in_z at) in omega (arith, same))
  ])

  all_heard : AllByRecursion (λ g. Contains (w.sent ++ sends) g.sent) w.answers
  all_heard = all_weaker (λ (g : Answer). Contains w.sent g.sent) (λ (g : Answer). Contains (w.sent ++ sends) g.sent) (λ g in_it. Contains-append_left w.sent sends g.sent in_it) w.answers h.heard

  -- a request that waits and is not among these has no new sending
  all_waits : (queued : List Request) → ((a : Request) → Contains queued a → count_by (is_at a.place) xs ≡ 0) → AllByRecursion (WaitsAnew r w.sent w.answers) queued → AllByRecursion (WaitsAnew r (w.sent ++ sends) w.answers) queued
  all_waits queued other all = all_in (WaitsAnew r w.sent w.answers) (WaitsAnew r (w.sent ++ sends) w.answers) queued (λ a in_a is s in_s own at. elim (Contains-append_cases w.sent sends s in_s) [
    | inl old ↦ is s old own at
    | inr new ↦ (
        let o = is_of r n first (length w.sent) k xs s new in
        let some = some_at xs o.ask o.in_it in
        let place : o.ask.place ≡ a.place = o.place ∙ at in
        let some_here : 1 ≤ count_by (is_at a.place) xs = subst (λ p. 1 ≤ count_by (is_at p) xs) place some in
        let none = other a in_a in
        absurd (omega (arith, some_here, none)))
  ]) all

  all_counted : (last : ℕ) → ((s : Sent) → Contains w.sent s → s.is_unnumbered ≡ true → (s.number ≤ last) ⊎ (IsUnused r w.answers w.counts s ⊎ IsFlying r s k xs)) → IsCounted r (w.sent ++ sends) w.answers w.counts last k xs
  all_counted last old s in_s own = elim (Contains-append_cases w.sent sends s in_s) [
    | inl is_old ↦ old s is_old own
    | inr is_new ↦ inr (inr (flying_is r n first (length w.sent) k xs s is_new own))
  ]

  all_has : AllFlying r (HasNumber r w.sent w.answers) k xs → AllFlying r (HasNumber r (w.sent ++ sends) w.answers) k xs
  all_has known = flying_from r (HasNumber r (w.sent ++ sends) w.answers) (HasNumber r w.sent w.answers) n first sends (λ i j a in_z is s in_s own at. elim (Contains-append_cases w.sent sends s in_s) [
    | inl old ↦ is s old own at
    | inr new ↦ inl (ap (λ (y : Sent). y.number) (same_place r n first (length w.sent) k xs s (sending r n first i j a) apart new in_z at))
  ]) (length w.sent) k xs (λ s in_it. in_it) known

  all_owns : AllFlying r (OwnsNumber r w.sent w.answers w.counts) k xs → AllFlying r (OwnsNumber r (w.sent ++ sends) w.answers w.counts) k xs
  all_owns known = flying_from r (OwnsNumber r (w.sent ++ sends) w.answers w.counts) (OwnsNumber r w.sent w.answers w.counts) n first sends (λ i j a in_z is needs s in_s own same small. elim (Contains-append_cases w.sent sends s in_s) [
    | inl old ↦ is needs s old own same small
    | inr new ↦ inl (ap (λ (y : Sent). y.place) (same_number r n first (length w.sent) k xs s (sending r n first i j a) new in_z own needs same small))
  ]) (length w.sent) k xs (λ s in_it. in_it) known

-- ---- a flight

-- the requests in hand have different places
apart_hand : (r : Rules) (w : Run) (in_flight queued : List Request) → AreNumbered 0 w.requests → Hand in_flight queued w.requests → (p : ℕ) → count_by (is_at p) in_flight + count_by (is_at p) queued ≤ 1
apart_hand r w in_flight queued numbered hand p = let all = hand p in let one = one_place p 0 w.requests numbered in omega (arith, all, one)

went_numbers : (r : Rules) (w : Run) (in_flight queued : List Request) (picks : List Bool) → may_go picks (with_hand r in_flight queued w).proxy ≡ true → Holds r (with_hand r in_flight queued w) → Numbers r (with_hand r in_flight queued w) → Numbers r (went r picks (with_hand r in_flight queued w))
went_numbers r w (a ∷ more) queued picks may held h =
    let f : Proxy = (with_hand r (a ∷ more) queued w).proxy in
    let go : List Pending = picked picks f.waiting in
    let p = both_true f.is_up (false && (is_flight go && (is_alike go && (is_in_turn [] picks f.waiting && list_all (is_ready f.is_counted) go)))) may in
    absurd (cc p.1)
went_numbers r w [] queued picks may held h =
    let v : Run = with_hand r [] queued w in
    let f : Proxy = v.proxy in
    let go : List Pending = picked picks f.waiting in
    let xs : List Request = picked picks queued in
    let n : ℕ = length w.requests in
    let m : ℕ = length w.sent in
    let sends : List Sent = sendings r n true m f.last xs in
    let p = both_true f.is_up (true && (is_flight go && (is_alike go && (is_in_turn [] picks f.waiting && list_all (is_ready f.is_counted) go)))) may in
    let q = both_true (is_flight go) (is_alike go && (is_in_turn [] picks f.waiting && list_all (is_ready f.is_counted) go)) p.1 in
    let s = both_true (is_alike go) (is_in_turn [] picks f.waiting && list_all (is_ready f.is_counted) go) q.1 in
    let ready : list_all (is_ready f.is_counted) go ≡ true = (both_true (is_in_turn [] picks f.waiting) (list_all (is_ready f.is_counted) go) s.1).1 in
    let ready_xs : list_all (is_ready f.is_counted) (map (pending_of r) xs) ≡ true = subst (λ l. list_all (is_ready f.is_counted) l ≡ true) (picked_pending_of r picks queued) ready in
    let out = held.wire p.0 in
    let clear : w.wire ≡ [] = out.2 in
    let wrote : written r n true m f.last xs go ≡ sends = ap (written r n true m f.last xs) (picked_pending_of r picks queued) ∙ written_of r n true m f.last xs in
    let one : (c : ℕ) → count_by (is_at c) queued ≤ 1 = λ c. (let all = apart_hand r w [] queued held.numbered h.hand c in omega (arith, all)) in
    let apart : AreApart xs = λ c. (let all = one c in omega (arith, all, count_picked (is_at c) picks queued)) in
    let anew : AllByRecursion (WaitsAnew r w.sent w.answers) xs = all_picked (WaitsAnew r w.sent w.answers) picks queued h.waits in
    let flying : AllFlying r (λ j a. WaitsAnew r w.sent w.answers a) f.last xs = flying_same r (WaitsAnew r w.sent w.answers) f.last xs anew in
    let refused : (s t : Sent) → Contains w.sent s → Contains sends t → s.is_unnumbered ≡ true → s.place ≡ t.place → IsNumberRefused r w.answers s = λ s t in_s in_t own at. (
    let of_t = flying_at r (λ j a. WaitsAnew r w.sent w.answers a) n true m f.last xs t flying in_t in
    of_t.1 s in_s own (at ∙ sym of_t.2)) in
    let above : (s t : Sent) → Contains w.sent s → Contains sends t → s.is_unnumbered ≡ true → t.is_unnumbered ≡ true → s.number ≡ t.number → t.number < 18446744073709551615 → IsUnused r w.answers w.counts s = λ s t in_s in_t own_s own_t same small. (
    let counted : w.proxy.is_counted ≡ true = ready_counted r w.proxy.is_counted n true m f.last xs t ready_xs in_t own_t in
    let high : f.last < t.number = number_more r n true m f.last xs t in_t small in
    elim (h.counted counted s in_s own_s) [
      | inl below ↦ absurd (omega (arith, below, high, same))
      | inr known ↦ elim known [ inl unused ↦ unused | inr none ↦ absurd none ]
    ]) in
    subst (λ l. Numbers r (record w { proxy = flown picks f; in_flight = xs; queued = left picks queued; sent = w.sent ++ l; wire = w.wire ++ l })) (sym wrote) (record {
      serial = all_serial r v h n true f.last xs apart;
      heard = all_heard r v h n true f.last xs apart;
      hand = λ c. (let all = h.hand c in omega (arith, all, count_picked (is_at c) picks queued));
      one_number = λ s t two same. all_one r v h n true f.last xs apart (λ s t in_s in_t own_s own_t at. inr (refused s t in_s in_t own_s at)) s t two.first two.second two.first_own two.second_own two.before same;
      fresh = λ s t two same small. all_fresh r v h n true f.last xs apart (λ s t in_s in_t own_s own_t same small. inr (above s t in_s in_t own_s own_t same small)) s t two.first two.second two.first_own two.second_own two.before same small;
      counted = λ is. all_counted r v h n true f.last xs apart f.last (λ s in_s own. elim (h.counted is s in_s own) [
        | inl below ↦ inl below
        | inr known ↦ elim known [ inl unused ↦ inr (inl unused) | inr none ↦ absurd none ]
      ]);
      waits = all_waits r v h n true f.last xs apart (left picks queued) (λ a in_a. (let some = some_at (left picks queued) a in_a in let all = one a.place in omega (arith, some, all, count_picked (is_at a.place) picks queued)))
          (all_left (WaitsAnew r w.sent w.answers) picks queued h.waits);
      has = all_has r v h n true f.last xs apart (flying_weaker r (λ j a. WaitsAnew r w.sent w.answers a) (HasNumber r w.sent w.answers) (λ j a is s in_s own at. inr (is s in_s own at)) f.last xs flying);
      owns = flying_from r (OwnsNumber r (w.sent ++ sends) w.answers w.counts) (λ j a. WaitsAnew r w.sent w.answers a) n true sends (λ i j a in_z is needs s in_s own same small. elim (Contains-append_cases w.sent sends s in_s) [
        | inl old ↦ inr (above s (sending r n true i j a) old in_z own needs same small)
        | inr new ↦ inl (ap (λ (y : Sent). y.place) (same_number r n true m f.last xs s (sending r n true i j a) new in_z own needs same small))
      ]) m f.last xs (λ s in_it. in_it) flying;
      latest = subst (λ l. AllByRecursion (IsLatest (w.sent ++ sends)) (l ++ sends)) (sym clear) (all_latest r v h n true f.last xs apart);
      only = λ new. subst (λ l. AllByRecursion (IsOnly r (w.sent ++ sends) w.answers) (l ++ sends)) (sym clear) (all_of (IsOnly r (w.sent ++ sends) w.answers) sends (λ z in_z s in_s own at. elim (Contains-append_cases w.sent sends s in_s) [
        | inl old ↦ inr (refused s z old in_z own at)
        | inr is_new ↦ inl (same_place r n true m f.last xs s z apart is_new in_z at)
      ]));
    })

flies_numbers : (r : Rules) (w : Run) (in_flight queued : List Request) (picks : List Bool) → Holds r (with_hand r in_flight queued w) → Numbers r (with_hand r in_flight queued w) → Numbers r (happens r (with_hand r in_flight queued w) (Flies picks))
flies_numbers r w in_flight queued picks held h =
    let v : Run = with_hand r in_flight queued w in
    either (Numbers r) (may_go picks v.proxy) (went r picks v) v (λ may. went_numbers r w in_flight queued picks may held h) (λ may_not. h)

-- ---- a line that needs a view is sent

by_view_numbers : (r : Rules) (w : Run) → Numbers r w → Numbers r (by_view w)
by_view_numbers r w h = record {
  serial = h.serial;
  heard = h.heard;
  hand = h.hand;
  one_number = λ s t two same. h.one_number s t (record { first = two.first; second = two.second; first_own = two.first_own; second_own = two.second_own; before = two.before }) same;
  fresh = λ s t two same small. h.fresh s t (record { first = two.first; second = two.second; first_own = two.first_own; second_own = two.second_own; before = two.before }) same small;
  counted = h.counted;
  waits = h.waits;
  has = h.has;
  owns = h.owns;
  latest = h.latest;
  only = h.only;
}

pub accepted_numbers : (r : Rules) (w : Run) (c role : ℕ) (line : List ℕ) → Holds r (with_hand r [] [] w) → Numbers r (with_hand r [] [] w) → Numbers r (accepted r w c role line)
accepted_numbers r w c role line held h = came_numbers r (with_hand r [] [] w) c role line held h

followed_numbers : (r : Rules) (w : Run) (in_flight queued : List Request) (c role : ℕ) (line : List ℕ) → is_ended c w.ended ≡ false → r.allows role line ≡ true → FollowsNow r line (with_hand r in_flight queued w).proxy
    → Holds r (with_hand r in_flight queued w) → Numbers r (with_hand r in_flight queued w) → Numbers r (followed r (with_hand r in_flight queued w) c role line Queued)
followed_numbers r w (a ∷ more) queued c role line going may now held h = (let none : false ≡ true = now.none_flies in absurd (cc none))
followed_numbers r w [] (a ∷ more) c role line going may now held h = (let none : false ≡ true = now.none_waits in absurd (cc none))
followed_numbers r w [] [] c role line going may now held h =
    let v : Run = accepted r w c role line in
    by_view_numbers r (went r (true ∷ []) v) (went_numbers r v [] (next_request w c role line ∷ []) (true ∷ []) (goes_alone r w c role line now) (accepted_holds r w c role line going may held) (accepted_numbers r w c role line held h))

follows_numbers : (r : Rules) (w : Run) (in_flight queued : List Request) (c role : ℕ) (line : List ℕ) → Holds r (with_hand r in_flight queued w) → Numbers r (with_hand r in_flight queued w) → Numbers r (happens r (with_hand r in_flight queued w) (Follows c role line))
follows_numbers r w in_flight queued c role line held h =
    let v : Run = with_hand r in_flight queued w in
    either (Numbers r) (is_ended c w.ended) v (followed r v c role line (admission_after_view r c role line v.proxy)) (λ over. h)
    (λ going. following_cases r c role line v.proxy (λ t. Numbers r (followed r v c role line t))
    (λ may follows. followed_numbers r w in_flight queued c role line going may (follows_of r line v.proxy follows) held h)
    (λ may_not none. denied_numbers r v c role line h)
    h)

-- ---- there is a new connection to the server

connected_numbers : (r : Rules) (w : Run) (in_flight queued : List Request) → w.proxy.is_up ≡ false → Holds r (with_hand r in_flight queued w) → Numbers r (with_hand r in_flight queued w) → Numbers r (connected r (with_hand r in_flight queued w))
connected_numbers r w in_flight queued down held h =
    let v : Run = with_hand r in_flight queued w in
    let n : ℕ = length w.requests in
    let m : ℕ = length w.sent in
    let k : ℕ = w.proxy.number in
    let sends : List Sent = sendings r n false m k in_flight in
    let one : (c : ℕ) → count_by (is_at c) in_flight + count_by (is_at c) queued ≤ 1 = apart_hand r w in_flight queued held.numbered h.hand in
    let apart : AreApart in_flight = λ c. (let all = one c in omega (arith, all)) in
    subst (λ l. Numbers r (record v { proxy = record (v.proxy) { is_up = true }; sent = w.sent ++ l; wire = l })) (sym (written_of r n false m k in_flight)) (record {
      serial = all_serial r v h n false k in_flight apart;
      heard = all_heard r v h n false k in_flight apart;
      hand = h.hand;
      one_number = λ s t two same. all_one r v h n false k in_flight apart (λ s t in_s in_t own_s own_t at. (
          let of_t = flying_at r (HasNumber r w.sent w.answers) n false m k in_flight t h.has in_t in
          of_t.1 s in_s own_s (at ∙ sym of_t.2))) s t two.first two.second two.first_own two.second_own two.before same;
      fresh = λ s t two same small. all_fresh r v h n false k in_flight apart (λ s t in_s in_t own_s own_t same small. (
          let of_t = flying_at r (OwnsNumber r w.sent w.answers w.counts) n false m k in_flight t h.owns in_t in
          elim (of_t.1 (of_t.3 ∙ own_t) s in_s own_s same small) [ inl at ↦ inl (at ∙ of_t.2) | inr unused ↦ inr unused ])) s t two.first two.second two.first_own two.second_own two.before same small;
      counted = λ is. all_counted r v h n false k in_flight apart w.proxy.last (h.counted is);
      waits = all_waits r v h n false k in_flight apart queued (λ a in_a. (let some = some_at queued a in_a in let all = one a.place in omega (arith, some, all))) h.waits;
      has = all_has r v h n false k in_flight apart h.has;
      owns = all_owns r v h n false k in_flight apart h.owns;
      latest = all_latest r v h n false k in_flight apart;
      only = λ new. subst (λ l. AllByRecursion (IsOnly r (w.sent ++ sends) w.answers) (sendings r n false m k l)) (sym (held.quiet down new)) tt;
    })

connects_numbers : (r : Rules) (w : Run) (in_flight queued : List Request) → Holds r (with_hand r in_flight queued w) → Numbers r (with_hand r in_flight queued w) → Numbers r (happens r (with_hand r in_flight queued w) Connects)
connects_numbers r w in_flight queued held h =
    let v : Run = with_hand r in_flight queued w in
    either (Numbers r) (may_connect v.proxy) (connected r v) v (λ may. connected_numbers r w in_flight queued (is_down v.proxy may) held h) (λ may_not. h)

-- ---- a whole run

hand_numbers : (r : Rules) (w : Run) (in_flight queued : List Request) (event : Event) → Holds r (with_hand r in_flight queued w) → Numbers r (with_hand r in_flight queued w) → Numbers r (happens r (with_hand r in_flight queued w) event)
hand_numbers r w in_flight queued (Arrives c role line) held h = arrives_numbers r (with_hand r in_flight queued w) c role line held h
hand_numbers r w in_flight queued (Leaves c) held h = leaves_numbers r (with_hand r in_flight queued w) c h
hand_numbers r w in_flight queued (Follows c role line) held h = follows_numbers r w in_flight queued c role line held h
hand_numbers r w in_flight queued (Flies picks) held h = flies_numbers r w in_flight queued picks held h
hand_numbers r w in_flight queued (Answers answer) held h = answers_numbers r w in_flight queued answer held h
hand_numbers r w in_flight queued Breaks held h = breaks_numbers r w in_flight queued h
hand_numbers r w in_flight queued (TakesBack c) held h = takes_numbers r w in_flight queued c h
hand_numbers r w in_flight queued Connects held h = connects_numbers r w in_flight queued held h
hand_numbers r w in_flight queued (Counts last) held h = counts_numbers r (with_hand r in_flight queued w) last h

pub happens_numbers : (r : Rules) (w : Run) (event : Event) → Holds r w → Numbers r w → Numbers r (happens r w event)
happens_numbers r w event held h =
    let with : (List Pending × List Pending) → Run = λ p. record w { proxy = record (w.proxy) { flight = p.0; waiting = p.1 } } in
    let same : (w.proxy.flight, w.proxy.waiting) ≡ (map (pending_of r) w.in_flight, map (pending_of r) w.queued) = cc (held.flying, held.waiting) in
    subst (λ p. Numbers r (happens r (with p) event)) (sym same) (hand_numbers r w w.in_flight w.queued event (subst (λ p. Holds r (with p)) same held) (subst (λ p. Numbers r (with p)) same h))

pub run_numbers : (r : Rules) (w : Run) (events : List Event) → Holds r w → Numbers r w → Numbers r (run r w events)
run_numbers r w [] held h = h
run_numbers r w (event ∷ events) held h = run_numbers r (happens r w event) events (happens_holds r w event held) (happens_numbers r w event held h)
