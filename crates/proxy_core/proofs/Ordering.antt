-- What every event keeps of the order of a connection's lines.
use Rattle.std.proofs.Common.{◌≡◌, ◌⊎◌, ℕ, ◌+◌, ◌≤◌, ◌<◌, ◌==◌, ◌&&◌, ◌||◌, not, Bool, true, false, List, [], ◌∷◌, ◌++◌, Some, None, length, map, take, drop, refl, sym, ap, subst, ◌∙◌, arith, inl, inr, append_assoc, cond, Contains}
use Rattle.std.specs.List.{AllByRecursion, list_all}
use Rattle.std.proofs.lemmas.Bool.Decides.{nat_tests}
use Rattle.std.proofs.lemmas.List.Elements.{Contains-append_cases, Contains-push_cases}
use Rattle.proxy_core.specs.declared.proxy.Admission.TheVariants.{Queued, Denied, Deferred}
use Rattle.proxy_core.specs.declared.proxy.Outcome.{Outcome}
use Rattle.proxy_core.specs.declared.proxy.Outcome.TheVariants.{To, Ended, Retry, Unsolicited}
use Rattle.proxy_core.specs.Rules.{Rules, next, needs_number}
use Rattle.proxy_core.specs.Pending.{Pending, step}
use Rattle.proxy_core.specs.Machine.{Proxy, admission, flown, is_alike, is_flight, is_in_turn, is_ready, left, may_go, outcome, outcome_of, picked, rest, begins_order, is_late, admission_after_view, may_connect}
use Rattle.proxy_core.specs.Run.{Request, Sent, Answer, Run, Event, Arrives, Leaves, Flies, Answers, Breaks, Follows, TakesBack, Connects, Counts, answer_of, broke, followed, came, connected, happens, is_ended, new_run, next_request, run, said, took, went, without, written}
use Rattle.proxy_core.specs.Numbers.{IsInOrder, asks_again}
use Rattle.proxy_core.specs.Promises.{hand, pending_of, place_if, places_of, sending, sendings}
use Rattle.proxy_core.proofs.Hand.{hand_again, hand_first, hand_flies, hand_other, hand_own, hand_push, hand_waiting, none_late, refused_without}
use Rattle.proxy_core.proofs.Lists.{both_false, both_true, either, picked_pending_of, written_of}
use Rattle.proxy_core.proofs.Sendings.{all_at, all_of, cons_cases, is_of, serial_from, serial_less, serial_sendings}
use Rattle.proxy_core.proofs.Holding.{FollowsNow, Holds, IsGood, accepted, accepted_holds, following_cases, follows_of, goes_alone, happens_holds, with_hand}
use Rattle.proxy_core.proofs.Numbering.{Numbers, accepted_numbers, happens_numbers, none_sent}

-- ---- rising places

abbrev pub Rising : List ℕ → Type 0
Rising [] = Unit {0}
Rising (p ∷ ps) = AllByRecursion (λ q. p < q) ps × Rising ps

all_left_of : (P : ℕ → Type 0) (xs ys : List ℕ) → AllByRecursion P (xs ++ ys) → AllByRecursion P xs
all_left_of P [] ys all = tt
all_left_of P (x ∷ xs) ys all = (all.0, all_left_of P xs ys all.1)

all_right_of : (P : ℕ → Type 0) (xs ys : List ℕ) → AllByRecursion P (xs ++ ys) → AllByRecursion P ys
all_right_of P [] ys all = all
all_right_of P (x ∷ xs) ys all = all_right_of P xs ys all.1

all_both : (P : ℕ → Type 0) (xs ys : List ℕ) → AllByRecursion P xs → AllByRecursion P ys → AllByRecursion P (xs ++ ys)
all_both P [] ys first second = second
all_both P (x ∷ xs) ys first second = (first.0, all_both P xs ys first.1 second)

all_more : (P Q : ℕ → Type 0) → ((p : ℕ) → P p → Q p) → (xs : List ℕ) → AllByRecursion P xs → AllByRecursion Q xs
all_more P Q weaker [] all = tt
all_more P Q weaker (x ∷ xs) all = (weaker x all.0, all_more P Q weaker xs all.1)

all_drop : (P : ℕ → Type 0) (xs own ys : List ℕ) → AllByRecursion P (xs ++ (own ++ ys)) → AllByRecursion P (xs ++ ys)
all_drop P xs own ys all = all_both P xs ys (all_left_of P xs (own ++ ys) all) (all_right_of P own ys (all_right_of P xs (own ++ ys) all))

rising_left : (xs ys : List ℕ) → Rising (xs ++ ys) → Rising xs
rising_left [] ys rising = tt
rising_left (x ∷ xs) ys rising = (all_left_of (λ q. x < q) xs ys rising.0, rising_left xs ys rising.1)

rising_right : (xs ys : List ℕ) → Rising (xs ++ ys) → Rising ys
rising_right [] ys rising = rising
rising_right (x ∷ xs) ys rising = rising_right xs ys rising.1

rising_push : (xs : List ℕ) (b : Bool) (p : ℕ) → Rising xs → AllByRecursion (λ q. q < p) xs → Rising (xs ++ place_if b p)
rising_push [] true p rising less = (tt, tt)
rising_push [] false p rising less = tt
rising_push (x ∷ xs) b p rising less = (all_both (λ q. x < q) xs (place_if b p) rising.0 (one b), rising_push xs b p rising.1 less.1)
  where
    one : (b : Bool) → AllByRecursion (λ q. x < q) (place_if b p)
    one true = (less.0, tt)
    one false = tt

-- one in the middle is left out
rising_drop : (xs own ys : List ℕ) → Rising (xs ++ (own ++ ys)) → Rising (xs ++ ys)
rising_drop [] own ys rising = rising_right own ys rising
rising_drop (x ∷ xs) own ys rising = (all_drop (λ q. x < q) xs own ys rising.0, rising_drop xs own ys rising.1)

-- ---- the places in hand

-- those in flight
rising_flight : (d k : ℕ) (flight queued : List Request) → Rising (hand d k flight queued) → Rising (places_of d flight)
rising_flight d k flight queued rising = rising_left (places_of d flight) (places_of d (drop k queued)) (rising_right (places_of d (take k queued)) (places_of d flight ++ places_of d (drop k queued)) rising)

all_flight : (P : ℕ → Type 0) (d k : ℕ) (flight queued : List Request) → AllByRecursion P (hand d k flight queued) → AllByRecursion P (places_of d flight)
all_flight P d k flight queued all = all_left_of P (places_of d flight) (places_of d (drop k queued)) (all_right_of P (places_of d (take k queued)) (places_of d flight ++ places_of d (drop k queued)) all)

-- what holds of those in flight and of those that wait
all_hand : (P : ℕ → Type 0) (d k : ℕ) (flight queued : List Request) → AllByRecursion P (places_of d flight) → AllByRecursion P (places_of d queued) → AllByRecursion P (hand d k flight queued)
all_hand P d k flight queued flies waits =
    let front : List ℕ = places_of d (take k queued) in
    let back : List ℕ = places_of d (drop k queued) in
    let both : AllByRecursion P (front ++ back) = subst (AllByRecursion P) (sym (hand_waiting d k queued)) waits in
    all_both P front (places_of d flight ++ back) (all_left_of P front back both) (all_both P (places_of d flight) back flies (all_right_of P front back both))

-- the lines of a connection are dropped, and no others: so what holds of the places in hand still does
module _ (r : Rules) (c d k : ℕ) (flight queued : List Request) where
  abbrev kept : List ℕ
  kept = hand d (refused_without r c k queued) flight (without c queued)

  kept_cases : (kept ≡ hand d k flight queued) ⊎ (kept ≡ places_of d flight)
  kept_cases = elim (c == d) as (λ b. (c == d) ≡ b → (kept ≡ hand d k flight queued) ⊎ (kept ≡ places_of d flight)) [
    | true ↦ λ same. inr (hand_own r c d k flight queued same)
    | false ↦ λ other. inl (hand_other r c d k flight queued other)
  ] refl

  rising_without : Rising (hand d k flight queued) → Rising kept
  rising_without rising = elim kept_cases [
    | inl same ↦ subst Rising (sym same) rising
    | inr flies ↦ subst Rising (sym flies) (rising_flight d k flight queued rising)
  ]

  all_without : (P : ℕ → Type 0) → AllByRecursion P (hand d k flight queued) → AllByRecursion P kept
  all_without P all = elim kept_cases [
    | inl same ↦ subst (AllByRecursion P) (sym same) all
    | inr flies ↦ subst (AllByRecursion P) (sym flies) (all_flight P d k flight queued all)
  ]

-- the place of a request is among those of its connection
places_at : (P : ℕ → Type 0) (xs : List Request) (a : Request) (c : ℕ) → Contains xs a → a.from ≡ c → AllByRecursion P (places_of c xs) → P a.place
places_at P [] a c in_it from all = (let less = in_it.1 in absurd (omega (arith, less)))
places_at P (x ∷ xs) a c in_it from all = elim (cons_cases x a xs in_it) [
  | inl same ↦ (
      let e : x.from ≡ c = ap (λ (y : Request). y.from) same ∙ from in
      let here : (x.from == c) ≡ true = grind (arith, nat_tests) in
      let first : AllByRecursion P (x.place ∷ places_of c xs) = subst (λ b. AllByRecursion P (place_if b x.place ++ places_of c xs)) here all in
      subst P (ap (λ (y : Request). y.place) same) first.0)
  | inr more ↦ places_at P xs a c more from (all_right_of P (place_if (x.from == c) x.place) (places_of c xs) all)
]

-- of one flight, the older line of a connection is sent first
sends_order : (r : Rules) (n : ℕ) (first : Bool) (m k : ℕ) (xs : List Request) (s z : Sent) → Contains (sendings r n first m k xs) s → Contains (sendings r n first m k xs) z → s.from ≡ z.from → s.place < z.place → Rising (places_of z.from xs) → s.serial < z.serial
sends_order r n first m k [] s z in_s in_z from less rising = (let few = in_s.1 in absurd (omega (arith, few)))
sends_order r n first m k (x ∷ xs) s z in_s in_z from less rising =
    let y : Sent = sending r n first m (next k) x in
    let k' : ℕ = step (needs_number r x.line) k in
    let later : List Sent = sendings r n first (m + 1) k' xs in
    elim (cons_cases y s later in_s) [
      | inl is_s ↦ elim (cons_cases y z later in_z) [
        | inl is_z ↦ (let p : x.place ≡ s.place = ap (λ (t : Sent). t.place) is_s in let q : x.place ≡ z.place = ap (λ (t : Sent). t.place) is_z in absurd (omega (arith, p, q, less)))
        | inr more ↦ (let at : m ≡ s.serial = ap (λ (t : Sent). t.serial) is_s in let low = serial_from (m + 1) later z (serial_sendings r n first (m + 1) k' xs) more in omega (arith, at, low))
      ]
      | inr more_s ↦ elim (cons_cases y z later in_z) [
        | inl is_z ↦ (
            let o = is_of r n first (m + 1) k' xs s more_s in
            let e : x.from ≡ z.from = ap (λ (t : Sent). t.from) is_z in
            let here : (x.from == z.from) ≡ true = grind (arith, nat_tests) in
            let up : Rising (x.place ∷ places_of z.from xs) = subst (λ b. Rising (place_if b x.place ++ places_of z.from xs)) here rising in
            let above : x.place < o.ask.place = places_at (λ q. x.place < q) xs o.ask z.from o.in_it (o.from ∙ from) up.0 in
            let q : x.place ≡ z.place = ap (λ (t : Sent). t.place) is_z in
            let p = o.place in
            absurd (omega (arith, above, q, p, less)))
        | inr more_z ↦ sends_order r n first (m + 1) k' xs s z more_s more_z from less (rising_right (place_if (x.from == z.from) x.place) (places_of z.from xs) rising)
      ]
    ]

-- ---- what is kept

-- the requests in hand of its connection are not older than the one that an answer is of
abbrev pub IsPast : ℕ → List Request → List Request → Answer → Type 0
IsPast refused in_flight queued h = AllByRecursion (λ p. h.sent.place ≤ p) (hand h.sent.from refused in_flight queued)

-- a line without an answer comes after all sendings of older requests of its connection
abbrev pub IsAfter : List Sent → Sent → Type 0
IsAfter sent z = (s : Sent) → Contains sent s → s.from ≡ z.from → s.place < z.place → s.serial < z.serial

pub record Order (r : Rules) (w : Run) : Type 0 where
  pub rising : (c : ℕ) → Rising (hand c w.proxy.refused w.in_flight w.queued)
  pub past : (h : Answer) → Contains w.answers h → asks_again r h ≡ false → IsPast w.proxy.refused w.in_flight w.queued h
  pub order : IsInOrder r w
  pub after : AllByRecursion (IsAfter w.sent) w.wire

pub begins : (r : Rules) → Order r new_run
begins r = record {
  rising = λ c. tt;
  past = λ h in_it final. tt;
  order = λ h s in_h final in_s from less. (let few = in_h.1 in absurd (omega (arith, few)));
  after = tt;
}

leaves_order : (r : Rules) (w : Run) (in_flight queued : List Request) (c : ℕ) → Order r (with_hand r in_flight queued w) → Order r (happens r (with_hand r in_flight queued w) (Leaves c))
leaves_order r w in_flight queued c h = record {
  rising = λ d. rising_without r c d w.proxy.refused in_flight queued (h.rising d);
  past = λ g in_g final. all_without r c g.sent.from w.proxy.refused in_flight queued (λ p. g.sent.place ≤ p) (h.past g in_g final);
  order = h.order;
  after = h.after;
}

places_less : (n c : ℕ) (xs : List Request) → AllByRecursion (λ (a : Request). a.place < n) xs → AllByRecursion (λ q. q < n) (places_of c xs)
places_less n c [] all = tt
places_less n c (x ∷ xs) all = all_both (λ q. q < n) (place_if (x.from == c) x.place) (places_of c xs) (one (x.from == c)) (places_less n c xs all.1)
  where
    one : (b : Bool) → AllByRecursion (λ q. q < n) (place_if b x.place)
    one true = (all.0, tt)
    one false = tt

came_order : (r : Rules) (w : Run) (c role : ℕ) (line : List ℕ) → Holds r w → Numbers r w → Order r w → Order r (came r w c role line Queued)
came_order r w c role line held numbers h =
    let a : Request = next_request w c role line in
    let n : ℕ = length w.requests in
    let k : ℕ = w.proxy.refused in
    let below : (xs : List Request) → AllByRecursion (IsGood r w.requests) xs → AllByRecursion (λ (x : Request). x.place < n) xs = λ xs all. good_less xs all in
    let pushed : (d : ℕ) → hand d k w.in_flight (w.queued ++ a ∷ []) ≡ hand d k w.in_flight w.queued ++ place_if (c == d) n = λ d. hand_push d k w.in_flight w.queued a held.within in
    record {
      rising = λ d. subst Rising (sym (pushed d)) (rising_push (hand d k w.in_flight w.queued) (c == d) n (h.rising d) (all_hand (λ q. q < n) d k w.in_flight w.queued (places_less n d w.in_flight (below w.in_flight held.in_flight)) (places_less n d w.queued (below w.queued held.queued))));
      past = λ g in_g final. subst (AllByRecursion (λ p. g.sent.place ≤ p)) (sym (pushed g.sent.from)) (all_both (λ p. g.sent.place ≤ p) (hand g.sent.from k w.in_flight w.queued) (place_if (c == g.sent.from) n) (h.past g in_g final)
          (last (c == g.sent.from) g.sent.place (none_sent r w held g.sent (all_at (λ (x : Answer). Contains w.sent x.sent) w.answers g numbers.heard in_g))));
      order = h.order;
      after = h.after;
    }
  where
    good_less : (xs : List Request) → AllByRecursion (IsGood r w.requests) xs → AllByRecursion (λ (x : Request). x.place < length w.requests) xs
    good_less [] all = tt
    good_less (x ∷ xs) all = (all.0.before, good_less xs all.1)

    last : (b : Bool) (p : ℕ) → p < length w.requests → AllByRecursion (λ q. p ≤ q) (place_if b (length w.requests))
    last true p less = (omega (arith, less), tt)
    last false p less = tt

arrives_order : (r : Rules) (w : Run) (c role : ℕ) (line : List ℕ) → Holds r w → Numbers r w → Order r w → Order r (happens r w (Arrives c role line))
arrives_order r w c role line held numbers h =
    either (Order r) (is_ended c w.ended) w (came r w c role line (admission r c role line w.proxy)) (λ over. h)
    (λ going. elim (admission r c role line w.proxy) as (λ t. Order r (came r w c role line t)) [
      | Queued ↦ came_order r w c role line held numbers h
      | Denied ↦ record { rising = h.rising; past = h.past; order = h.order; after = h.after }
      | Deferred ↦ record { rising = h.rising; past = h.past; order = h.order; after = h.after }
    ])

-- ---- lines are written

module _ (r : Rules) (w : Run) (numbers : Numbers r w) (h : Order r w) (n : ℕ) (first : Bool) (k : ℕ) (xs : List Request) (rising : (c : ℕ) → Rising (places_of c xs)) (past : (g : Answer) → Contains w.answers g → asks_again r g ≡ false → AllByRecursion (λ p. g.sent.place ≤ p) (places_of g.sent.from xs)) where
  abbrev writes : List Sent
  writes = sendings r n first (length w.sent) k xs

  all_order : (g : Answer) (s : Sent) → Contains w.answers g → asks_again r g ≡ false → Contains (w.sent ++ writes) s → s.from ≡ g.sent.from → s.place < g.sent.place → s.serial < g.sent.serial
  all_order g s in_g final in_s from less = elim (Contains-append_cases w.sent writes s in_s) [
    | inl old ↦ h.order g s in_g final old from less
    | inr new ↦ (
        let o = is_of r n first (length w.sent) k xs s new in
        let no_older : g.sent.place ≤ o.ask.place = places_at (λ p. g.sent.place ≤ p) xs o.ask g.sent.from o.in_it (o.from ∙ from) (past g in_g final) in
        let at = o.place in
        absurd (omega (arith, no_older, at, less)))
  ]

  all_after : AllByRecursion (IsAfter (w.sent ++ writes)) writes
  all_after = all_of (IsAfter (w.sent ++ writes)) writes (λ z in_z s in_s from less. elim (Contains-append_cases w.sent writes s in_s) [
    | inl old ↦ (
        let early = serial_less 0 w.sent s numbers.serial old in
        let late = serial_from (length w.sent) writes z (serial_sendings r n first (length w.sent) k xs) in_z in
        omega (arith, early, late))
    | inr new ↦ sends_order r n first (length w.sent) k xs s z new in_z from less (rising z.from)
  ])

went_order : (r : Rules) (w : Run) (in_flight queued : List Request) (picks : List Bool) → may_go picks (with_hand r in_flight queued w).proxy ≡ true → Holds r (with_hand r in_flight queued w) → Numbers r (with_hand r in_flight queued w) → Order r (with_hand r in_flight queued w) → Order r (went r picks (with_hand r in_flight queued w))
went_order r w (a ∷ more) queued picks may held numbers h =
    let f : Proxy = (with_hand r (a ∷ more) queued w).proxy in
    let go : List Pending = picked picks f.waiting in
    let p = both_true f.is_up (false && (is_flight go && (is_alike go && (is_in_turn [] picks f.waiting && list_all (is_ready f.is_counted) go)))) may in
    absurd (cc p.1)
went_order r w [] queued picks may held numbers h =
    let v : Run = with_hand r [] queued w in
    let f : Proxy = v.proxy in
    let go : List Pending = picked picks f.waiting in
    let xs : List Request = picked picks queued in
    let n : ℕ = length w.requests in
    let m : ℕ = length w.sent in
    let sends : List Sent = sendings r n true m f.last xs in
    let p = both_true f.is_up (true && (is_flight go && (is_alike go && (is_in_turn [] picks f.waiting && list_all (is_ready f.is_counted) go)))) may in
    let q = both_true (is_flight go) (is_alike go && (is_in_turn [] picks f.waiting && list_all (is_ready f.is_counted) go)) p.1 in
    let s = both_true (is_alike go) (is_in_turn [] picks f.waiting && list_all (is_ready f.is_counted) go) q.1 in
    let turn : is_in_turn [] picks f.waiting ≡ true = (both_true (is_in_turn [] picks f.waiting) (list_all (is_ready f.is_counted) go) s.1).0 in
    let out = held.wire p.0 in
    let clear : w.wire ≡ [] = out.2 in
    let wrote : written r n true m f.last xs go ≡ sends = ap (written r n true m f.last xs) (picked_pending_of r picks queued) ∙ written_of r n true m f.last xs in
    let rest : List Request = left picks queued in
    let split : (c : ℕ) → places_of c xs ++ places_of c rest ≡ hand c f.refused [] queued = λ c. hand_flies r c f.refused picks queued turn in
    let rising : (c : ℕ) → Rising (places_of c xs) = λ c. rising_left (places_of c xs) (places_of c rest) (subst Rising (sym (split c)) (h.rising c)) in
    let all_past : (g : Answer) → Contains w.answers g → asks_again r g ≡ false → AllByRecursion (λ i. g.sent.place ≤ i) (places_of g.sent.from xs ++ places_of g.sent.from rest) = λ g in_g final. subst (AllByRecursion (λ i. g.sent.place ≤ i)) (sym (split g.sent.from)) (h.past g in_g final) in
    let past : (g : Answer) → Contains w.answers g → asks_again r g ≡ false → AllByRecursion (λ i. g.sent.place ≤ i) (places_of g.sent.from xs) = λ g in_g final. all_left_of (λ i. g.sent.place ≤ i) (places_of g.sent.from xs) (places_of g.sent.from rest) (all_past g in_g final) in
    subst (λ l. Order r (record v { proxy = flown picks f; in_flight = xs; queued = left picks queued; sent = w.sent ++ l; wire = w.wire ++ l })) (sym wrote) (record {
      rising = λ c. subst Rising (sym (split c)) (h.rising c);
      past = all_past;
      order = all_order r v numbers h n true f.last xs rising past;
      after = subst (λ l. AllByRecursion (IsAfter (w.sent ++ sends)) (l ++ sends)) (sym clear) (all_after r v numbers h n true f.last xs rising past);
    })

flies_order : (r : Rules) (w : Run) (in_flight queued : List Request) (picks : List Bool) → Holds r (with_hand r in_flight queued w) → Numbers r (with_hand r in_flight queued w) → Order r (with_hand r in_flight queued w) → Order r (happens r (with_hand r in_flight queued w) (Flies picks))
flies_order r w in_flight queued picks held numbers h =
    let v : Run = with_hand r in_flight queued w in
    either (Order r) (may_go picks v.proxy) (went r picks v) v (λ may. went_order r w in_flight queued picks may held numbers h) (λ may_not. h)

followed_order : (r : Rules) (w : Run) (in_flight queued : List Request) (c role : ℕ) (line : List ℕ) → is_ended c w.ended ≡ false → r.allows role line ≡ true → FollowsNow r line (with_hand r in_flight queued w).proxy
    → Holds r (with_hand r in_flight queued w) → Numbers r (with_hand r in_flight queued w) → Order r (with_hand r in_flight queued w) → Order r (followed r (with_hand r in_flight queued w) c role line Queued)
followed_order r w (a ∷ more) queued c role line going may now held numbers h = (let none : false ≡ true = now.none_flies in absurd (cc none))
followed_order r w [] (a ∷ more) c role line going may now held numbers h = (let none : false ≡ true = now.none_waits in absurd (cc none))
followed_order r w [] [] c role line going may now held numbers h =
    let v : Run = accepted r w c role line in
    let went_v : Order r (went r (true ∷ []) v) = went_order r v [] (next_request w c role line ∷ []) (true ∷ []) (goes_alone r w c role line now) (accepted_holds r w c role line going may held) (accepted_numbers r w c role line held numbers)
    (came_order r (with_hand r [] [] w) c role line held numbers h) in
    record { rising = went_v.rising; past = went_v.past; order = went_v.order; after = went_v.after }

follows_order : (r : Rules) (w : Run) (in_flight queued : List Request) (c role : ℕ) (line : List ℕ) → Holds r (with_hand r in_flight queued w) → Numbers r (with_hand r in_flight queued w) → Order r (with_hand r in_flight queued w) → Order r (happens r (with_hand r in_flight queued w) (Follows c role line))
follows_order r w in_flight queued c role line held numbers h =
    let v : Run = with_hand r in_flight queued w in
    either (Order r) (is_ended c w.ended) v (followed r v c role line (admission_after_view r c role line v.proxy)) (λ over. h)
    (λ going. following_cases r c role line v.proxy (λ t. Order r (followed r v c role line t))
    (λ may follows. followed_order r w in_flight queued c role line going may (follows_of r line v.proxy follows) held numbers h)
    (λ may_not none. record { rising = h.rising; past = h.past; order = h.order; after = h.after })
    h)

connects_order : (r : Rules) (w : Run) (in_flight queued : List Request) → Numbers r (with_hand r in_flight queued w) → Order r (with_hand r in_flight queued w) → Order r (happens r (with_hand r in_flight queued w) Connects)
connects_order r w in_flight queued numbers h =
    let v : Run = with_hand r in_flight queued w in
    let n : ℕ = length w.requests in
    let m : ℕ = length w.sent in
    let k : ℕ = w.proxy.number in
    let rising : (c : ℕ) → Rising (places_of c in_flight) = λ c. rising_flight c w.proxy.refused in_flight queued (h.rising c) in
    let past : (g : Answer) → Contains w.answers g → asks_again r g ≡ false → AllByRecursion (λ p. g.sent.place ≤ p) (places_of g.sent.from in_flight) = λ g in_g final. all_flight (λ p. g.sent.place ≤ p) g.sent.from w.proxy.refused in_flight queued (h.past g in_g final) in
    either (Order r) (may_connect v.proxy) (connected r v) v
    (λ may. subst (λ l. Order r (record v { proxy = record (v.proxy) { is_up = true }; sent = w.sent ++ l; wire = l })) (sym (written_of r n false m k in_flight)) (record {
      rising = h.rising;
      past = h.past;
      order = all_order r v numbers h n false k in_flight rising past;
      after = all_after r v numbers h n false k in_flight rising past;
    }))
    (λ may_not. h)

-- ---- the server answers, or its connection breaks

-- the first line of the flight leaves it
first_rising : (k : ℕ) (a : Request) (more queued : List Request) → ((c : ℕ) → Rising (hand c k (a ∷ more) queued)) → (c : ℕ) → Rising (hand c k more queued)
first_rising k a more queued rising c =
    let front : List ℕ = places_of c (take k queued) in
    let back : List ℕ = places_of c (drop k queued) in
    let own : List ℕ = place_if (a.from == c) a.place in
    rising_drop front own (places_of c more ++ back) (subst (λ l. Rising (front ++ l)) (append_assoc own (places_of c more) back) (rising c))

first_all : (k : ℕ) (a : Request) (more queued : List Request) (P : ℕ → Type 0) (c : ℕ) → AllByRecursion P (hand c k (a ∷ more) queued) → AllByRecursion P (hand c k more queued)
first_all k a more queued P c all =
    let front : List ℕ = places_of c (take k queued) in
    let back : List ℕ = places_of c (drop k queued) in
    let own : List ℕ = place_if (a.from == c) a.place in
    all_drop P front own (places_of c more ++ back) (subst (λ l. AllByRecursion P (front ++ l)) (append_assoc own (places_of c more) back) all)

-- those after the first one are younger
younger : (a : Request) (ps : List ℕ) → Rising (place_if (a.from == a.from) a.place ++ ps) → AllByRecursion (λ p. a.place ≤ p) ps
younger a ps rising =
    let here : (a.from == a.from) ≡ true = grind (arith, nat_tests) in
    let up : Rising (a.place ∷ ps) = subst (λ b. Rising (place_if b a.place ++ ps)) here rising in
    all_more (λ q. a.place < q) (λ q. a.place ≤ q) (λ q less. omega (arith, less)) ps up.0

module _ (r : Rules) (w : Run) (answer : List ℕ) (a : Request) (more queued : List Request) (z : Sent) (later : List Sent)
    (h : Order r (with_hand r (a ∷ more) queued w)) (is_wire : w.wire ≡ z ∷ later) (from_a : z.from ≡ a.from) (at_a : z.place ≡ a.place) where
  abbrev new_answer : Answer
  new_answer = record { sent = z; answer = answer; heard = length w.sent }

  answered_order : (v : Run) → v.sent ≡ w.sent → v.answers ≡ w.answers ++ new_answer ∷ [] → v.wire ≡ later → ((c : ℕ) → Rising (hand c v.proxy.refused v.in_flight v.queued))
      → ((g : Answer) → Contains w.answers g → asks_again r g ≡ false → IsPast v.proxy.refused v.in_flight v.queued g)
      → (asks_again r new_answer ≡ false → AllByRecursion (λ p. a.place ≤ p) (hand a.from v.proxy.refused v.in_flight v.queued)) → Order r v
  answered_order v sent answers wire rising past first = record {
    rising = rising;
    past = λ g in_g final. elim (Contains-push_cases w.answers new_answer g (subst (λ l. Contains l g) answers in_g)) [
      | inl old ↦ past g old final
      | inr new ↦ subst (λ (x : Answer). IsPast v.proxy.refused v.in_flight v.queued x) new (subst (λ c. AllByRecursion (λ p. z.place ≤ p) (hand c v.proxy.refused v.in_flight v.queued)) (sym from_a)
          (subst (λ i. AllByRecursion (λ p. i ≤ p) (hand a.from v.proxy.refused v.in_flight v.queued)) (sym at_a) (first (subst (λ (x : Answer). asks_again r x ≡ false) (sym new) final))))
    ];
    order = λ g s in_g final in_s from less. elim (Contains-push_cases w.answers new_answer g (subst (λ l. Contains l g) answers in_g)) [
      | inl old ↦ h.order g s old final (subst (λ l. Contains l s) sent in_s) from less
      | inr new ↦ (
          let same : z ≡ g.sent = ap (λ (x : Answer). x.sent) new in
          let is = (subst (AllByRecursion (IsAfter w.sent)) is_wire h.after).0 s (subst (λ l. Contains l s) sent in_s) (subst (λ (x : Sent). s.from ≡ x.from) (sym same) from) (subst (λ (x : Sent). s.place < x.place) (sym same) less) in
          subst (λ (x : Sent). s.serial < x.serial) same is)
    ];
    after = subst (λ l. AllByRecursion (IsAfter v.sent) l) (sym wire) (subst (λ l. AllByRecursion (IsAfter l) later) (sym sent) (subst (AllByRecursion (IsAfter w.sent)) is_wire h.after).1);
  }

  abbrev now : Run
  now = with_hand r (a ∷ more) queued w

  abbrev k : ℕ
  k = w.proxy.refused

  answers_wire : w.answers ++ answer_of (length w.sent) w.wire answer ≡ w.answers ++ new_answer ∷ []
  answers_wire = ap (λ l. w.answers ++ answer_of (length w.sent) l answer) is_wire

  to_order : places_of a.from (take k queued) ≡ [] → Order r (said r now answer (To a.from))
  to_order oldest = answered_order (said r now answer (To a.from)) refl answers_wire (ap rest is_wire) (first_rising k a more queued h.rising) (λ g in_g final. first_all k a more queued (λ p. g.sent.place ≤ p) g.sent.from (h.past g in_g final))
      (λ final. younger a (hand a.from k more queued) (subst Rising (hand_first a.from k a more queued oldest) (h.rising a.from)))

  ended_order : Order r (said r now answer (Ended a.from))
  ended_order = answered_order (said r now answer (Ended a.from)) refl answers_wire (ap rest is_wire)
      (λ c. rising_without r a.from c k more queued (first_rising k a more queued h.rising c))
      (λ g in_g final. all_without r a.from g.sent.from k more queued (λ p. g.sent.place ≤ p) (first_all k a more queued (λ p. g.sent.place ≤ p) g.sent.from (h.past g in_g final)))
      (λ final. (
      let here : (a.from == a.from) ≡ true = grind (arith, nat_tests) in
      subst (AllByRecursion (λ p. a.place ≤ p)) (sym (hand_own r a.from a.from k more queued here)) (younger a (places_of a.from more) (rising_flight a.from k (a ∷ more) queued (h.rising a.from)))))

  retry_order : k ≤ length queued → asks_again r new_answer ≡ true → Order r (said r now answer (Retry a.from))
  retry_order within asks = answered_order (said r now answer (Retry a.from)) refl answers_wire (ap rest is_wire)
      (λ c. subst Rising (sym (hand_again c k a more queued within)) (h.rising c))
      (λ g in_g final. subst (AllByRecursion (λ p. g.sent.place ≤ p)) (sym (hand_again g.sent.from k a more queued within)) (h.past g in_g final))
      (λ final. absurd (cc (asks, final)))

outcome_order : (r : Rules) (w : Run) (answer : List ℕ) (in_flight queued : List Request) → w.proxy.is_up ≡ true → Holds r (with_hand r in_flight queued w) → Order r (with_hand r in_flight queued w)
    → Order r (said r (with_hand r in_flight queued w) answer (outcome_of r answer w.proxy.is_resent w.proxy.needs_view (is_late (with_hand r in_flight queued w).proxy) (map (pending_of r) in_flight)))
outcome_order r w answer [] queued up held h = record { rising = h.rising; past = h.past; order = h.order; after = tt }
outcome_order r w answer (a ∷ more) queued up held h =
    let v : Run = with_hand r (a ∷ more) queued w in
    let out = held.wire up in
    let z : Sent = sending r out.0 (not w.proxy.is_resent) out.1 (next w.proxy.number) a in
    let later : List Sent = sendings r out.0 (not w.proxy.is_resent) (out.1 + 1) (step (needs_number r a.line) w.proxy.number) more in
    let P : Outcome → Type 0 = λ g. Order r (said r v answer g) in
    let refused : Bool = needs_number r a.line && r.refuses_number answer in
    let unclear : Bool = w.proxy.is_resent && r.is_inconclusive answer in
    let late : Bool = is_late v.proxy a.from in
    either P refused (cond (w.proxy.is_resent || w.proxy.needs_view) (Ended a.from) (Retry a.from)) (cond (unclear || late) (Ended a.from) (To a.from))
    (λ is. either P (w.proxy.is_resent || w.proxy.needs_view) (Ended a.from) (Retry a.from) (λ again. ended_order r w answer a more queued z later h out.2 refl refl)
    (λ new. retry_order r w answer a more queued z later h out.2 refl refl held.within (ap (λ b. not b && refused) (both_false w.proxy.is_resent w.proxy.needs_view new).0 ∙ is)))
    (λ is_not. either P (unclear || late) (Ended a.from) (To a.from) (λ ends. ended_order r w answer a more queued z later h out.2 refl refl)
    (λ in_turn. to_order r w answer a more queued z later h out.2 refl refl (none_late r a.from w.proxy.refused queued (both_false unclear late in_turn).1)))

answers_order : (r : Rules) (w : Run) (in_flight queued : List Request) (answer : List ℕ) → Holds r (with_hand r in_flight queued w) → Order r (with_hand r in_flight queued w) → Order r (happens r (with_hand r in_flight queued w) (Answers answer))
answers_order r w in_flight queued answer held h =
    let v : Run = with_hand r in_flight queued w in
    either (Order r) w.proxy.is_up (said r v answer (outcome r answer v.proxy)) v
    (λ up. (
    let is : outcome r answer v.proxy ≡ outcome_of r answer w.proxy.is_resent w.proxy.needs_view (is_late v.proxy) (map (pending_of r) in_flight) = ap (λ b. cond b (outcome_of r answer w.proxy.is_resent w.proxy.needs_view (is_late v.proxy) (map (pending_of r) in_flight)) Unsolicited) up in
    subst (λ g. Order r (said r v answer g)) (sym is) (outcome_order r w answer in_flight queued up held h)))
    (λ down. h)

breaks_order : (r : Rules) (w : Run) (in_flight queued : List Request) → Order r (with_hand r in_flight queued w) → Order r (happens r (with_hand r in_flight queued w) Breaks)
breaks_order r w [] queued h = record { rising = h.rising; past = h.past; order = h.order; after = tt }
breaks_order r w (a ∷ more) queued h =
    either (λ l. Order r (broke (with_hand r (a ∷ more) queued w) l)) (r.is_once a.line) (Some a.from) None
    (λ once. record {
      rising = λ c. rising_without r a.from c w.proxy.refused more queued (first_rising w.proxy.refused a more queued h.rising c);
      past = λ g in_g final. all_without r a.from g.sent.from w.proxy.refused more queued (λ p. g.sent.place ≤ p) (first_all w.proxy.refused a more queued (λ p. g.sent.place ≤ p) g.sent.from (h.past g in_g final));
      order = h.order;
      after = tt;
    })
    (λ twice. record { rising = h.rising; past = h.past; order = h.order; after = tt })

-- ---- an order is taken back

taken_first : (r : Rules) (w : Run) (a : Request) (more queued : List Request) → Order r (with_hand r (a ∷ more) queued w) → Order r (took (with_hand r (a ∷ more) queued w) (Some (next w.proxy.number)))
taken_first r w a more queued h = record {
  rising = λ c. rising_without r a.from c w.proxy.refused more queued (first_rising w.proxy.refused a more queued h.rising c);
  past = λ g in_g final. all_without r a.from g.sent.from w.proxy.refused more queued (λ p. g.sent.place ≤ p) (first_all w.proxy.refused a more queued (λ p. g.sent.place ≤ p) g.sent.from (h.past g in_g final));
  order = h.order;
  after = h.after;
}

takes_order : (r : Rules) (w : Run) (in_flight queued : List Request) (c : ℕ) → Order r (with_hand r in_flight queued w) → Order r (happens r (with_hand r in_flight queued w) (TakesBack c))
takes_order r w in_flight queued c h =
    let v : Run = with_hand r in_flight queued w in
    either (λ t. Order r (took v t)) w.proxy.is_up None (cond (begins_order c (map (pending_of r) in_flight)) (Some (next w.proxy.number)) None) (λ up. h)
    (λ down. either (λ t. Order r (took v t)) (begins_order c (map (pending_of r) in_flight)) (Some (next w.proxy.number)) None (λ begins. taken_cases r w in_flight queued c begins h) (λ other. h))
  where
    taken_cases : (r : Rules) (w : Run) (in_flight queued : List Request) (c : ℕ) → begins_order c (map (pending_of r) in_flight) ≡ true → Order r (with_hand r in_flight queued w) → Order r (took (with_hand r in_flight queued w) (Some (next w.proxy.number)))
    taken_cases r w [] queued c begins h = absurd (cc begins)
    taken_cases r w (a ∷ more) queued c begins h = taken_first r w a more queued h

-- ---- a whole run

hand_order : (r : Rules) (w : Run) (in_flight queued : List Request) (event : Event) → Holds r (with_hand r in_flight queued w) → Numbers r (with_hand r in_flight queued w) → Order r (with_hand r in_flight queued w) → Order r (happens r (with_hand r in_flight queued w) event)
hand_order r w in_flight queued (Arrives c role line) held numbers h = arrives_order r (with_hand r in_flight queued w) c role line held numbers h
hand_order r w in_flight queued (Leaves c) held numbers h = leaves_order r w in_flight queued c h
hand_order r w in_flight queued (Follows c role line) held numbers h = follows_order r w in_flight queued c role line held numbers h
hand_order r w in_flight queued (Flies picks) held numbers h = flies_order r w in_flight queued picks held numbers h
hand_order r w in_flight queued (Answers answer) held numbers h = answers_order r w in_flight queued answer held h
hand_order r w in_flight queued Breaks held numbers h = breaks_order r w in_flight queued h
hand_order r w in_flight queued (TakesBack c) held numbers h = takes_order r w in_flight queued c h
hand_order r w in_flight queued Connects held numbers h = connects_order r w in_flight queued numbers h
hand_order r w in_flight queued (Counts last) held numbers h = record { rising = h.rising; past = h.past; order = h.order; after = h.after }

happens_order : (r : Rules) (w : Run) (event : Event) → Holds r w → Numbers r w → Order r w → Order r (happens r w event)
happens_order r w event held numbers h =
    let with : (List Pending × List Pending) → Run = λ p. record w { proxy = record (w.proxy) { flight = p.0; waiting = p.1 } } in
    let same : (w.proxy.flight, w.proxy.waiting) ≡ (map (pending_of r) w.in_flight, map (pending_of r) w.queued) = cc (held.flying, held.waiting) in
    subst (λ p. Order r (happens r (with p) event)) (sym same) (hand_order r w w.in_flight w.queued event (subst (λ p. Holds r (with p)) same held) (subst (λ p. Numbers r (with p)) same numbers) (subst (λ p. Order r (with p)) same h))

pub run_order : (r : Rules) (w : Run) (events : List Event) → Holds r w → Numbers r w → Order r w → Order r (run r w events)
run_order r w [] held numbers h = h
run_order r w (event ∷ events) held numbers h = run_order r (happens r w event) events (happens_holds r w event held) (happens_numbers r w event held numbers) (happens_order r w event held numbers h)
