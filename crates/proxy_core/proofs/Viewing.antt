-- What every event keeps of the lines that need a view.
use Rattle.std.proofs.Common.{◌≡◌, ℕ, ◌+◌, ◌≤◌, ◌<◌, ◌==◌, ◌&&◌, ◌||◌, not, nat_lt, Bool, true, false, List, [], ◌∷◌, ◌++◌, Option, Some, None, length, length-append, map, refl, sym, ap, subst, ◌∙◌, arith, inl, inr, cond, Contains}
use Rattle.std.specs.List.{AllByRecursion, list_all}
use Rattle.std.proofs.lemmas.Bool.Decides.{nat_tests}
use Rattle.std.proofs.lemmas.List.Elements.{Contains-append_cases, Contains-append_left, Contains-push, Contains-push_cases}
use Rattle.proxy_core.specs.declared.proxy.Admission.{Admission}
use Rattle.proxy_core.specs.declared.proxy.Admission.TheVariants.{Queued, Denied, Deferred}
use Rattle.proxy_core.specs.declared.proxy.Outcome.{Outcome}
use Rattle.proxy_core.specs.declared.proxy.Outcome.TheVariants.{To, Ended, Retry, Unsolicited}
use Rattle.proxy_core.specs.Rules.{Rules, next, needs_number}
use Rattle.proxy_core.specs.Pending.{Pending, step}
use Rattle.proxy_core.specs.Machine.{Proxy, admission, admission_after_view, after_first_answer, flown, held, is_alike, is_flight, is_in_turn, is_late, is_none, is_permitted, is_ready, left, lost, may_connect, may_go, outcome, outcome_of, picked, put_back, rest, sender_of, taken_back, view_after, without_connection}
use Rattle.proxy_core.specs.Run.{Request, Sent, Delivery, Answer, Run, Event, Arrives, Leaves, Flies, Follows, Answers, Breaks, TakesBack, Connects, Counts, answer_of, broke, came, connected, delivered_too, followed, happens, is_ended, new_run, next_request, run, said, took, went, without, written}
use Rattle.proxy_core.specs.Numbers.{AreSerial}
use Rattle.proxy_core.specs.Promises.{AreNumbered, pending_of, sending, sendings}
use Rattle.proxy_core.specs.Views.{IsPermitted}
use Rattle.proxy_core.proofs.Lists.{all_append, all_filter, all_left, all_picked, all_put, both_false, both_true, either, picked_pending_of, written_of}
use Rattle.proxy_core.proofs.Sendings.{all_at, cons_cases, is_of, serial_sendings}
use Rattle.proxy_core.proofs.Holding.{FollowsNow, Holds, IsGood, empty_of, following_cases, follows_of, happens_holds, is_down, with_hand}
use Rattle.proxy_core.proofs.Numbering.{none_sent}

-- ---- requests by their places

place_from : (n : ℕ) (xs : List Request) (a : Request) → AreNumbered n xs → Contains xs a → n ≤ a.place
place_from n [] a all in_it = (let less = in_it.1 in absurd (omega (arith, less)))
place_from n (x ∷ xs) a all in_it = elim (cons_cases x a xs in_it) [
  | inl same ↦ (let at = all.0 in let e : x.place ≡ a.place = ap (λ (y : Request). y.place) same in omega (arith, at, e))
  | inr more ↦ (let low = place_from (n + 1) xs a all.1 more in omega (arith, low))
]

same_request : (n : ℕ) (xs : List Request) (a b : Request) → AreNumbered n xs → Contains xs a → Contains xs b → a.place ≡ b.place → a ≡ b
same_request n [] a b all in_a in_b same = (let less = in_a.1 in absurd (omega (arith, less)))
same_request n (x ∷ xs) a b all in_a in_b same =
    let at = all.0 in
    elim (cons_cases x a xs in_a) [
      | inl is_a ↦ elim (cons_cases x b xs in_b) [
        | inl is_b ↦ sym is_a ∙ is_b
        | inr more ↦ (let low = place_from (n + 1) xs b all.1 more in let e : x.place ≡ a.place = ap (λ (y : Request). y.place) is_a in absurd (omega (arith, at, e, low, same)))
      ]
      | inr more_a ↦ elim (cons_cases x b xs in_b) [
        | inl is_b ↦ (let low = place_from (n + 1) xs a all.1 more_a in let e : x.place ≡ b.place = ap (λ (y : Request). y.place) is_b in absurd (omega (arith, at, e, low, same)))
        | inr more_b ↦ same_request (n + 1) xs a b all.1 more_a more_b same
      ]
    ]

-- ---- what is kept

-- a request that needs no view
abbrev pub IsFree : Rules → Request → Type 0
IsFree r a = r.needs_view a.line ≡ false

-- an answer is the one to the last line, and nothing was written since it was heard
pub record IsLast (answers : List Answer) (written : ℕ) (view : List ℕ) : Type 0 where
  pub heard : Answer
  pub in_it : Contains answers heard
  pub answer : heard.answer ≡ view
  pub last : heard.sent.serial + 1 ≡ written
  pub now : heard.heard ≡ written

-- the lines without an answer are the last ones that were written
abbrev pub AreLast : List Sent → List Sent → Type 0
AreLast sent wire = (n : ℕ) × AreSerial n wire × (n + length wire ≡ length sent)

abbrev pub Follow : Rules → List Sent → List Request → List Answer → Type 0
Follow r sent requests answers = (s : Sent) (ask : Request) → Contains sent s → Contains requests ask → ask.place ≡ s.place → r.needs_view ask.line ≡ true → IsPermitted r answers s ask.line

pub record Views (r : Rules) (w : Run) : Type 0 where
  pub wire : AreLast w.sent w.wire
  pub down : w.proxy.is_up ≡ false → w.proxy.view ≡ None
  pub view : (v : List ℕ) → w.proxy.view ≡ Some v → IsLast w.answers (length w.sent) v
  pub queued : AllByRecursion (IsFree r) w.queued
  pub in_flight : w.proxy.needs_view ≡ false → AllByRecursion (IsFree r) w.in_flight
  pub follow : Follow r w.sent w.requests w.answers

pub begins : (r : Rules) → Views r new_run
begins r = record {
  wire = (0, tt, refl);
  down = λ is. refl;
  view = λ v is. absurd (cc is);
  queued = tt;
  in_flight = λ is. tt;
  follow = λ s ask in_s in_a at needs. (let less = in_s.1 in absurd (omega (arith, less)));
}

all_rest : (P : Request → Type 0) (xs : List Request) → AllByRecursion P xs → AllByRecursion P (rest xs)
all_rest P [] all = tt
all_rest P (x ∷ xs) all = all.1

more_permitted : (r : Rules) (answers more : List Answer) (s : Sent) (line : List ℕ) → IsPermitted r answers s line → IsPermitted r (answers ++ more) s line
more_permitted r answers more s line is = record { view = is.view; was_heard = Contains-append_left answers more is.view is.was_heard; just_before = is.just_before; in_time = is.in_time; permits = is.permits }

-- ---- a line arrives, or a connection ends

-- nothing was sent for a new request
asked_follow : (r : Rules) (w : Run) (a : Request) → Holds r w → a.place ≡ length w.requests → Follow r w.sent w.requests w.answers → Follow r w.sent (w.requests ++ a ∷ []) w.answers
asked_follow r w a held new follow s ask in_s in_a at needs = elim (Contains-push_cases w.requests a ask in_a) [
  | inl old ↦ follow s ask in_s old at needs
  | inr same ↦ (let less = none_sent r w held s in_s in let e : a.place ≡ ask.place = ap (λ (y : Request). y.place) same in absurd (omega (arith, less, at, e, new)))
]

free_cases : (r : Rules) (c role : ℕ) (line : List ℕ) (f : Proxy) (P : Admission → Type 0) → (r.needs_view line ≡ false → P Queued) → P Denied → P Deferred → P (admission r c role line f)
free_cases r c role line f P queued denied later =
    either P (r.allows role line) (cond (not (r.needs_view line) && nat_lt (held c f) 64) Queued Deferred) (cond (held c f == 0) Denied Deferred)
    (λ may. either P (not (r.needs_view line) && nat_lt (held c f) 64) Queued Deferred (λ waits. queued (needs_none (r.needs_view line) (both_true (not (r.needs_view line)) (nat_lt (held c f) 64) waits).0)) (λ full. later))
    (λ may_not. either P (held c f == 0) Denied Deferred (λ none. denied) (λ some. later))
  where
    needs_none : (needs : Bool) → not needs ≡ true → needs ≡ false
    needs_none true is = absurd (cc is)
    needs_none false is = refl

denied_views : (r : Rules) (w : Run) (c role : ℕ) (line : List ℕ) → Holds r w → Views r w → Views r (came r w c role line Denied)
denied_views r w c role line held h = record {
  wire = h.wire;
  down = h.down;
  view = h.view;
  queued = h.queued;
  in_flight = h.in_flight;
  follow = asked_follow r w (next_request w c role line) held refl h.follow;
}

arrives_views : (r : Rules) (w : Run) (c role : ℕ) (line : List ℕ) → Holds r w → Views r w → Views r (happens r w (Arrives c role line))
arrives_views r w c role line held h =
    either (Views r) (is_ended c w.ended) w (came r w c role line (admission r c role line w.proxy)) (λ over. h)
    (λ going. free_cases r c role line w.proxy (λ t. Views r (came r w c role line t))
    (λ free. record {
      wire = h.wire;
      down = h.down;
      view = h.view;
      queued = all_append (IsFree r) w.queued (next_request w c role line ∷ []) h.queued (free, tt);
      in_flight = h.in_flight;
      follow = asked_follow r w (next_request w c role line) held refl h.follow;
    })
    (denied_views r w c role line held h)
    (record { wire = h.wire; down = h.down; view = h.view; queued = h.queued; in_flight = h.in_flight; follow = h.follow }))

leaves_views : (r : Rules) (w : Run) (c : ℕ) → Views r w → Views r (happens r w (Leaves c))
leaves_views r w c h = record {
  wire = h.wire;
  down = h.down;
  view = h.view;
  queued = all_filter (IsFree r) (λ (a : Request). not (a.from == c)) w.queued h.queued;
  in_flight = h.in_flight;
  follow = h.follow;
}

-- ---- lines are written

-- what a flight needs beside the connection and no other flight
abbrev may_fly : List Bool → Proxy → Bool
may_fly picks f = is_flight (picked picks f.waiting) && (is_alike (picked picks f.waiting) && (is_in_turn [] picks f.waiting && list_all (is_ready f.is_counted) (picked picks f.waiting)))

-- lines of requests that need no view
sent_follow : (r : Rules) (w : Run) (n : ℕ) (first : Bool) (m k : ℕ) (xs : List Request) → Holds r w → AllByRecursion (IsGood r w.requests) xs → AllByRecursion (IsFree r) xs
    → Follow r w.sent w.requests w.answers → Follow r (w.sent ++ sendings r n first m k xs) w.requests w.answers
sent_follow r w n first m k xs held good free follow s ask in_s in_a at needs = elim (Contains-append_cases w.sent (sendings r n first m k xs) s in_s) [
  | inl old ↦ follow s ask old in_a at needs
  | inr new ↦ (
      let o = is_of r n first m k xs s new in
      let known : IsGood r w.requests o.ask = all_at (IsGood r w.requests) xs o.ask good o.in_it in
      let same : o.ask ≡ ask = same_request 0 w.requests o.ask ask held.numbered known.requested in_a (o.place ∙ sym at) in
      let none : r.needs_view ask.line ≡ false = subst (λ (x : Request). r.needs_view x.line ≡ false) same (all_at (IsFree r) xs o.ask free o.in_it) in
      absurd (cc (needs, none)))
]

last_written : (r : Rules) (n : ℕ) (first : Bool) (k : ℕ) (sent : List Sent) (xs : List Request) → AreLast (sent ++ sendings r n first (length sent) k xs) (sendings r n first (length sent) k xs)
last_written r n first k sent xs = (length sent, serial_sendings r n first (length sent) k xs, sym (length-append sent (sendings r n first (length sent) k xs)))

went_views : (r : Rules) (w : Run) (in_flight queued : List Request) (picks : List Bool) → may_go picks (with_hand r in_flight queued w).proxy ≡ true → Holds r (with_hand r in_flight queued w) → Views r (with_hand r in_flight queued w) → Views r (went r picks (with_hand r in_flight queued w))
went_views r w (a ∷ more) queued picks may held h =
    let f : Proxy = (with_hand r (a ∷ more) queued w).proxy in
    let p = both_true f.is_up (false && may_fly picks f) may in
    absurd (cc p.1)
went_views r w [] queued picks may held h =
    let v : Run = with_hand r [] queued w in
    let f : Proxy = v.proxy in
    let xs : List Request = picked picks queued in
    let n : ℕ = length w.requests in
    let m : ℕ = length w.sent in
    let sends : List Sent = sendings r n true m f.last xs in
    let out = held.wire (both_true f.is_up (true && may_fly picks f) may).0 in
    let clear : w.wire ≡ [] = out.2 in
    let wrote : written r n true m f.last xs (picked picks f.waiting) ≡ sends = ap (written r n true m f.last xs) (picked_pending_of r picks queued) ∙ written_of r n true m f.last xs in
    subst (λ l. Views r (record w { proxy = flown picks f; in_flight = xs; queued = left picks queued; sent = w.sent ++ l; wire = w.wire ++ l })) (sym wrote) (record {
      wire = subst (λ l. AreLast (w.sent ++ sends) (l ++ sends)) (sym clear) (last_written r n true f.last w.sent xs);
      down = λ is. refl;
      view = λ v is. absurd (cc is);
      queued = all_left (IsFree r) picks queued h.queued;
      in_flight = λ is. all_picked (IsFree r) picks queued h.queued;
      follow = sent_follow r v n true m f.last xs held (all_picked (IsGood r w.requests) picks queued held.queued) (all_picked (IsFree r) picks queued h.queued) h.follow;
    })

flies_views : (r : Rules) (w : Run) (in_flight queued : List Request) (picks : List Bool) → Holds r (with_hand r in_flight queued w) → Views r (with_hand r in_flight queued w) → Views r (happens r (with_hand r in_flight queued w) (Flies picks))
flies_views r w in_flight queued picks held h =
    let v : Run = with_hand r in_flight queued w in
    either (Views r) (may_go picks v.proxy) (went r picks v) v (λ may. went_views r w in_flight queued picks may held h) (λ may_not. h)

-- ---- a line that needs a view is sent

-- it is permitted by the last answer
permitted : (r : Rules) (answers : List Answer) (view : Option (List ℕ)) (s : Sent) (line : List ℕ) → is_permitted r view line ≡ true → ((v : List ℕ) → view ≡ Some v → IsLast answers s.serial v) → IsPermitted r answers s line
permitted r answers None s line is last = absurd (cc is)
permitted r answers (Some v) s line is last =
    let l = last v refl in
    record { view = l.heard; was_heard = l.in_it; just_before = l.last; in_time = l.now; permits = subst (λ x. r.permits x line ≡ true) (sym l.answer) is }

followed_views : (r : Rules) (w : Run) (in_flight queued : List Request) (c role : ℕ) (line : List ℕ) → FollowsNow r line (with_hand r in_flight queued w).proxy
    → Holds r (with_hand r in_flight queued w) → Views r (with_hand r in_flight queued w) → Views r (followed r (with_hand r in_flight queued w) c role line Queued)
followed_views r w (a ∷ more) queued c role line now held h = (let none : false ≡ true = now.none_flies in absurd (cc none))
followed_views r w [] (a ∷ more) c role line now held h = (let none : false ≡ true = now.none_waits in absurd (cc none))
followed_views r w [] [] c role line now held h =
    let v : Run = with_hand r [] [] w in
    let a : Request = next_request w c role line in
    let out = held.wire now.up in
    let clear : w.wire ≡ [] = out.2 in
    let n : ℕ = length (w.requests ++ a ∷ []) in
    let z : Sent = sending r n true (length w.sent) (next w.proxy.last) a in
    record {
      wire = subst (λ l. AreLast (w.sent ++ z ∷ []) (l ++ z ∷ [])) (sym clear) (last_written r n true w.proxy.last w.sent (a ∷ []));
      down = λ is. refl;
      view = λ v is. absurd (cc is);
      queued = tt;
      in_flight = λ is. absurd (cc is);
      follow = λ s ask in_s in_a at needs. elim (Contains-push_cases w.sent z s in_s) [
        | inl old ↦ asked_follow r v a held refl h.follow s ask old in_a at needs
        | inr is_z ↦ elim (Contains-push_cases w.requests a ask in_a) [
          | inl early ↦ (let low = place_less w.requests ask held.numbered early in let e : z.place ≡ s.place = ap (λ (y : Sent). y.place) is_z in absurd (omega (arith, low, e, at)))
          | inr is_a ↦ subst (λ (x : Sent). IsPermitted r w.answers x ask.line) is_z (subst (λ (x : Request). IsPermitted r w.answers z x.line) is_a (permitted r w.answers w.proxy.view z line now.permitted h.view))
        ]
      ];
    }
  where
    place_under : (n : ℕ) (xs : List Request) (x : Request) → AreNumbered n xs → Contains xs x → x.place < n + length xs
    place_under n [] x all in_it = (let less = in_it.1 in absurd (omega (arith, less)))
    place_under n (y ∷ ys) x all in_it = elim (cons_cases y x ys in_it) [
      | inl same ↦ (let at = all.0 in let e : y.place ≡ x.place = ap (λ (b : Request). b.place) same in omega (arith, at, e))
      | inr more ↦ (let less = place_under (n + 1) ys x all.1 more in omega (arith, less))
    ]

    place_less : (xs : List Request) (x : Request) → AreNumbered 0 xs → Contains xs x → x.place < length xs
    place_less xs x all in_it = (let less = place_under 0 xs x all in_it in omega (arith, less))

follows_views : (r : Rules) (w : Run) (in_flight queued : List Request) (c role : ℕ) (line : List ℕ) → Holds r (with_hand r in_flight queued w) → Views r (with_hand r in_flight queued w) → Views r (happens r (with_hand r in_flight queued w) (Follows c role line))
follows_views r w in_flight queued c role line held h =
    let v : Run = with_hand r in_flight queued w in
    either (Views r) (is_ended c w.ended) v (followed r v c role line (admission_after_view r c role line v.proxy)) (λ over. h)
    (λ going. following_cases r c role line v.proxy (λ t. Views r (followed r v c role line t))
    (λ may follows. followed_views r w in_flight queued c role line (follows_of r line v.proxy follows) held h)
    (λ may_not none. denied_views r v c role line held h)
    h)

-- ---- the server answers

module _ (r : Rules) (w : Run) (answer : List ℕ) (a : Request) (more queued : List Request) (z : Sent) (later : List Sent)
    (h : Views r (with_hand r (a ∷ more) queued w)) (is_wire : w.wire ≡ z ∷ later) (up : w.proxy.is_up ≡ true) (last_of : more ≡ [] → later ≡ []) where
  abbrev answered : Answer
  answered = record { sent = z; answer = answer; heard = length w.sent }

  abbrev flight : List Pending
  flight = map (pending_of r) (a ∷ more)

  is_last : AreLast w.sent (z ∷ later)
  is_last = subst (AreLast w.sent) is_wire h.wire

  -- the answer to the last line is the view
  only_one : (query : Bool) (xs : List Request) (v : List ℕ) → cond (query && (length (map (pending_of r) (a ∷ xs)) == 1)) (Some answer) None ≡ Some v → (xs ≡ []) × (answer ≡ v)
  only_one true [] v is = (refl, cc is)
  only_one true (x ∷ xs) v is = (
      let no : (length (map (pending_of r) (a ∷ x ∷ xs)) == 1) ≡ false = grind (arith, nat_tests) in
      let none : None ≡ Some v = sym (ap (λ b. cond b (Some answer) None) no) ∙ is in
      absurd (cc none))
  only_one false xs v is = absurd (cc is)

  last_view : (v : List ℕ) → view_after answer flight ≡ Some v → IsLast (w.answers ++ answered ∷ []) (length w.sent) v
  last_view v is =
      let one = only_one (r.is_query a.line) more v is in
      let low = is_last.1.0 in
      let long = is_last.2 in
      let none : length later ≡ 0 = ap (λ (l : List Sent). length l) (last_of one.0) in
      record { heard = answered; in_it = Contains-push w.answers answered; answer = one.1; last = omega (arith, low, long, none); now = refl }

  -- the first line has its answer
  abbrev dropped : Proxy → List Request → List Delivery → List ℕ → Run
  dropped f rest delivered ended = record w { proxy = f; in_flight = more; queued = rest; delivered = delivered; ended = ended; wire = later; answers = w.answers ++ answered ∷ [] }

  dropped_views : (f : Proxy) (rest : List Request) (delivered : List Delivery) (ended : List ℕ) → f.is_up ≡ w.proxy.is_up → f.needs_view ≡ w.proxy.needs_view → f.view ≡ view_after answer flight → AllByRecursion (IsFree r) rest → Views r (dropped f rest delivered ended)
  dropped_views f rest delivered ended same_up same_needs same_view free = record {
    wire = (let long = is_last.2 in (is_last.0 + 1, is_last.1.1, omega (arith, long)));
    down = λ is. absurd (cc (is, same_up, up));
    view = λ v is. last_view v (sym same_view ∙ is);
    queued = free;
    in_flight = λ is. (h.in_flight (sym same_needs ∙ is)).1;
    follow = λ s ask in_s in_a at needs. more_permitted r w.answers (answered ∷ []) s ask.line (h.follow s ask in_s in_a at needs);
  }

  abbrev after : Outcome → Run
  after o = said r (with_hand r (a ∷ more) queued w) answer o

  abbrev now : Proxy
  now = (with_hand r (a ∷ more) queued w).proxy

  to_views : Views r (after (To a.from))
  to_views =
      subst (λ l. Views r (record (with_hand r (a ∷ more) queued w) { proxy = after_first_answer r answer now; in_flight = more; delivered = delivered_too w.ended w.delivered a.from a.place answer; wire = rest l; answers = w.answers ++ answer_of (length w.sent) l answer })) (sym is_wire)
      (dropped_views (after_first_answer r answer now) queued (delivered_too w.ended w.delivered a.from a.place answer) w.ended refl refl refl h.queued)

  ended_views : Views r (after (Ended a.from))
  ended_views =
      subst (λ l. Views r (record (with_hand r (a ∷ more) queued w) { proxy = without_connection a.from (after_first_answer r answer now); in_flight = more; queued = without a.from queued; ended = a.from ∷ w.ended; wire = rest l; answers = w.answers ++ answer_of (length w.sent) l answer })) (sym is_wire)
      (dropped_views (without_connection a.from (after_first_answer r answer now)) (without a.from queued) w.delivered (a.from ∷ w.ended) refl refl refl (all_filter (IsFree r) (λ (x : Request). not (x.from == a.from)) queued h.queued))

  retry_views : w.proxy.needs_view ≡ false → Views r (after (Retry a.from))
  retry_views free =
      let f : Proxy = record (after_first_answer r answer now) { waiting = put_back w.proxy.refused (pending_of r a ∷ []) (map (pending_of r) queued); refused = w.proxy.refused + 1 } in
      subst (λ l. Views r (record (with_hand r (a ∷ more) queued w) { proxy = record (after_first_answer r answer now) { waiting = put_back w.proxy.refused (pending_of r a ∷ []) (map (pending_of r) queued); refused = w.proxy.refused + 1 }; in_flight = more; queued = put_back w.proxy.refused (a ∷ []) queued; wire = rest l; answers = w.answers ++ answer_of (length w.sent) l answer })) (sym is_wire)
      (dropped_views f (put_back w.proxy.refused (a ∷ []) queued) w.delivered w.ended refl refl refl (all_put (IsFree r) w.proxy.refused a queued h.queued (h.in_flight free).0))

none_later : (r : Rules) (n : ℕ) (first : Bool) (m k : ℕ) (more : List Request) → more ≡ [] → sendings r n first m k more ≡ []
none_later r n first m k more none = ap (sendings r n first m k) none

unsolicited_views : (r : Rules) (w : Run) (answer : List ℕ) (queued : List Request) → Views r (with_hand r [] queued w) → Views r (said r (with_hand r [] queued w) answer Unsolicited)
unsolicited_views r w answer queued h = record {
  wire = (length w.sent, tt, omega arith);
  down = λ is. refl;
  view = λ v is. absurd (cc is);
  queued = h.queued;
  in_flight = λ is. tt;
  follow = h.follow;
}

outcome_views : (r : Rules) (w : Run) (answer : List ℕ) (in_flight queued : List Request) → w.proxy.is_up ≡ true → Holds r (with_hand r in_flight queued w) → Views r (with_hand r in_flight queued w)
    → Views r (said r (with_hand r in_flight queued w) answer (outcome_of r answer w.proxy.is_resent w.proxy.needs_view (is_late (with_hand r in_flight queued w).proxy) (map (pending_of r) in_flight)))
outcome_views r w answer [] queued up held h = unsolicited_views r w answer queued h
outcome_views r w answer (a ∷ more) queued up held h =
    let v : Run = with_hand r (a ∷ more) queued w in
    let out = held.wire up in
    let first : Bool = not w.proxy.is_resent in
    let k : ℕ = step (needs_number r a.line) w.proxy.number in
    let z : Sent = sending r out.0 first out.1 (next w.proxy.number) a in
    let later : List Sent = sendings r out.0 first (out.1 + 1) k more in
    let is_wire : w.wire ≡ z ∷ later = out.2 in
    let last_of : more ≡ [] → later ≡ [] = none_later r out.0 first (out.1 + 1) k more in
    let P : Outcome → Type 0 = λ g. Views r (said r v answer g) in
    let refused : Bool = needs_number r a.line && r.refuses_number answer in
    let unclear : Bool = w.proxy.is_resent && r.is_inconclusive answer in
    let late : Bool = is_late v.proxy a.from in
    either P refused (cond (w.proxy.is_resent || w.proxy.needs_view) (Ended a.from) (Retry a.from)) (cond (unclear || late) (Ended a.from) (To a.from))
    (λ is. either P (w.proxy.is_resent || w.proxy.needs_view) (Ended a.from) (Retry a.from) (λ again. ended_views r w answer a more queued z later h is_wire up last_of)
    (λ new. retry_views r w answer a more queued z later h is_wire up last_of (both_false w.proxy.is_resent w.proxy.needs_view new).1))
    (λ is_not. either P (unclear || late) (Ended a.from) (To a.from) (λ ends. ended_views r w answer a more queued z later h is_wire up last_of)
    (λ in_turn. to_views r w answer a more queued z later h is_wire up last_of))

answers_views : (r : Rules) (w : Run) (in_flight queued : List Request) (answer : List ℕ) → Holds r (with_hand r in_flight queued w) → Views r (with_hand r in_flight queued w) → Views r (happens r (with_hand r in_flight queued w) (Answers answer))
answers_views r w in_flight queued answer held h =
    let v : Run = with_hand r in_flight queued w in
    let heard_now : Outcome = outcome_of r answer w.proxy.is_resent w.proxy.needs_view (is_late v.proxy) (map (pending_of r) in_flight) in
    either (Views r) w.proxy.is_up (said r v answer (outcome r answer v.proxy)) v
    (λ up. (let is : outcome r answer v.proxy ≡ heard_now = ap (λ b. cond b heard_now Unsolicited) up in subst (λ g. Views r (said r v answer g)) (sym is) (outcome_views r w answer in_flight queued up held h)))
    (λ down. h)

-- ---- the server's connection breaks, an order is taken back, and there is a new connection

breaks_views : (r : Rules) (w : Run) → Views r w → Views r (happens r w Breaks)
breaks_views r w h = elim (lost w.proxy) as (λ l. Views r (broke w l)) [
  | None ↦ record {
    wire = (length w.sent, tt, omega arith);
    down = λ is. refl;
    view = λ v is. absurd (cc is);
    queued = h.queued;
    in_flight = h.in_flight;
    follow = h.follow;
  }
  | Some c ↦ record {
    wire = (length w.sent, tt, omega arith);
    down = λ is. refl;
    view = λ v is. absurd (cc is);
    queued = all_filter (IsFree r) (λ (a : Request). not (a.from == c)) w.queued h.queued;
    in_flight = λ is. all_rest (IsFree r) w.in_flight (h.in_flight is);
    follow = h.follow;
  }
]

takes_views : (r : Rules) (w : Run) (c : ℕ) → Views r w → Views r (happens r w (TakesBack c))
takes_views r w c h = elim (taken_back c w.proxy) as (λ t. Views r (took w t)) [
  | None ↦ h
  | Some number ↦ record {
    wire = h.wire;
    down = h.down;
    view = h.view;
    queued = all_filter (IsFree r) (λ (a : Request). not (a.from == sender_of w.proxy.flight)) w.queued h.queued;
    in_flight = λ is. all_rest (IsFree r) w.in_flight (h.in_flight is);
    follow = h.follow;
  }
]

connected_views : (r : Rules) (w : Run) (in_flight queued : List Request) → may_connect (with_hand r in_flight queued w).proxy ≡ true → Holds r (with_hand r in_flight queued w) → Views r (with_hand r in_flight queued w) → Views r (connected r (with_hand r in_flight queued w))
connected_views r w in_flight queued may held h =
    let v : Run = with_hand r in_flight queued w in
    let n : ℕ = length w.requests in
    let m : ℕ = length w.sent in
    let k : ℕ = w.proxy.number in
    let none : w.proxy.view ≡ None = h.down (is_down v.proxy may) in
    let free : AllByRecursion (IsFree r) in_flight = free_flight w.proxy.needs_view in_flight (both_true (not w.proxy.is_up) (not w.proxy.needs_view || is_none (map (pending_of r) in_flight)) may).1 h.in_flight in
    subst (λ l. Views r (record v { proxy = record (v.proxy) { is_up = true }; sent = w.sent ++ l; wire = l })) (sym (written_of r n false m k in_flight)) (record {
      wire = last_written r n false k w.sent in_flight;
      down = λ is. absurd (cc is);
      view = λ u is. absurd (cc (none, is));
      queued = h.queued;
      in_flight = h.in_flight;
      follow = sent_follow r v n false m k in_flight held held.in_flight free h.follow;
    })
  where
    free_flight : (needs : Bool) (xs : List Request) → (not needs || is_none (map (pending_of r) xs)) ≡ true → (needs ≡ false → AllByRecursion (IsFree r) xs) → AllByRecursion (IsFree r) xs
    free_flight false xs is all = all refl
    free_flight true xs is all = subst (AllByRecursion (IsFree r)) (sym (empty_of r xs is)) tt

connects_views : (r : Rules) (w : Run) (in_flight queued : List Request) → Holds r (with_hand r in_flight queued w) → Views r (with_hand r in_flight queued w) → Views r (happens r (with_hand r in_flight queued w) Connects)
connects_views r w in_flight queued held h =
    let v : Run = with_hand r in_flight queued w in
    either (Views r) (may_connect v.proxy) (connected r v) v (λ may. connected_views r w in_flight queued may held h) (λ may_not. h)

-- ---- a whole run

hand_views : (r : Rules) (w : Run) (in_flight queued : List Request) (event : Event) → Holds r (with_hand r in_flight queued w) → Views r (with_hand r in_flight queued w) → Views r (happens r (with_hand r in_flight queued w) event)
hand_views r w in_flight queued (Arrives c role line) held h = arrives_views r (with_hand r in_flight queued w) c role line held h
hand_views r w in_flight queued (Leaves c) held h = leaves_views r (with_hand r in_flight queued w) c h
hand_views r w in_flight queued (Flies picks) held h = flies_views r w in_flight queued picks held h
hand_views r w in_flight queued (Follows c role line) held h = follows_views r w in_flight queued c role line held h
hand_views r w in_flight queued (Answers answer) held h = answers_views r w in_flight queued answer held h
hand_views r w in_flight queued Breaks held h = breaks_views r (with_hand r in_flight queued w) h
hand_views r w in_flight queued (TakesBack c) held h = takes_views r (with_hand r in_flight queued w) c h
hand_views r w in_flight queued Connects held h = connects_views r w in_flight queued held h
hand_views r w in_flight queued (Counts last) held h = record { wire = h.wire; down = h.down; view = h.view; queued = h.queued; in_flight = h.in_flight; follow = h.follow }

happens_views : (r : Rules) (w : Run) (event : Event) → Holds r w → Views r w → Views r (happens r w event)
happens_views r w event held h =
    let with : (List Pending × List Pending) → Run = λ p. record w { proxy = record (w.proxy) { flight = p.0; waiting = p.1 } } in
    let same : (w.proxy.flight, w.proxy.waiting) ≡ (map (pending_of r) w.in_flight, map (pending_of r) w.queued) = cc (held.flying, held.waiting) in
    subst (λ p. Views r (happens r (with p) event)) (sym same) (hand_views r w w.in_flight w.queued event (subst (λ p. Holds r (with p)) same held) (subst (λ p. Views r (with p)) same h))

pub run_views : (r : Rules) (w : Run) (events : List Event) → Holds r w → Views r w → Views r (run r w events)
run_views r w [] held h = h
run_views r w (event ∷ events) held h = run_views r (happens r w event) events (happens_holds r w event held) (happens_views r w event held h)
