-- What follows of the numbers by the server's session rule.
use Rattle.std.proofs.Common.{◌≡◌, ◌⊎◌, ℕ, ◌+◌, ◌≤◌, ◌<◌, ◌==◌, Bool, true, false, List, [], ◌∷◌, count_by, refl, sym, ap, subst, ◌∙◌, arith, inl, inr, cond, Contains}
use Rattle.std.proofs.lemmas.Bool.Decides.{nat_tests}
use Rattle.std.proofs.lemmas.List.Sums.{sum_by-cons}
use Rattle.proxy_core.specs.Rules.{Rules}
use Rattle.proxy_core.specs.Run.{Sent, Answer, Run, Event, new_run, run}
use Rattle.proxy_core.specs.Numbers.{AreSerial, HasOneNumber, IsUnused}
use Rattle.proxy_core.specs.Promises.{EveryRun}
use Rattle.proxy_core.specs.Session.{AtMostOnce, CountsAreRight, OwnReplies, Session, has_number, is_order_at}
use Rattle.proxy_core.proofs.Lists.{both_true}
use Rattle.proxy_core.proofs.Picks.{both_of}
use Rattle.proxy_core.proofs.Sendings.{all_at, compare, in_head, in_tail, serial_same}
use Rattle.proxy_core.proofs.Holding as holding
use Rattle.proxy_core.proofs.Ordering.{run_order, begins as order_begins}
use Rattle.proxy_core.proofs.Numbering.{Numbers, begins, run_numbers}
use Rattle.proxy_core.proofs.Viewing.{run_views, begins as view_begins}

numbers_of : (r : Rules) (events : List Event) → Numbers r (run r new_run events)
numbers_of r events = run_numbers r new_run events (holding.begins r) (begins r)

pub every_run : EveryRun
every_run r events =
    let w : Run = run r new_run events in
    let h : Numbers r w = numbers_of r events in
    holding.keeps_of r w (holding.run_holds r new_run events (holding.begins r)) h.serial h.one_number h.fresh (run_order r new_run events (holding.begins r) (begins r) (order_begins r)).order (run_views r new_run events (holding.begins r) (view_begins r)).follow

-- none passes a test, or one does
none_or_some : (test : Sent → Bool) (xs : List Sent) → (count_by test xs ≡ 0) ⊎ ((s : Sent) × Contains xs s × (test s ≡ true))
none_or_some test [] = inl refl
none_or_some test (x ∷ xs) =
    elim (test x) as (λ b. test x ≡ b → (count_by test (x ∷ xs) ≡ 0) ⊎ ((s : Sent) × Contains (x ∷ xs) s × (test s ≡ true))) [
      | true ↦ λ so. inr (x, in_head x xs, so)
      | false ↦ λ no. elim (none_or_some test xs) [
        | inl none ↦ inl (let whole = sum_by-cons (λ y. cond {A = ℕ} (test y) 1 0) x xs in let zero : cond {A = ℕ} (test x) 1 0 ≡ 0 = ap (λ b. cond {A = ℕ} b 1 0) no in omega (arith, whole, zero, none))
        | inr some ↦ inr (some.0, in_tail x some.0 xs some.1, some.2)
      ]
    ] refl

count_less_in : (test more : Sent → Bool) (xs : List Sent) → ((s : Sent) → Contains xs s → test s ≡ true → more s ≡ true) → count_by test xs ≤ count_by more xs
count_less_in test more [] weaker = omega arith
count_less_in test more (x ∷ xs) weaker =
    let less = count_less_in test more xs (λ s in_it so. weaker s (in_tail x s xs in_it) so) in
    let a = sum_by-cons (λ y. cond {A = ℕ} (test y) 1 0) x xs in
    let b = sum_by-cons (λ y. cond {A = ℕ} (more y) 1 0) x xs in
    elim (test x) as (λ t. test x ≡ t → count_by test (x ∷ xs) ≡ cond {A = ℕ} t 1 0 + count_by test xs → count_by test (x ∷ xs) ≤ count_by more (x ∷ xs)) [
      | true ↦ λ so e. (let one : cond {A = ℕ} (more x) 1 0 ≡ 1 = ap (λ t. cond {A = ℕ} t 1 0) (weaker x (in_head x xs) so) in omega (arith, less, b, e, one))
      | false ↦ λ so e. omega (arith, less, b, e)
    ] refl a

-- of two that were carried out, the later one has the number of the earlier one
later_same : (r : Rules) (w : Run) (done : List Sent) → Session r w done → HasOneNumber r w → (s t : Sent) → Contains done s → Contains done t → s.is_unnumbered ≡ true → t.is_unnumbered ≡ true → s.place ≡ t.place → s.serial < t.serial → s.number ≡ t.number
later_same r w done rule one s t in_s in_t own_s own_t same before =
    elim (one s t (record { first = rule.was_sent s in_s; second = rule.was_sent t in_t; first_own = own_s; second_own = own_t; before = before }) same) [
      | inl number ↦ number
      | inr refused ↦ absurd (rule.number_refused refused.0 refused.1 refused.3 (subst (Contains done) (sym refused.2) in_s))
    ]

-- those of one request have one number
same_number : (r : Rules) (w : Run) (done : List Sent) → Session r w done → AreSerial 0 w.sent → HasOneNumber r w → (s t : Sent) → Contains done s → Contains done t → s.is_unnumbered ≡ true → t.is_unnumbered ≡ true → s.place ≡ t.place → s.number ≡ t.number
same_number r w done rule serial one s t in_s in_t own_s own_t same = elim (compare s.serial t.serial) [
  | inl before ↦ later_same r w done rule one s t in_s in_t own_s own_t same before
  | inr other ↦ elim other [
    | inl equal ↦ ap (λ (y : Sent). y.number) (serial_same 0 w.sent s t serial (rule.was_sent s in_s) (rule.was_sent t in_t) equal)
    | inr after ↦ sym (later_same r w done rule one t s in_t in_s own_t own_s (sym same) after)
  ]
]

pub at_most_once : AtMostOnce
at_most_once r events done rule place =
    let w : Run = run r new_run events in
    let h : Numbers r w = numbers_of r events in
    elim (none_or_some (is_order_at place) done) [
      | inl none ↦ omega (arith, none)
      | inr some ↦ (
          let s : Sent = some.0 in
          let p = both_true s.is_unnumbered (s.place == place) some.2 in
          let at = p.1 in
          let at_s : s.place ≡ place = grind (arith, nat_tests) in
          let fewer = count_less_in (is_order_at place) (has_number s.number) done (λ t in_t so. (
          let q = both_true t.is_unnumbered (t.place == place) so in
          both_of t.is_unnumbered (t.number == s.number) q.0 (number t in_t q.0 s (at_place t q.1 ∙ sym at_s) some.1 p.0))) in
          let once = rule.once s.number in
          omega (arith, fewer, once))
    ]
  where
    at_place : (t : Sent) → (t.place == place) ≡ true → t.place ≡ place
    at_place t is = grind (arith, nat_tests)

    number : (t : Sent) → Contains done t → t.is_unnumbered ≡ true → (s : Sent) → t.place ≡ s.place → Contains done s → s.is_unnumbered ≡ true → (t.number == s.number) ≡ true
    number t in_t own_t s same in_s own_s = (let e : t.number ≡ s.number = same_number r (run r new_run events) done rule (numbers_of r events).serial (numbers_of r events).one_number t s in_t in_s own_t own_s same in grind (arith, nat_tests))

-- a number that was not used was not carried out
not_done : (r : Rules) (w : Run) (done : List Sent) → Session r w done → CountsAreRight w done → (s : Sent) → Contains done s → s.is_unnumbered ≡ true → IsUnused r w.answers w.counts s → ⊥
not_done r w done rule right s in_s own is = elim is [
  | inl refused ↦ rule.number_refused refused.0 refused.1 refused.3 (subst (Contains done) (sym refused.2) in_s)
  | inr other ↦ elim other [
    | inl order ↦ (let late = rule.order_refused order.0 order.1 order.2 order.5 s in_s own (sym order.3) in let early = order.4 in absurd (omega (arith, late, early)))
    | inr above ↦ (let below = right above.0 above.1 s in_s own above.2 in let over = above.3 in absurd (omega (arith, below, over)))
  ]
]

pub own_replies : OwnReplies
own_replies r events done rule right g in_g own_g uses =
    let w : Run = run r new_run events in
    let h : Numbers r w = numbers_of r events in
    let used = rule.number_used g in_g own_g uses in
    let s : Sent = used.0 in
    let t : Sent = g.sent in
    let sent_t : Contains w.sent t = all_at (λ (x : Answer). Contains w.sent x.sent) w.answers g h.heard in_g in
    let sent_s : Contains w.sent s = rule.was_sent s used.1 in
    let below = rule.below s used.1 in
    let number = used.3 in
    let late = used.4 in
    elim (compare s.serial t.serial) [
      | inl before ↦ elim (h.fresh s t (record { first = sent_s; second = sent_t; first_own = used.2; second_own = own_g; before = before }) number (omega (arith, below, number))) [
        | inl place ↦ (s, used.1, used.2, place)
        | inr unused ↦ absurd (not_done r w done rule right s used.1 used.2 unused)
      ]
      | inr other ↦ elim other [
        | inl equal ↦ (s, used.1, used.2, ap (λ (y : Sent). y.place) (serial_same 0 w.sent s t h.serial sent_s sent_t equal))
        | inr after ↦ absurd (omega (arith, after, late))
      ]
    ]
