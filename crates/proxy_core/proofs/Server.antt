-- A server that judges by its session rule keeps a session.
use Rattle.std.proofs.Common.{◌≡◌, ◌⊎◌, ℕ, ◌+◌, ◌≤◌, ◌<◌, ◌==◌, Bool, true, false, List, [], ◌∷◌, count_by, refl, sym, ap, subst, ◌∙◌, arith, inl, inr, cond, Contains}
use Rattle.std.proofs.lemmas.Bool.Decides.{nat_tests}
use Rattle.std.proofs.lemmas.List.Sums.{sum_by-cons}
use Rattle.proxy_core.specs.Run.{Sent, Run, new_run, run}
use Rattle.proxy_core.specs.Session.{has_number}
use Rattle.proxy_core.specs.Server.{AreInOrder, CarriedOut, IsRight, IsSession, Judged, NotJudged, NumberRefused, OrderRefused, Repeated, SessionRule, Verdict, carried_out, last_after, with_sent}
use Rattle.proxy_core.proofs.Lists.{both_true}
use Rattle.proxy_core.proofs.Sendings.{all_at, cons_cases, in_head, in_tail}

-- which verdict it is
abbrev is_done : Verdict → Bool
is_done CarriedOut = true
is_done Repeated = false
is_done OrderRefused = false
is_done NumberRefused = false
is_done NotJudged = false

done_is : (v : Verdict) → is_done v ≡ true → v ≡ CarriedOut
done_is CarriedOut is = refl
done_is Repeated is = absurd (cc is)
done_is OrderRefused is = absurd (cc is)
done_is NumberRefused is = absurd (cc is)
done_is NotJudged is = absurd (cc is)

-- a sending that was carried out, by its verdict
of_done : (js : List Judged) (s : Sent) → Contains (carried_out js) s → (j : Judged) × Contains js j × (j.sent ≡ s) × (is_done j.verdict ≡ true)
of_done [] s in_it = (let few = in_it.1 in absurd (omega (arith, few)))
of_done (j ∷ more) s in_it = cases j.verdict refl (λ in_more. of_done more s in_more) in_it
  where
    later : ((k : Judged) × Contains more k × (k.sent ≡ s) × (is_done k.verdict ≡ true)) → (k : Judged) × Contains (j ∷ more) k × (k.sent ≡ s) × (is_done k.verdict ≡ true)
    later k = (k.0, in_tail j k.0 more k.1, k.2, k.3)

    cases : (v : Verdict) → j.verdict ≡ v → (Contains (carried_out more) s → (k : Judged) × Contains more k × (k.sent ≡ s) × (is_done k.verdict ≡ true)) → Contains (with_sent v j.sent (carried_out more)) s → (k : Judged) × Contains (j ∷ more) k × (k.sent ≡ s) × (is_done k.verdict ≡ true)
    cases CarriedOut is found in_more = elim (cons_cases j.sent s (carried_out more) in_more) [ inl same ↦ (j, in_head j more, same, ap is_done is) | inr rest ↦ later (found rest) ]
    cases Repeated is found in_more = later (found in_more)
    cases OrderRefused is found in_more = later (found in_more)
    cases NumberRefused is found in_more = later (found in_more)
    cases NotJudged is found in_more = later (found in_more)

to_done : (js : List Judged) (j : Judged) → Contains js j → j.verdict ≡ CarriedOut → Contains (carried_out js) j.sent
to_done [] j in_it is = (let few = in_it.1 in absurd (omega (arith, few)))
to_done (x ∷ more) j in_it is = elim (cons_cases x j more in_it) [
  | inl same ↦ subst (λ (y : Judged). Contains (with_sent x.verdict x.sent (carried_out more)) y.sent) same
      (subst (λ v. Contains (with_sent v x.sent (carried_out more)) x.sent) (sym (ap (λ (y : Judged). y.verdict) same ∙ is)) (in_head x.sent (carried_out more)))
  | inr rest ↦ kept x.verdict (to_done more j rest is)
]
  where
    kept : (v : Verdict) → Contains (carried_out more) j.sent → Contains (with_sent v x.sent (carried_out more)) j.sent
    kept CarriedOut in_more = in_tail x.sent j.sent (carried_out more) in_more
    kept Repeated in_more = in_more
    kept OrderRefused in_more = in_more
    kept NumberRefused in_more = in_more
    kept NotJudged in_more = in_more

-- the last number never falls
last_up : (last : ℕ) (v : Verdict) → last ≤ last_after last v
last_up last CarriedOut = omega arith
last_up last Repeated = omega arith
last_up last OrderRefused = omega arith
last_up last NumberRefused = omega arith
last_up last NotJudged = omega arith

-- what has the next number is above the last one
abbrev is_next : Verdict → Bool
is_next CarriedOut = true
is_next Repeated = false
is_next OrderRefused = true
is_next NumberRefused = false
is_next NotJudged = false

next_is : (last : ℕ) (v : Verdict) (n : ℕ) → is_next v ≡ true → IsRight last v n → n ≡ last + 1
next_is last CarriedOut n is right = right
next_is last Repeated n is right = absurd (cc is)
next_is last OrderRefused n is right = right
next_is last NumberRefused n is right = absurd (cc is)
next_is last NotJudged n is right = absurd (cc is)

above_last : (last : ℕ) (js : List Judged) (j : Judged) → IsSession last js → Contains js j → is_next j.verdict ≡ true → last < j.sent.number
above_last last [] j rule in_it is = (let few = in_it.1 in absurd (omega (arith, few)))
above_last last (x ∷ more) j rule in_it is = elim (cons_cases x j more in_it) [
  | inl same ↦ subst (λ (y : Judged). last < y.sent.number) same (let e = next_is last x.verdict x.sent.number (ap (λ (y : Judged). is_next y.verdict) same ∙ is) rule.0 in omega (arith, e))
  | inr rest ↦ (let up = last_up last x.verdict in let high = above_last (last_after last x.verdict) more j rule.1 rest is in omega (arith, up, high))
]

done_next : (v : Verdict) → is_done v ≡ true → is_next v ≡ true
done_next CarriedOut is = refl
done_next Repeated is = absurd (cc is)
done_next OrderRefused is = absurd (cc is)
done_next NumberRefused is = absurd (cc is)
done_next NotJudged is = absurd (cc is)

-- a sending is judged once
judged_once : (js : List Judged) (j k : Judged) → AreInOrder js → Contains js j → Contains js k → j.sent ≡ k.sent → j ≡ k
judged_once [] j k order in_j in_k same = (let few = in_j.1 in absurd (omega (arith, few)))
judged_once (x ∷ more) j k order in_j in_k same = elim (cons_cases x j more in_j) [
  | inl is_j ↦ elim (cons_cases x k more in_k) [
    | inl is_k ↦ sym is_j ∙ is_k
    | inr rest ↦ (
        let less = all_at (λ (y : Judged). x.sent.serial < y.sent.serial) more k order.0 rest in
        let e : x.sent.serial ≡ k.sent.serial = ap (λ (y : Judged). y.sent.serial) is_j ∙ ap (λ (y : Sent). y.serial) same in
        absurd (omega (arith, less, e)))
  ]
  | inr rest_j ↦ elim (cons_cases x k more in_k) [
    | inl is_k ↦ (
        let less = all_at (λ (y : Judged). x.sent.serial < y.sent.serial) more j order.0 rest_j in
        let e : x.sent.serial ≡ j.sent.serial = ap (λ (y : Judged). y.sent.serial) is_k ∙ sym (ap (λ (y : Sent). y.serial) same) in
        absurd (omega (arith, less, e)))
    | inr rest_k ↦ judged_once more j k order.1 rest_j rest_k same
  ]
]

-- an order that is refused comes before the one that is carried out with its number
refused_first : (last : ℕ) (js : List Judged) (j k : Judged) → IsSession last js → AreInOrder js → Contains js j → Contains js k → j.verdict ≡ OrderRefused → is_done k.verdict ≡ true → j.sent.number ≡ k.sent.number → j.sent.serial < k.sent.serial
refused_first last [] j k rule order in_j in_k refused done same = (let few = in_j.1 in absurd (omega (arith, few)))
refused_first last (x ∷ more) j k rule order in_j in_k refused done same = elim (cons_cases x j more in_j) [
  | inl is_j ↦ elim (cons_cases x k more in_k) [
    | inl is_k ↦ (
        let v : OrderRefused ≡ k.verdict = sym refused ∙ ap (λ (y : Judged). y.verdict) (sym is_j ∙ is_k) in
        let no : false ≡ true = ap is_done v ∙ done in
        absurd (cc no))
    | inr rest ↦ subst (λ (y : Judged). y.sent.serial < k.sent.serial) is_j (all_at (λ (y : Judged). x.sent.serial < y.sent.serial) more k order.0 rest)
  ]
  | inr rest_j ↦ elim (cons_cases x k more in_k) [
    | inl is_k ↦ (
        let done_x : is_done x.verdict ≡ true = ap (λ (y : Judged). is_done y.verdict) is_k ∙ done in
        let v : x.verdict ≡ CarriedOut = done_is x.verdict done_x in
        let n : x.sent.number ≡ last + 1 = next_is last x.verdict x.sent.number (done_next x.verdict done_x) rule.0 in
        let up : last_after last x.verdict ≡ last + 1 = ap (last_after last) v in
        let high = above_last (last_after last x.verdict) more j rule.1 rest_j (ap is_next refused) in
        let e : x.sent.number ≡ k.sent.number = ap (λ (y : Judged). y.sent.number) is_k in
        absurd (omega (arith, n, up, high, e, same)))
    | inr rest_k ↦ refused_first (last_after last x.verdict) more j k rule.1 order.1 rest_j rest_k refused done same
  ]
]

-- a repeated order has the number that the server began with, or was carried out before
repeated_after : (last : ℕ) (js : List Judged) (j : Judged) → IsSession last js → AreInOrder js → Contains js j → j.verdict ≡ Repeated
    → (j.sent.number ≡ last) ⊎ ((k : Judged) × Contains js k × (k.verdict ≡ CarriedOut) × (k.sent.number ≡ j.sent.number) × (k.sent.serial < j.sent.serial))
repeated_after last [] j rule order in_j is = (let few = in_j.1 in absurd (omega (arith, few)))
repeated_after last (x ∷ more) j rule order in_j is = elim (cons_cases x j more in_j) [
  | inl is_j ↦ inl (subst (λ (y : Judged). y.sent.number ≡ last) is_j (subst (λ v. IsRight last v x.sent.number) (ap (λ (y : Judged). y.verdict) is_j ∙ is) rule.0))
  | inr rest ↦ elim (repeated_after (last_after last x.verdict) more j rule.1 order.1 rest is) [
    | inr before ↦ inr (before.0, in_tail x before.0 more before.1, before.2, before.3, before.4)
    | inl number ↦ by_first x.verdict refl number (all_at (λ (y : Judged). x.sent.serial < y.sent.serial) more j order.0 rest) rule.0
  ]
]
  where
    by_first : (v : Verdict) → x.verdict ≡ v → j.sent.number ≡ last_after last x.verdict → x.sent.serial < j.sent.serial → IsRight last x.verdict x.sent.number
        → (j.sent.number ≡ last) ⊎ ((k : Judged) × Contains (x ∷ more) k × (k.verdict ≡ CarriedOut) × (k.sent.number ≡ j.sent.number) × (k.sent.serial < j.sent.serial))
    by_first CarriedOut v number less right = inr (x, in_head x more, v, subst (λ u. IsRight last u x.sent.number) v right ∙ sym (number ∙ ap (last_after last) v), less)
    by_first Repeated v number less right = inl (number ∙ ap (last_after last) v)
    by_first OrderRefused v number less right = inl (number ∙ ap (last_after last) v)
    by_first NumberRefused v number less right = inl (number ∙ ap (last_after last) v)
    by_first NotJudged v number less right = inl (number ∙ ap (last_after last) v)

-- no number is carried out twice
none_of : (n : ℕ) (xs : List Sent) → ((s : Sent) → Contains xs s → s.number ≡ n → ⊥) → count_by (has_number n) xs ≡ 0
none_of n [] other = refl
none_of n (x ∷ xs) other =
    let rest = none_of n xs (λ s in_it. other s (in_tail x s xs in_it)) in
    let whole = sum_by-cons (λ y. cond {A = ℕ} (has_number n y) 1 0) x xs in
    let none : cond {A = ℕ} (has_number n x) 1 0 ≡ 0 = zero (has_number n x) refl in
    omega (arith, rest, whole, none)
  where
    zero : (b : Bool) → has_number n x ≡ b → cond {A = ℕ} b 1 0 ≡ 0
    zero true so = (
        let test = (both_true x.is_unnumbered (x.number == n) so).1 in
        let same : x.number ≡ n = grind (arith, nat_tests) in
        absurd (other x (in_head x xs) same))
    zero false so = refl

number_once : (last n : ℕ) (js : List Judged) → IsSession last js → count_by (has_number n) (carried_out js) ≤ 1
number_once last n [] rule = omega arith
number_once last n (x ∷ more) rule = cases x.verdict refl (number_once (last_after last x.verdict) n more rule.1)
  where
    cases : (v : Verdict) → x.verdict ≡ v → count_by (has_number n) (carried_out more) ≤ 1 → count_by (has_number n) (with_sent v x.sent (carried_out more)) ≤ 1
    cases CarriedOut v rest =
        let whole = sum_by-cons (λ y. cond {A = ℕ} (has_number n y) 1 0) x.sent (carried_out more) in
        let number : x.sent.number ≡ last + 1 = subst (λ u. IsRight last u x.sent.number) v rule.0 in
        let up : last_after last x.verdict ≡ last + 1 = ap (last_after last) v in
        first (has_number n x.sent) refl whole number up
      where
        first : (b : Bool) → has_number n x.sent ≡ b → count_by (has_number n) (x.sent ∷ carried_out more) ≡ cond {A = ℕ} (has_number n x.sent) 1 0 + count_by (has_number n) (carried_out more) → x.sent.number ≡ last + 1 → last_after last x.verdict ≡ last + 1
            → count_by (has_number n) (x.sent ∷ carried_out more) ≤ 1
        first true so whole number up =
            let test = (both_true x.sent.is_unnumbered (x.sent.number == n) so).1 in
            let same : x.sent.number ≡ n = grind (arith, nat_tests) in
            let one : cond {A = ℕ} (has_number n x.sent) 1 0 ≡ 1 = ap (λ b. cond {A = ℕ} b 1 0) so in
            let none = none_of n (carried_out more) (λ s in_it is. (
            let k = of_done more s in_it in
            let high = above_last (last_after last x.verdict) more k.0 rule.1 k.1 (done_next k.0.verdict k.3) in
            let e : k.0.sent.number ≡ s.number = ap (λ (y : Sent). y.number) k.2 in
            absurd (omega (arith, high, up, number, same, is, e)))) in
            omega (arith, whole, one, none)
        first false so whole number up =
            let zero : cond {A = ℕ} (has_number n x.sent) 1 0 ≡ 0 = ap (λ b. cond {A = ℕ} b 1 0) so in
            let few = rest in
            omega (arith, whole, zero, few)
    cases Repeated v rest = rest
    cases OrderRefused v rest = rest
    cases NumberRefused v rest = rest
    cases NotJudged v rest = rest

pub session_rule : SessionRule
session_rule r events last judged h =
    let w : Run = run r new_run events in
    record {
      was_sent = λ s in_s. (let j = of_done judged s in_s in subst (Contains w.sent) j.2 (h.of_run j.0 j.1));
      once = λ n. number_once last n judged h.rule;
      number_refused = λ g in_g refuses in_done. (
          let k = of_done judged g.sent in_done in
          let own : g.sent.is_unnumbered ≡ true = sym (ap (λ (y : Sent). y.is_unnumbered) k.2) ∙ h.own k.0 k.1 in
          let j = h.refuses_number g in_g own refuses in
          let same : k.0 ≡ j.0 = judged_once judged k.0 j.0 h.order k.1 j.1 (k.2 ∙ sym j.2) in
          let no : true ≡ false = sym k.3 ∙ ap (λ (y : Judged). is_done y.verdict) same ∙ ap is_done j.3 in
          absurd (cc no));
      order_refused = λ g in_g own refuses s in_s own_s number. (
          let j = h.refuses_order g in_g own refuses in
          let k = of_done judged s in_s in
          let same : j.0.sent.number ≡ k.0.sent.number = ap (λ (y : Sent). y.number) j.2 ∙ sym number ∙ sym (ap (λ (y : Sent). y.number) k.2) in
          let less = refused_first last judged j.0 k.0 h.rule h.order j.1 k.1 j.3 k.3 same in
          let a : j.0.sent.serial ≡ g.sent.serial = ap (λ (y : Sent). y.serial) j.2 in
          let b : k.0.sent.serial ≡ s.serial = ap (λ (y : Sent). y.serial) k.2 in
          omega (arith, less, a, b));
      number_used = λ g in_g own uses. (
          let j = h.replies g in_g own uses in
          let n : j.0.sent.number ≡ g.sent.number = ap (λ (y : Sent). y.number) j.2 in
          let a : j.0.sent.serial ≡ g.sent.serial = ap (λ (y : Sent). y.serial) j.2 in
          elim j.3 [
            | inl is ↦ (j.0.sent, to_done judged j.0 j.1 is, h.own j.0 j.1, n, omega (arith, a))
            | inr is ↦ elim (repeated_after last judged j.0 h.rule h.order j.1 is) [
              | inl first ↦ (let high = h.above j.0 j.1 in absurd (omega (arith, first, high)))
              | inr before ↦ (let less = before.4 in (before.0.sent, to_done judged before.0 before.1 before.2, h.own before.0 before.1, before.3 ∙ n, omega (arith, less, a)))
            ]
          ]);
      below = λ s in_s. (let j = of_done judged s in_s in subst (λ (y : Sent). y.number < 18446744073709551615) j.2 (h.small j.0 j.1));
    }
