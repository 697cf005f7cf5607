-- The premises of the joint laws hold in the worked run.
use Rattle.std.proofs.Common.{◌≡◌, ℕ, ◌+◌, ◌≤◌, ◌<◌, true, false, [], ◌∷◌, length, count_by, refl, arith, cond, Contains}
use Rattle.std.proofs.lemmas.List.Sums.{sum_by-cons}
use Rattle.proxy_core.specs.Run.{Answer, Count, Sent}
use Rattle.proxy_core.specs.Session.{has_number}
use Rattle.proxy_core.specs.WorkedRun.{WorkedSession, third_sending, worked_rules, worked_run}
use Rattle.proxy_core.proofs.Sendings.{all_at}

-- the one sending that was carried out
the_one : (P : Sent → Type 0) (s : Sent) → Contains (third_sending ∷ []) s → P third_sending → P s
the_one P s in_it is = all_at P (third_sending ∷ []) s (is, tt) in_it

at_most_one : (n : ℕ) → count_by (has_number n) (third_sending ∷ []) ≤ 1
at_most_one n =
    let whole = sum_by-cons (λ y. cond {A = ℕ} (has_number n y) 1 0) third_sending [] in
    elim (has_number n third_sending) as (λ b. count_by (has_number n) (third_sending ∷ []) ≡ cond {A = ℕ} b 1 0 + 0 → count_by (has_number n) (third_sending ∷ []) ≤ 1) [
      | true ↦ λ e. omega (arith, e)
      | false ↦ λ e. omega (arith, e)
    ] whole

not_refused : (h : Answer) → Contains worked_run.answers h → worked_rules.refuses_number h.answer ≡ true → Contains (third_sending ∷ []) h.sent → ⊥
not_refused h in_it = all_at (λ (g : Answer). worked_rules.refuses_number g.answer ≡ true → Contains (third_sending ∷ []) g.sent → ⊥) worked_run.answers h
    (λ other _. absurd (cc other), (λ _ in_done. the_one (λ s. s.serial ≡ 1 → ⊥) _ in_done (λ two. absurd (omega (arith, two))) refl, (λ other _. absurd (cc other), tt))) in_it

above : (h : Answer) → Contains worked_run.answers h → worked_rules.is_refusal h.answer ≡ true → h.sent.serial < 2
above h in_it = all_at (λ (g : Answer). worked_rules.is_refusal g.answer ≡ true → g.sent.serial < 2) worked_run.answers h (λ is. omega arith, (λ other. absurd (cc other), (λ other. absurd (cc other), tt))) in_it

used : (h : Answer) → Contains worked_run.answers h → worked_rules.uses_number h.answer ≡ true → (10 ≡ h.sent.number) × (2 ≤ h.sent.serial)
used h in_it = all_at (λ (g : Answer). worked_rules.uses_number g.answer ≡ true → (10 ≡ g.sent.number) × (2 ≤ g.sent.serial)) worked_run.answers h (λ other. absurd (cc other), (λ other. absurd (cc other), (λ is. (refl, omega arith), tt))) in_it

in_done : Contains (third_sending ∷ []) third_sending
in_done = (0, omega arith, refl)

pub worked_session : WorkedSession
worked_session = record {
  session = record {
    was_sent = λ s in_it. the_one (Contains worked_run.sent) s in_it (let long : length worked_run.sent ≡ 4 = refl in (2, omega (arith, long), refl));
    once = at_most_one;
    number_refused = not_refused;
    order_refused = λ h in_h own is s in_it own_s same. the_one (λ t. h.sent.serial < t.serial) s in_it (above h in_h is);
    number_used = λ h in_h own is. (let u = used h in_h is in (third_sending, in_done, refl, u.0, u.1));
    below = λ s in_it. the_one (λ t. t.number < 18446744073709551615) s in_it (omega arith);
  };
  counts = λ c in_c s in_it own early. the_one (λ t. t.serial < c.sent → t.number ≤ c.last) s in_it (λ less. absurd (none c in_c less)) early;
}
  where
    none : (c : Count) → Contains worked_run.counts c → 2 < c.sent → ⊥
    none c in_c = all_at (λ (d : Count). 2 < d.sent → ⊥) worked_run.counts c (λ less. absurd (omega (arith, less)), tt) in_c
