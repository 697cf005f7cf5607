-- Whose an answer is that does not refuse a number.
use Rattle.std.proofs.Common.{◌≡◌, ℕ, ◌<◌, ◌&&◌, ◌||◌, Bool, true, false, List, [], ◌∷◌, length, slice_index_or, sym, ap, ◌∙◌, arith, cond}
use Rattle.proxy_core.specs.declared.proxy.Outcome.TheVariants.{To, Ended, Retry, Unsolicited}
use Rattle.proxy_core.specs.Rules.{Rules}
use Rattle.proxy_core.specs.Pending.{Pending}
use Rattle.proxy_core.specs.Machine.{Proxy, is_late, outcome, outcome_of}

of_first : (r : Rules) (answer : List ℕ) (again view : Bool) (late : ℕ → Bool) (flight : List Pending) (a : Pending) (c : ℕ) (ends : Bool) → 0 < length flight → a ≡ slice_index_or flight 0 a → c ≡ a.from → (a.is_unnumbered && r.refuses_number answer) ≡ false
    → ends ≡ ((again && r.is_inconclusive answer) || late c) → cond ends (Ended c) (To c) ≡ outcome_of r answer again view late flight
of_first r answer again view late [] a c ends some first from takes is = absurd (omega (arith, some))
of_first r answer again view late (x ∷ xs) a c ends some first from takes is =
    let same : a ≡ x = first in
    ap (λ b. cond b (Ended c) (To c)) is
    ∙ ap (λ d. cond ((again && r.is_inconclusive answer) || late d) (Ended d) (To d)) (from ∙ ap (λ (y : Pending). y.from) same)
    ∙ sym (ap (λ b. cond b (cond (again || view) (Ended x.from) (Retry x.from)) (cond ((again && r.is_inconclusive answer) || late x.from) (Ended x.from) (To x.from))) (ap (λ (y : Pending). y.is_unnumbered && r.refuses_number answer) (sym same) ∙ takes))

pub outcome_is : (r : Rules) (answer : List ℕ) (f : Proxy) (a : Pending) (c : ℕ) (ends is : Bool) → f.is_up ≡ true → 0 < length f.flight → a ≡ slice_index_or f.flight 0 a → c ≡ a.from → (a.is_unnumbered && r.refuses_number answer) ≡ false
    → ends ≡ ((f.is_resent && r.is_inconclusive answer) || is_late f c) → ends ≡ is → cond is (Ended c) (To c) ≡ outcome r answer f
outcome_is r answer f a c ends is up some first from takes test so =
    ap (λ b. cond b (Ended c) (To c)) (sym so)
    ∙ of_first r answer f.is_resent f.needs_view (is_late f) f.flight a c ends some first from takes test
    ∙ sym (ap (λ b. cond b (outcome_of r answer f.is_resent f.needs_view (is_late f) f.flight) Unsolicited) up)
