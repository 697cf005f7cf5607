-- The number of an order that is taken back.
use Rattle.std.proofs.Common.{◌≡◌, ◌⊎◌, ℕ, ◌==◌, ◌&&◌, Bool, true, false, List, [], ◌∷◌, Some, None, map, sym, ap, ◌∙◌, arith, inl, inr, cond, Contains}
use Rattle.proxy_core.specs.Rules.{Rules, next, needs_number}
use Rattle.proxy_core.specs.Machine.{begins_order}
use Rattle.proxy_core.specs.Numbers.{IsNumberRefused}
use Rattle.proxy_core.specs.Promises.{pending_of}
use Rattle.proxy_core.specs.Run.{Request, Sent, Answer, Run, first_place, new_run, run}
use Rattle.proxy_core.specs.TakenBack.{TakenBackInTime, TakenBackNumber}
use Rattle.proxy_core.proofs.Holding as holding
use Rattle.proxy_core.proofs.Numbering.{AllFlying, HasNumber, Numbers, begins, run_numbers}

same_of : (b : Bool) (m n : ℕ) → cond b (Some m) None ≡ Some n → m ≡ n
same_of true m n is = cc is
same_of false m n is = absurd (cc is)

of_first : (r : Rules) (sent : List Sent) (answers : List Answer) (up : Bool) (k c n : ℕ) (in_flight : List Request)
    → cond up None (cond (begins_order c (map (pending_of r) in_flight)) (Some (next k)) None) ≡ Some n → AllFlying r (HasNumber r sent answers) k in_flight
    → (s : Sent) → Contains sent s → s.is_unnumbered ≡ true → s.place ≡ first_place in_flight → (s.number ≡ n) ⊎ IsNumberRefused r answers s
of_first r sent answers true k c n in_flight is has s in_s own at = absurd (cc is)
of_first r sent answers false k c n [] is has s in_s own at = absurd (cc is)
of_first r sent answers false k c n (a ∷ more) is has s in_s own at = elim (has.0 s in_s own at) [
  | inl number ↦ inl (number ∙ same_of (needs_number r a.line && (a.from == c)) (next k) n is)
  | inr refused ↦ inr refused
]

pub taken_back_number : TakenBackNumber
taken_back_number r events c n is s in_s own at =
    let w : Run = run r new_run events in
    let held = holding.run_holds r new_run events (holding.begins r) in
    let h : Numbers r w = run_numbers r new_run events (holding.begins r) (begins r) in
    let taken : cond w.proxy.is_up None (cond (begins_order c (map (pending_of r) w.in_flight)) (Some (next w.proxy.number)) None) ≡ Some n =
    ap (λ l. cond w.proxy.is_up None (cond (begins_order c l) (Some (next w.proxy.number)) None)) (sym held.flying) ∙ is in
    of_first r w.sent w.answers w.proxy.is_up w.proxy.number c n w.in_flight taken h.has s in_s own at

pub taken_back_in_time : TakenBackInTime
taken_back_in_time r events done right s own c in_c before less in_s = (let most = right c in_c s in_s own before in absurd (omega (arith, most, less)))
