-- How a ledger judges a step.
use Rattle.std.proofs.Common.{◌≡◌, ℕ, ◌==◌, ◌&&◌, Bool, true, false, [], ◌∷◌, Option, Some, None, Ok, Err, refl, sym, ap, cond}
use Rattle.std.proofs.Common.{arith}
use Rattle.std.proofs.lemmas.Bool.Decides.{nat_tests}
use Rattle.std.specs.Prelude.{Result}
use Rattle.coord_link.specs.LaneMachine.{Tests, refused_or}
use Rattle.coord_node.specs.Steps.{kind}
use Rattle.coord_types.proofs.Commands.{same_is}
use Rattle.coord_types.specs.Facade.{get, same_command}
use Rattle.coord_ledger.specs.Facade.{Fresh, Kind, Log, Refusal, Repeat, Reply, Session, Step, Verdict, front_world, has_stopped, is_full, settled_world, unless_full, verdict}
use Rattle.coord_types.specs.declared.refusals.Refusal.TheVariants.{Exhausted, PendingFull, Stopped}
use Rattle.coord_types.specs.declared.steps.Command.{Command}
use Rattle.coord_types.specs.declared.steps.Step.TheVariants.{Order, Take, Clear}
use Rattle.coord_world.proofs.Facade.{both, by_test}
use Rattle.coord_world.specs.Facade.{World, accepts, against, is_exhausted, judged, or_repeat, state}
use Rattle.coord_ledger.specs.laws.Laws.{SubmitOrder, judged_in_order, unless_repeat}

-- ---- one list of tests

-- a test that comes first
full_first : (full : Bool) (k : Kind) (ts : Tests) → unless_full full (refused_or (Fresh k) ts) ≡ refused_or (Fresh k) ((full, PendingFull) ∷ ts)
full_first full k [] = refl
full_first full k (t ∷ ts) = by_test t.0 (λ b. unless_full full (cond b (Err t.1) (refused_or (Fresh k) ts)) ≡ cond full (Err PendingFull) (cond b (Err t.1) (refused_or (Fresh k) ts))) (λ _. refl) (λ _. full_first full k ts)

-- the test of a full ledger comes after that of a repeat
after_repeat : (full : Bool) (o : Option Session) (n : ℕ) (x : Command) (v : Result Verdict Refusal) → unless_full full (or_repeat o n x v) ≡ or_repeat o n x (unless_full full v)
after_repeat full o n x v = grind arith

going_order : (log : Log) (s : Step) → unless_full (is_full log) (accepts (front_world log) (settled_world log) s) ≡ unless_repeat (front_world log) s (judged_in_order log s)
going_order log s = grind (arith, after_repeat, full_first)

pub submit_order : SubmitOrder
submit_order log s = ap (cond (has_stopped log) (Err Stopped)) (going_order log s)

-- ---- what follows from a verdict

-- a step that is accepted is fresh, and the log isn't full
pub record IsAccepted (log : Log) (s : Step) (k : Kind) : Type 0 where
  pub room : is_full log ≡ false
  pub fresh : accepts (front_world log) (settled_world log) s ≡ Ok (Fresh k)

pub verdict_accepts : (log : Log) (s : Step) (k : Kind) → verdict log s ≡ Ok (Fresh k) → IsAccepted log s k
verdict_accepts log s k is = by_stop (has_stopped log) is
  where
    passes : (full : Bool) (v : Result Verdict Refusal) → unless_full full v ≡ Ok (Fresh k) → (full ≡ false) × (v ≡ Ok (Fresh k))
    passes full (Ok (Repeat r)) is = cc
    passes true (Ok (Fresh j)) is = cc
    passes false (Ok (Fresh j)) is = (refl, is)
    passes true (Err e) is = cc
    passes false (Err e) is = cc

    by_stop : (stopped : Bool) → cond stopped (Err Stopped) (unless_full (is_full log) (accepts (front_world log) (settled_world log) s)) ≡ Ok (Fresh k) → IsAccepted log s k
    by_stop true is = cc
    by_stop false is = let both = passes (is_full log) (accepts (front_world log) (settled_world log) s) is in record { room = both.0; fresh = both.1 }

-- a repeat is one for the front world
repeat_passes : (full : Bool) (v : Result Verdict Refusal) (r : Reply) → unless_full full v ≡ Ok (Repeat r) → v ≡ Ok (Repeat r)
repeat_passes full v r h1 = grind arith

-- the world keeps this reply for this order
pub record KeepsReply (w : World) (s : Step) (r : Reply) : Type 0 where
  pub client : ℕ
  pub last : Session
  pub there : get w.sessions client ≡ Some last
  pub order : s ≡ Order client last.number last.command
  pub reply : last.reply ≡ r

never_repeats : (k : Kind) (r : Reply) (ts : Tests) → refused_or (Fresh k) ts ≡ Ok (Repeat r) → ⊥
never_repeats k r [] is = cc
never_repeats k r (t ∷ ts) is = by_test t.0 (λ b. cond b (Err t.1) (refused_or (Fresh k) ts) ≡ Ok (Repeat r) → ⊥) (λ _ e. cc) (λ _ e. never_repeats k r ts e) is

accepted_repeat : (front settled : World) (s : Step) (r : Reply) → accepts front settled s ≡ Ok (Repeat r) → KeepsReply front s r
accepted_repeat front settled (Order c n x) r is = by_session (get front.sessions c) refl is
  where
    tests : Tests
    tests = (is_exhausted front, Exhausted) ∷ against front settled (Order c n x)

    else : Result Verdict Refusal
    else = judged front settled (Order c n x)

    k : Kind
    k = kind (state front) (Order c n x)

    by_session : (o : Option Session) → get front.sessions c ≡ o → or_repeat o n x else ≡ Ok (Repeat r) → KeepsReply front (Order c n x) r
    by_session None there is = absurd (never_repeats k r tests is)
    by_session (Some o) there is =
        by_test ((o.number == n) && same_command o.command x) (λ b. cond b (Ok (Repeat o.reply)) else ≡ Ok (Repeat r) → KeepsReply front (Order c n x) r)
        (λ same e.
        let two = both (o.number == n) (same_command o.command x) same in
        let number : o.number ≡ n = grind (arith, nat_tests, two.0) in
        let command = same_is o.command x two.1 in
        record { client = c; last = o; there = there; order = λ i. Order c (sym number i) (sym command i); reply = cc })
        (λ _ e. absurd (never_repeats k r tests e))
        is
accepted_repeat front settled (Take p) r is = absurd (never_repeats (kind (state front) (Take p)) r ((is_exhausted front, Exhausted) ∷ against front settled (Take p)) is)
accepted_repeat front settled (Clear p) r is = absurd (never_repeats (kind (state front) (Clear p)) r ((is_exhausted front, Exhausted) ∷ against front settled (Clear p)) is)

pub verdict_repeats : (log : Log) (s : Step) (r : Reply) → verdict log s ≡ Ok (Repeat r) → KeepsReply (front_world log) s r
verdict_repeats log s r is = by_stop (has_stopped log) is
  where
    by_stop : (stopped : Bool) → cond stopped (Err Stopped) (unless_full (is_full log) (accepts (front_world log) (settled_world log) s)) ≡ Ok (Repeat r) → KeepsReply (front_world log) s r
    by_stop true is = cc
    by_stop false is = accepted_repeat (front_world log) (settled_world log) s r (repeat_passes (is_full log) (accepts (front_world log) (settled_world log) s) r is)
