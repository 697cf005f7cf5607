-- A machine whose base is moved along its settled steps gives the same answers.
use Rattle.std.proofs.Common.{◌∙◌, ◌≡◌, ℕ, ◌+◌, ◌-◌, ◌≤◌, false, List, [], ◌∷◌, ◌++◌, map, length, take, drop, Option, Some, None, Err, refl, sym, ap, arith, cond, is_some, nat_le, Result, ◌||◌, ◌==◌, min}
use Rattle.std.proofs.lemmas.Bool.Decides.{nat_tests}
use Rattle.std.specs.List.{AllByRecursion}
use Rattle.std.proofs.lemmas.Simd.{map-map}
use Rattle.std.proofs.lemmas.List.{drop-append-le, take-append-le, take-take}
use Rattle.coord_types.specs.declared.limits.TheConstants.{MAX_BATCH_STEPS, MAX_PENDING}
use Rattle.coord_ledger.specs.Facade.{Answer, Begin, Begun, Collect, Commit, Crash, Event, Finish, FlightOut, IsConsistent, IsConsistentLog, Log, Machine, Mark, NoFlight, Nothing, Opened, Refusal, Refused, Reply, Resend, Resent, Show, Shown, Step, Submit, Verdict, accepted_count, after, after_finish, after_submit, answers, finished, has_stopped, is_crash, kept_by, next_size, pending, rebased, resent, settled_count, settled_world, cannot_flush, ticket, to_collect, to_commit, to_finish, to_submit, unless_full, verdict, with_flight, with_settled, with_step, world_after}
use Rattle.coord_types.specs.declared.refusals.Refusal.TheVariants.{OutOfMemory, Stopped}
use Rattle.coord_world.proofs.Facade.{by_test}
use Rattle.coord_world.specs.Facade.{accepts, again, fold}
use Rattle.coord_ledger.specs.laws.Rebasing.{CrashReopens, RebasedAnswersAlike, RebasedGoesOn, rebased_machine}
use Rattle.coord_view.specs.Shown.{shown}
use Rattle.coord_ledger.proofs.machine.Lists.{each_one}
use Rattle.coord_ledger.proofs.machine.Logs.{rebased_accepted, rebased_base, rebased_count, rebased_front, rebased_pending, rebased_settled, none_after}

-- what a crash may keep after c more steps
pub kept_later : (c d : ℕ) (f : Option FlightOut) (o : Option ℕ) → kept_by (c + d) f o ≡ map (λ n. c + n) (kept_by d f o)
kept_later c d f o = grind (arith, nat_tests)

-- the verdict on a step
pub rebased_verdict : (log : Log) (n : ℕ) (le : n ≤ log.settled) (is : IsConsistentLog log) (x : Step) → verdict (rebased log n) x ≡ verdict log x
rebased_verdict log n le is x =
    λ i. cond (has_stopped log) (Err Stopped) (unless_full (nat_le MAX_PENDING (length (rebased_pending log n le i))) (accepts (rebased_front log n le is i) (rebased_settled log n le i) x))

-- a step more
pub rebased_step : (log : Log) (n : ℕ) (x : Step) → n ≤ length log.trail → with_step (rebased log n) x ≡ rebased (with_step log x) n
rebased_step log n x le =
    let begins : take n (log.trail ++ x ∷ []) ≡ take n log.trail = take-append-le n log.trail (x ∷ []) le in
    let ends : drop n (log.trail ++ x ∷ []) ≡ drop n log.trail ++ x ∷ [] = drop-append-le n log.trail (x ∷ []) le in
    λ i. record { base = fold log.base (sym begins i); trail = sym ends i; settled = log.settled - n; doubt = log.doubt }

-- more steps settled
rebased_more : (log : Log) (n b : ℕ) → n ≤ log.settled → with_settled (rebased log n) b ≡ rebased (with_settled log b) n
rebased_more log n b le =
    let more : log.settled - n + b ≡ log.settled + b - n = omega (arith, le) in
    λ i. record { base = world_after log n; trail = drop n log.trail; settled = more i; doubt = log.doubt }

module _ (s : Machine) (n : ℕ) (is : IsConsistent s) (le : n ≤ s.log.settled) where
  accepted : accepted_count (rebased s.log n) ≡ accepted_count s.log
  accepted = rebased_accepted s.log n le is.log

  settled : settled_world (rebased s.log n) ≡ settled_world s.log
  settled = rebased_settled s.log n le

  waiting : pending (rebased s.log n) ≡ pending s.log
  waiting = rebased_pending s.log n le

  count : settled_count (rebased s.log n) ≡ settled_count s.log
  count = rebased_count s.log n le is.log

  judged : (x : Step) → verdict (rebased s.log n) x ≡ verdict s.log x
  judged x = rebased_verdict s.log n le is.log x

  alike : (e : Event) → answers (rebased_machine s n) e ≡ answers s e
  alike (Submit x) = λ i. to_submit (accepted i + 1) (judged x i)
  alike Begin = λ i. cond (has_stopped s.log || is_some s.flight || (length (waiting i) == 0)) (Nothing ∷ []) (Begun (min MAX_BATCH_STEPS (length (waiting i))) ∷ Refused OutOfMemory ∷ [])
  alike Commit = refl
  alike Finish = λ i. with_flight s.flight (λ f. to_finish (count i) f.size f.mark)
  alike (Collect j) = λ i. to_collect (count i) (ticket s.tickets j)
  alike Resend = λ i. Resent (length (again (settled i))) ∷ Refused OutOfMemory ∷ []
  alike Show = λ i. cond (has_stopped s.log) (Refused Stopped ∷ []) (Shown (shown (accepted i) (settled i)) ∷ Refused OutOfMemory ∷ [])
  alike Crash =
      let there : n + (s.log.settled - n) ≡ s.log.settled = omega (arith, le) in
      let at : (k : ℕ) → Opened ((rebased s.log n).base.count + k) ≡ Opened (s.log.base.count + (n + k)) = λ k. ap Opened (omega (arith, rebased_base s.log n le is.log)) in
      (λ i. map (λ k. at k i) (kept_by (s.log.settled - n) s.flight s.log.doubt))
      ∙ sym (map-map (λ k. Opened (s.log.base.count + k)) (λ k. n + k) (kept_by (s.log.settled - n) s.flight s.log.doubt))
      ∙ ap (map (λ k. Opened (s.log.base.count + k))) (sym (kept_later n (s.log.settled - n) s.flight s.log.doubt) ∙ ap (λ d. kept_by d s.flight s.log.doubt) there)

  on_submit : (x : Step) (v : Result Verdict Refusal) → AllByRecursion (λ a. after_submit (rebased_machine s n) x v a ≡ rebased_machine (after_submit s x v a) n) (to_submit (accepted_count s.log + 1) v)
  on_submit x v = grind (arith, nat_tests, rebased_step)

  on_mark : (b : ℕ) (m : Mark) → after_finish (rebased_machine s n) b m ≡ rebased_machine (after_finish s b m) n
  on_mark b m = grind (arith, nat_tests, rebased_more, settled, waiting)

  on_finish : (f : Option FlightOut) → finished (rebased_machine s n) f ≡ rebased_machine (finished s f) n
  on_finish None = refl
  on_finish (Some f) = on_mark f.size f.mark

  on_finished : (b : ℕ) (m : Mark) → AllByRecursion (λ a. after (rebased_machine s n) Finish a ≡ rebased_machine (after s Finish a) n) (to_finish (settled_count s.log) b m)
  on_finished b m = grind (arith, nat_tests, on_finish)

  on_committed : (m : Mark) → AllByRecursion (λ a. after (rebased_machine s n) Commit a ≡ rebased_machine (after s Commit a) n) (to_commit m)
  on_committed m = grind (arith, nat_tests)

  on_flight : (e : Event) (f : Option FlightOut) (given : FlightOut → List Answer) → after (rebased_machine s n) e NoFlight ≡ rebased_machine (after s e NoFlight) n → ((g : FlightOut) → AllByRecursion (λ a. after (rebased_machine s n) e a ≡ rebased_machine (after s e a) n) (given g)) →
      AllByRecursion (λ a. after (rebased_machine s n) e a ≡ rebased_machine (after s e a) n) (with_flight f given)
  on_flight e None given none all = (none, tt)
  on_flight e (Some f) given none all = all f

  on_collect : (j : ℕ) (t : Option Reply) → AllByRecursion (λ a. after (rebased_machine s n) (Collect j) a ≡ rebased_machine (after s (Collect j) a) n) (to_collect (settled_count s.log) t)
  on_collect j t = grind (arith, nat_tests, by_test)

  on_event : (e : Event) → is_crash e ≡ false → AllByRecursion (λ a. after (rebased_machine s n) e a ≡ rebased_machine (after s e a) n) (answers s e)
  on_event (Submit x) calm =
      rw (judged x) (on_submit x (verdict s.log x))
  on_event Begin calm =
      by_test (cannot_flush (is_some s.flight) s.log)
      (λ b. AllByRecursion (λ a. after (rebased_machine s n) Begin a ≡ rebased_machine (after s Begin a) n) (cond b (Nothing ∷ []) (Begun (next_size s.log) ∷ Refused OutOfMemory ∷ [])))
      (λ _. (refl, tt)) (λ _. (refl, (refl, tt)))
  on_event Commit calm = on_flight Commit s.flight (λ f. to_commit f.mark) refl (λ f. on_committed f.mark)
  on_event Finish calm = on_flight Finish s.flight (λ f. to_finish (settled_count s.log) f.size f.mark) refl (λ f. on_finished f.size f.mark)
  on_event (Collect j) calm = on_collect j (ticket s.tickets j)
  on_event Resend calm = ((λ i. record (rebased_machine s n) { released = s.released ++ resent (settled i) }), (refl, tt))
  on_event Show calm =
      by_test (has_stopped s.log)
      (λ b. AllByRecursion (λ a. after (rebased_machine s n) Show a ≡ rebased_machine (after s Show a) n) (cond b (Refused Stopped ∷ []) (Shown (shown (accepted_count s.log) (settled_world s.log)) ∷ Refused OutOfMemory ∷ [])))
      (λ _. (refl, tt)) (λ _. ((λ i. record (rebased_machine s n) { seen = count i }), (refl, tt)))
  on_event Crash calm = let no : ⊥ = cc in absurd no

pub rebased_answers_alike : RebasedAnswersAlike
rebased_answers_alike s n e is le = alike s n is le e

pub rebased_goes_on : RebasedGoesOn
rebased_goes_on s n e a is le calm one = each_one (λ b. after (rebased_machine s n) e b ≡ rebased_machine (after s e b) n) (answers s e) a one (on_event s n is le e calm)

pub crash_reopens : CrashReopens
crash_reopens = grind (arith, nat_tests, take-take, none_after, settled)
