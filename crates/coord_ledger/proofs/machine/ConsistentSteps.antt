-- The machine stays consistent as steps are accepted, collected, sent again and shown, and its releases and collected
-- replies stay true.
use Rattle.std.proofs.Common.{◌≡◌, ℕ, ◌+◌, ◌≤◌, List, [], ◌∷◌, ◌++◌, map, length, take, drop, sym, ap, ◌∙◌, subst, arith, ◌==◌, not, All, zero, suc, Option, Some, None, Ok, Err, refl, cond, nat_le, Result}
use Rattle.std.specs.List.{AllByRecursion}
use Rattle.std.proofs.Math.Seq.{take-add}
use Rattle.std.proofs.lemmas.List.{append-nil, length-drop, length-take-le, length-append, take-append-le}
use Rattle.std.proofs.lemmas.List.Elements.{All-head, All-tail, filter-append}
use Rattle.std.proofs.lemmas.Bool.Decides.{nat_tests}
use Rattle.coord_ledger.specs.Facade.{IsConsistentLog, IsPartOf, IsReplyOf, IsReturned, IsTrulyAgain, Log, Output, Release, Reply, Step, pending, release_of, released_first, releases_of, resent, settled_count, settled_steps, settled_world, settling_releases, with_settled, Collect, Collected, DoubtFits, FlightFits, FlightOut, Fresh, IsConsistent, Kind, Machine, Refusal, Repeat, Show, TicketFits, Verdict, Waiting, accepted_count, after, after_submit, front_world, spent, ticket, to_collect, to_show, to_submit, verdict, with_step, with_ticket}
use Rattle.coord_world.proofs.Facade.{released_grows, resend_law, by_test, verdict_fresh, verdict_kind}
use Rattle.coord_world.specs.laws.Release.{IsReleased}
use Rattle.coord_world.specs.Facade.{World, again, fold, next, outputs, outs, StepInRange, reply}
use Rattle.coord_ledger.proofs.machine.Lists.{all_both, all_raised, part_before, part_both, part_self}
use Rattle.coord_ledger.proofs.machine.Logs.{count_after, count_front, log_stays}
use Rattle.coord_ledger.proofs.machine.SignalsOnce.{again_bound, again_is_new, all_numbered, none_above, released_both}
use Rattle.coord_ledger.proofs.machine.Replies.{reply_first, reply_later, kept_reply, reply_last}
use Rattle.coord_ledger.proofs.machine.Verdicts.{verdict_accepts, verdict_repeats}

-- ---- releases and replies

-- more steps are settled, and nothing more is released
once_later : (w : World) (trail : List Step) (d b : ℕ) (given : List Release) → IsPartOf (released_first given) (releases_of (outs w (take d trail))) → IsPartOf (released_first given) (releases_of (outs w (take (d + b) trail)))
once_later w trail d b given part = grind (arith, nat_tests, take-add, released_both, part_before)

-- more steps are settled, and their outputs are released
once_settled : (w : World) (trail : List Step) (d b : ℕ) (given : List Release) → IsPartOf (released_first given) (releases_of (outs w (take d trail))) →
    IsPartOf (released_first (given ++ releases_of (outs (fold w (take d trail)) (take b (drop d trail))))) (releases_of (outs w (take (d + b) trail)))
once_settled w trail d b given part =
    let more = releases_of (outs (fold w (take d trail)) (take b (drop d trail))) in
    rw (take-add d b trail)
    (subst (IsPartOf (released_first (given ++ more))) (sym (released_both w (take d trail) (take b (drop d trail))))
    (rw (filter-append (λ (r : Release). not (r.step == 0)) given more ∙ ap (λ l. released_first given ++ l) (all_numbered (fold w (take d trail)) (take b (drop d trail))))
    (part_both (released_first given) (releases_of (outs w (take d trail))) more more part (part_self more))))

-- packets are sent again
once_again : (given more : List Release) (all : List Release) → released_first more ≡ [] → IsPartOf (released_first given) all → IsPartOf (released_first (given ++ more)) all
once_again given more all none part =
    rw (filter-append (λ (r : Release). not (r.step == 0)) given more ∙ ap (λ l. released_first given ++ l) none ∙ append-nil (released_first given)) part

-- resent packets stay true as more steps are settled
pub again_later : (w : World) (trail : List Step) (d e : ℕ) (rs : List Release) → d ≤ e →
    AllByRecursion (λ r. r.step ≡ 0 → IsReleased w (take d trail) r.output) rs → AllByRecursion (λ r. r.step ≡ 0 → IsReleased w (take e trail) r.output) rs
again_later w trail d e [] le all = tt
again_later w trail d e (r ∷ rs) le all = ((λ none. released_grows w trail d e r.output le (all.0 none)), again_later w trail d e rs le all.1)

-- a release with the number of a step wasn't sent again
never_again : (n : ℕ) (P : Output → Type 0) (os : List Output) → AllByRecursion (λ (r : Release). r.step ≡ 0 → P r.output) (map (release_of (n + 1)) os)
never_again n P [] = tt
never_again n P (o ∷ os) = ((λ none. let no : ⊥ = omega (arith, none) in absurd no), never_again n P os)

never_settling : (w : World) (steps : List Step) (P : Output → Type 0) → AllByRecursion (λ (r : Release). r.step ≡ 0 → P r.output) (releases_of (outs w steps))
never_settling w [] P = tt
never_settling w (s ∷ ss) P =
    all_both (λ (r : Release). r.step ≡ 0 → P r.output) (map (release_of (w.count + 1)) (outputs w s)) (releases_of (outs (next w s) ss)) (never_again w.count P (outputs w s)) (never_settling (next w s) ss P)

-- resent packets are released
again_all : (P : Output → Type 0) (os : List Output) → All P os → AllByRecursion (λ (r : Release). r.step ≡ 0 → P r.output) (map (release_of 0) os)
again_all P [] all = tt
again_all P (o ∷ os) all = ((λ _. All-head P o os all), again_all P os (All-tail P o os all))

-- replies
truly_later : (w : World) (trail : List Step) (d b : ℕ) (rs : List Reply) → AllByRecursion (IsReplyOf w (take d trail)) rs → AllByRecursion (IsReplyOf w (take (d + b) trail)) rs
truly_later w trail d b [] all = tt
truly_later w trail d b (r ∷ rs) all = (rw (take-add d b trail) (reply_later w (take d trail) (take b (drop d trail)) r all.0), truly_later w trail d b rs all.1)

-- what is true of a log is true of a longer one with the same settled steps
pub returned_same : (log new : Log) (released : List Release) (replied : List Reply) → new.base ≡ log.base → new.settled ≡ log.settled → settled_steps new ≡ settled_steps log → IsReturned log released replied → IsReturned new released replied
returned_same log new released replied base settled steps returned =
    let count : settled_count new ≡ settled_count log = λ i. (base i).count + settled i in
    record {
      released_settled = subst (λ n. AllByRecursion (λ (r : Release). r.step ≤ n) released) (sym count) returned.released_settled;
      once = subst (λ (p : World × List Step). IsPartOf (released_first released) (releases_of (outs p.0 p.1))) (sym (λ i. (base i, steps i))) returned.once;
      again = subst (λ (p : World × List Step). AllByRecursion (λ (r : Release). r.step ≡ 0 → IsReleased p.0 p.1 r.output) released) (sym (λ i. (base i, steps i))) returned.again;
      replied_settled = subst (λ n. AllByRecursion (λ (r : Reply). r.step ≤ n) replied) (sym count) returned.replied_settled;
      truly = subst (λ (p : World × List Step). AllByRecursion (IsReplyOf p.0 p.1) replied) (sym (λ i. (base i, steps i))) returned.truly;
    }

-- what is true of a log is true once b more steps are settled
pub returned_settled : (log : Log) (b : ℕ) (released : List Release) (replied : List Reply) → IsReturned log released replied → IsReturned (with_settled log b) released replied
returned_settled log b released replied returned =
    let le : settled_count log ≤ settled_count (with_settled log b) = omega arith in
    record {
      released_settled = all_raised (λ (r : Release). r.step) (settled_count log) (settled_count (with_settled log b)) released le returned.released_settled;
      once = once_later log.base log.trail log.settled b released returned.once;
      again = again_later log.base log.trail log.settled (log.settled + b) released (omega arith) returned.again;
      replied_settled = all_raised (λ (r : Reply). r.step) (settled_count log) (settled_count (with_settled log b)) replied le returned.replied_settled;
      truly = truly_later log.base log.trail log.settled b replied returned.truly;
    }

-- what is true of a log is true once b more steps are settled and their outputs are released
pub returned_releasing : (log : Log) (b : ℕ) (released : List Release) (replied : List Reply) → log.settled + b ≤ length log.trail → IsReturned log released replied → IsReturned (with_settled log b) (released ++ settling_releases log b) replied
returned_releasing log b released replied le returned =
    let later = returned_settled log b released replied returned in
    let more = settling_releases log b in
    let now = settled_count (with_settled log b) in
    let taken : length (take b (pending log)) ≡ b = length-take-le b (pending log) (omega (arith, le, length-drop log.settled log.trail)) in
    let count : (settled_world log).count ≡ settled_count log = count_after log log.settled (omega (arith, le)) in
    record {
      released_settled = all_both (λ (r : Release). r.step ≤ now) released more later.released_settled (none_above (settled_world log) (take b (pending log)) now (omega (arith, taken, count)));
      once = once_settled log.base log.trail log.settled b released returned.once;
      again = all_both (IsTrulyAgain (with_settled log b)) released more later.again (never_settling (settled_world log) (take b (pending log)) (IsReleased log.base (settled_steps (with_settled log b))));
      replied_settled = later.replied_settled;
      truly = later.truly;
    }

-- packets are sent again
pub returned_resent : (log : Log) (released : List Release) (replied : List Reply) → IsConsistentLog log → IsReturned log released replied → IsReturned log (released ++ resent (settled_world log)) replied
returned_resent log released replied is returned =
    let packets = again (settled_world log) in
    record {
      released_settled = all_both (λ (r : Release). r.step ≤ settled_count log) released (resent (settled_world log)) returned.released_settled (again_bound (settled_count log) packets);
      once = once_again released (resent (settled_world log)) (releases_of (outs log.base (settled_steps log))) (again_is_new packets) returned.once;
      again = all_both (IsTrulyAgain log) released (resent (settled_world log)) returned.again (again_all (IsReleased log.base (settled_steps log)) packets (resend_law log.base log.trail log.settled is.trail));
      replied_settled = returned.replied_settled;
      truly = returned.truly;
    }

-- a reply is collected
pub returned_replied : (log : Log) (released : List Release) (replied : List Reply) (r : Reply) → r.step ≤ settled_count log → IsReplyOf log.base log.trail r → IsReturned log released replied → IsReturned log released (replied ++ r ∷ [])
returned_replied log released replied r le fits returned =
    record {
      released_settled = returned.released_settled;
      once = returned.once;
      again = returned.again;
      replied_settled = all_both (λ (q : Reply). q.step ≤ settled_count log) replied (r ∷ []) returned.replied_settled (le, tt);
      truly = all_both (IsReplyOf log.base (settled_steps log)) replied (r ∷ []) returned.truly (reply_first log.base log.settled log.trail r le fits, tt);
    }

-- ---- the tickets of steps

tickets_later : (w : World) (steps more : List Step) (ts : List (Option Reply)) → AllByRecursion (TicketFits w steps) ts → AllByRecursion (TicketFits w (steps ++ more)) ts
tickets_later w steps more [] all = tt
tickets_later w steps more (None ∷ ts) all = (tt, tickets_later w steps more ts all.1)
tickets_later w steps more (Some r ∷ ts) all = (reply_later w steps more r all.0, tickets_later w steps more ts all.1)

spent_fits : (w : World) (steps : List Step) (ts : List (Option Reply)) (i : ℕ) → AllByRecursion (TicketFits w steps) ts → AllByRecursion (TicketFits w steps) (spent ts i)
spent_fits w steps [] i all = tt
spent_fits w steps (t ∷ ts) zero all = (tt, all.1)
spent_fits w steps (t ∷ ts) (suc i) all = (all.0, spent_fits w steps ts i all.1)

pub ticket_fits : (w : World) (steps : List Step) (ts : List (Option Reply)) (i : ℕ) → AllByRecursion (TicketFits w steps) ts → TicketFits w steps (ticket ts i)
ticket_fits w steps [] i all = tt
ticket_fits w steps (t ∷ ts) zero all = all.0
ticket_fits w steps (t ∷ ts) (suc i) all = ticket_fits w steps ts i all.1

-- ---- a step is submitted

stays_ticket : (s : Machine) (r : Reply) → IsConsistent s → IsReplyOf s.log.base s.log.trail r → IsConsistent (with_ticket s r)
stays_ticket s r is fits =
    record { log = is.log; flight = is.flight; doubt = is.doubt; seen = is.seen; returned = is.returned; tickets = all_both (TicketFits s.log.base s.log.trail) s.tickets (Some r ∷ []) is.tickets (fits, tt) }

-- a longer trail
flight_later : (log new : Log) (f : Option FlightOut) → new.settled ≡ log.settled → length log.trail ≤ length new.trail → FlightFits log f → FlightFits new f
flight_later log new None same le fits = tt
flight_later log new (Some f) same le fits = record { some = fits.some; most = fits.most; within = omega (arith, fits.within, le, same) }

doubt_later : (log new : Log) (f : Option FlightOut) (o : Option ℕ) → new.settled ≡ log.settled → length log.trail ≤ length new.trail → DoubtFits log f o → DoubtFits new f o
doubt_later log new f o h1 h2 h3 = grind (arith, nat_tests)

stays_step : (s : Machine) (x : Step) → IsConsistent s → IsConsistentLog (with_step s.log x) → IsConsistent (record s { log = with_step s.log x })
stays_step s x is log =
    let longer : length s.log.trail ≤ length (s.log.trail ++ x ∷ []) = omega (arith, length-append s.log.trail (x ∷ [])) in
    record {
      log = log;
      flight = flight_later s.log (with_step s.log x) s.flight refl longer is.flight;
      doubt = doubt_later s.log (with_step s.log x) s.flight s.log.doubt refl longer is.doubt;
      seen = is.seen;
      tickets = tickets_later s.log.base s.log.trail (x ∷ []) s.tickets is.tickets;
      returned = returned_same s.log (with_step s.log x) s.released s.replied refl refl (take-append-le s.log.settled s.log.trail (x ∷ []) is.log.within) is.returned;
    }

-- the reply to the step that is accepted
pub reply_is : (log : Log) (x : Step) (k : Kind) → verdict log x ≡ Ok (Fresh k) → reply (front_world log) x ≡ record { step = accepted_count log + 1; kind = k }
reply_is log x k is =
    let count : (front_world log).count + 1 ≡ accepted_count log + 1 = omega (arith, count_front log) in
    let same = sym (verdict_kind (front_world log) (settled_world log) x k (verdict_accepts log x k is).fresh) in
    λ i. record { step = count i; kind = same i }

-- the log with it
pub accepted_stays : (log : Log) (x : Step) (k : Kind) → IsConsistentLog log → StepInRange x → verdict log x ≡ Ok (Fresh k) → IsConsistentLog (with_step log x)
accepted_stays log x k is named judged =
    let accepted = verdict_accepts log x k judged in
    log_stays.accepted log x is named accepted.room (verdict_fresh (front_world log) (settled_world log) x k accepted.fresh)

pub all_submit : (s : Machine) (x : Step) (v : Result Verdict Refusal) → IsConsistent s → StepInRange x → verdict s.log x ≡ v → AllByRecursion (λ a. IsConsistent (after_submit s x v a)) (to_submit (accepted_count s.log + 1) v)
all_submit s x (Ok (Fresh k)) is named judged = (
  stays_ticket (record s { log = with_step s.log x }) (record { step = accepted_count s.log + 1; kind = k })
      (stays_step s x is (accepted_stays s.log x k is.log named judged))
      (subst (IsReplyOf s.log.base (s.log.trail ++ x ∷ [])) (reply_is s.log x k judged) (reply_last s.log.base s.log.trail x)),
  (is, tt),
)
all_submit s x (Ok (Repeat r)) is named judged =
    let keeps = verdict_repeats s.log x r judged in
    (stays_ticket s r is (subst (IsReplyOf s.log.base s.log.trail) keeps.reply (kept_reply s.log.base s.log.trail keeps.client keeps.last keeps.there)), tt)
all_submit s x (Err e) is named judged = (is, tt)

-- ---- collect, resend, show

pub all_collect : (s : Machine) (i : ℕ) (t : Option Reply) → IsConsistent s → TicketFits s.log.base s.log.trail t → AllByRecursion (λ a. IsConsistent (after s (Collect i) a)) (to_collect (settled_count s.log) t)
all_collect s i None is fits = (is, tt)
all_collect s i (Some r) is fits =
    by_test (nat_le r.step (settled_count s.log)) (λ b. AllByRecursion (λ a. IsConsistent (after s (Collect i) a)) (cond b (Collected r) Waiting ∷ []))
    (λ le. (
      record {
        log = is.log;
        flight = is.flight;
        doubt = is.doubt;
        seen = is.seen;
        tickets = spent_fits s.log.base s.log.trail s.tickets i is.tickets;
        returned = returned_replied s.log s.released s.replied r (grind (arith, nat_tests, le)) fits is.returned;
      },
      tt,
    ))
    (λ _. (is, tt))

pub stays_again : (s : Machine) → IsConsistent s → IsConsistent (record s { released = s.released ++ resent (settled_world s.log) })
stays_again s is = record { log = is.log; flight = is.flight; doubt = is.doubt; seen = is.seen; tickets = is.tickets; returned = returned_resent s.log s.released s.replied is.log is.returned }

pub all_show : (s : Machine) → IsConsistent s → AllByRecursion (λ a. IsConsistent (after s Show a)) (to_show s)
all_show s is = grind (arith, nat_tests, by_test)
