-- The settled steps stay.
use Rattle.std.proofs.Common.{ℕ, ◌+◌, ◌≤◌, List, [], ◌∷◌, map, length, Option, Some, None, refl, arith, cond, is_some, Result}
use Rattle.std.proofs.lemmas.Bool.Decides.{nat_tests}
use Rattle.std.specs.List.{AllByRecursion}
use Rattle.std.proofs.lemmas.List.{take-append-le, take-take}
use Rattle.coord_ledger.specs.Facade.{Answer, Begin, Begun, Collect, Commit, Crash, Event, Finish, FlightOut, IsConsistent, Machine, Mark, NoFlight, Nothing, Opened, Refusal, Refused, Reply, Resend, Show, Shown, Step, Submit, Verdict, accepted_count, after, after_finish, after_submit, answers, finished, has_stopped, kept, next_size, settled_count, settled_world, cannot_flush, ticket, to_collect, to_commit, to_finish, to_submit, verdict, with_flight}
use Rattle.coord_types.specs.declared.refusals.Refusal.TheVariants.{OutOfMemory, Stopped}
use Rattle.coord_world.proofs.Facade.{by_test}
use Rattle.coord_ledger.specs.laws.Laws.{KeepsSettled, SettledStays}
use Rattle.coord_view.specs.Shown.{shown}
use Rattle.coord_ledger.proofs.machine.ConsistentFlights.{KeepsMore, all_keep_more}
use Rattle.coord_ledger.proofs.machine.Lists.{each_one}

-- where log and settled steps are as they were
same : (s : Machine) → KeepsSettled s s
same s = record { base = refl; settled = omega arith; steps = refl }

keeps_submit : (s : Machine) (x : Step) (v : Result Verdict Refusal) → s.log.settled ≤ length s.log.trail → AllByRecursion (λ a. KeepsSettled s (after_submit s x v a)) (to_submit (accepted_count s.log + 1) v)
keeps_submit s x v h1 = grind (arith, nat_tests, take-append-le, same)

keeps_commit : (s : Machine) (m : Mark) → AllByRecursion (λ a. KeepsSettled s (after s Commit a)) (to_commit m)
keeps_commit s m = grind (arith, nat_tests, same)

after_keeps : (s : Machine) (b : ℕ) (m : Mark) → KeepsSettled s (after_finish s b m)
after_keeps s b m = grind (arith, nat_tests)

finish_keeps : (s : Machine) (f : Option FlightOut) → KeepsSettled s (finished s f)
finish_keeps s None = same s
finish_keeps s (Some f) = after_keeps s f.size f.mark

keeps_finish : (s : Machine) (m : Mark) (b : ℕ) → AllByRecursion (λ a. KeepsSettled s (after s Finish a)) (to_finish (settled_count s.log) b m)
keeps_finish s m b = grind (arith, nat_tests, finish_keeps, same)

-- if a flight is out
keeps_flight : (s : Machine) (e : Event) (f : Option FlightOut) (given : FlightOut → List Answer) → KeepsSettled s (after s e NoFlight) → ((g : FlightOut) → AllByRecursion (λ a. KeepsSettled s (after s e a)) (given g)) → AllByRecursion (λ a. KeepsSettled s (after s e a)) (with_flight f given)
keeps_flight s e None given none all = (none, tt)
keeps_flight s e (Some f) given none all = all f

keeps_collect : (s : Machine) (i : ℕ) (t : Option Reply) → AllByRecursion (λ a. KeepsSettled s (after s (Collect i) a)) (to_collect (settled_count s.log) t)
keeps_collect s i t = grind (arith, nat_tests, same, by_test)

crash_keeps : (s : Machine) (n : ℕ) → KeepsMore s n → KeepsSettled s (after s Crash (Opened (s.log.base.count + n)))
crash_keeps s n keeps = grind (arith, nat_tests, take-take)

keeps_crash : (s : Machine) (ns : List ℕ) → AllByRecursion (KeepsMore s) ns → AllByRecursion (λ a. KeepsSettled s (after s Crash a)) (map (λ n. Opened (s.log.base.count + n)) ns)
keeps_crash s [] all = tt
keeps_crash s (n ∷ ns) all = (crash_keeps s n all.0, keeps_crash s ns all.1)

all_keep : (s : Machine) (e : Event) → IsConsistent s → AllByRecursion (λ a. KeepsSettled s (after s e a)) (answers s e)
all_keep s (Submit x) is = keeps_submit s x (verdict s.log x) is.log.within
all_keep s Begin is =
    by_test (cannot_flush (is_some s.flight) s.log)
    (λ b. AllByRecursion (λ a. KeepsSettled s (after s Begin a)) (cond b (Nothing ∷ []) (Begun (next_size s.log) ∷ Refused OutOfMemory ∷ [])))
    (λ _. (same s, tt)) (λ _. (record { base = refl; settled = omega arith; steps = refl }, (same s, tt)))
all_keep s Commit is = keeps_flight s Commit s.flight (λ f. to_commit f.mark) (same s) (λ f. keeps_commit s f.mark)
all_keep s Finish is = keeps_flight s Finish s.flight (λ f. to_finish (settled_count s.log) f.size f.mark) (same s) (λ f. keeps_finish s f.mark f.size)
all_keep s (Collect i) is = keeps_collect s i (ticket s.tickets i)
all_keep s Resend is = (record { base = refl; settled = omega arith; steps = refl }, (same s, tt))
all_keep s Show is =
    by_test (has_stopped s.log) (λ b. AllByRecursion (λ a. KeepsSettled s (after s Show a)) (cond b (Refused Stopped ∷ []) (Shown (shown (accepted_count s.log) (settled_world s.log)) ∷ Refused OutOfMemory ∷ [])))
    (λ _. (same s, tt)) (λ _. (record { base = refl; settled = omega arith; steps = refl }, (same s, tt)))
all_keep s Crash is = keeps_crash s (kept s) (all_keep_more s s.flight s.log.doubt is.log.within is.flight is.doubt)

pub settled_stays : SettledStays
settled_stays s e a is one = each_one (λ a. KeepsSettled s (after s e a)) (answers s e) a one (all_keep s e is)
