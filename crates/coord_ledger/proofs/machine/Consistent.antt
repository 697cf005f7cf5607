-- The machine stays consistent, whatever its events are answered.
use Rattle.std.proofs.Common.{[], ◌∷◌, refl, arith}
use Rattle.std.specs.List.{AllByRecursion}
use Rattle.std.proofs.lemmas.List.Elements.{All-nil}
use Rattle.coord_world.specs.Facade.{InTurn, StepInRange}
use Rattle.coord_ledger.specs.Facade.{Begin, Collect, Commit, Crash, Event, EventInRange, Finish, IsConsistent, Machine, Resend, Show, Submit, after, answers, kept, ticket, verdict}
use Rattle.coord_ledger.specs.laws.Laws.{AdoptedIsConsistent, RunGoesOn, RunIsConsistent, StaysConsistent}
use Rattle.coord_ledger.proofs.machine.Lists.{each_one}
use Rattle.coord_ledger.proofs.machine.ConsistentFlights.{all_begin, all_commit, all_crash, all_finish, all_keep_more}
use Rattle.coord_ledger.proofs.machine.ConsistentSteps.{all_collect, all_show, all_submit, stays_again, ticket_fits}

all_stay : (s : Machine) (e : Event) → EventInRange e → IsConsistent s → AllByRecursion (λ a. IsConsistent (after s e a)) (answers s e)
all_stay s (Submit x) named is = all_submit s x (verdict s.log x) is named refl
all_stay s Begin named is = all_begin s is
all_stay s Commit named is = all_commit s s.flight is
all_stay s Finish named is = all_finish s s.flight is refl
all_stay s (Collect i) named is = all_collect s i (ticket s.tickets i) is (ticket_fits s.log.base s.log.trail s.tickets i is.tickets)
all_stay s Resend named is = (stays_again s is, (is, tt))
all_stay s Show named is = all_show s is
all_stay s Crash named is = all_crash s (kept s) is (all_keep_more s s.flight s.log.doubt is.log.within is.flight is.doubt)

pub stays_consistent : StaysConsistent
stays_consistent s e a named is one = each_one (λ a. IsConsistent (after s e a)) (answers s e) a one (all_stay s e named is)

pub run_is_consistent : RunIsConsistent
run_is_consistent s [] given named is answered = is
run_is_consistent s (e ∷ es) [] named is answered = is
run_is_consistent s (e ∷ es) (a ∷ given) named is answered = run_is_consistent (after s e a) es given named.1 (stays_consistent s e a named.0 is answered.0) answered.1

-- one event more
pub run_goes_on : RunGoesOn
run_goes_on s [] [] e a answered one = ((one, tt), refl)
run_goes_on s [] (b ∷ given) e a answered one = absurd answered
run_goes_on s (q ∷ es) [] e a answered one = absurd answered
run_goes_on s (q ∷ es) (b ∷ given) e a answered one = let more = run_goes_on (after s q b) es given e a answered.1 one in ((answered.0, more.0), more.1)

-- a ledger that was just made of a store
pub adopted_is_consistent : AdoptedIsConsistent
adopted_is_consistent w sound =
    record {
      log = record { trail = record { sound = sound; in_turn = none; named = All-nil StepInRange }; within = omega arith; few = omega arith; fresh = tt };
      flight = tt;
      doubt = tt;
      seen = omega arith;
      tickets = tt;
      returned = record { released_settled = tt; once = tt; again = tt; replied_settled = tt; truly = tt };
    }
  where
    none : InTurn w []
    none [] rest s is = cc
    none (b ∷ before) rest s is = cc
