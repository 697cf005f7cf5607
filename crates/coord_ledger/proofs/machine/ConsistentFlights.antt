-- The machine stays consistent as flights go out and come back, and over a crash.
use Rattle.std.proofs.Common.{◌≡◌, ℕ, ◌+◌, ◌-◌, ◌≤◌, List, [], ◌∷◌, map, length, Option, Some, None, refl, sym, subst, arith}
use Rattle.std.specs.List.{AllByRecursion}
use Rattle.std.proofs.lemmas.Bool.Decides.{nat_tests}
use Rattle.std.proofs.lemmas.List.{length-drop, take-take}
use Rattle.coord_world.proofs.Facade.{by_test}
use Rattle.coord_ledger.specs.Facade.{Begin, Commit, Crash, DoubtFits, Finish, FlightFits, FlightOut, Good, IsConsistent, IsOneOf, Log, Machine, Mark, New, Opened, Torn, after, after_finish, crashed, cut_to, finished, kept, kept_by, settled_count, to_begin, to_commit, to_finish, with_flight, with_settled}
use Rattle.coord_ledger.proofs.machine.Lists.{each_one}
use Rattle.coord_ledger.proofs.machine.Logs.{doubted_stays, log_stays}
use Rattle.coord_ledger.proofs.machine.ConsistentSteps.{returned_releasing, returned_same, returned_settled}

-- ---- flights

stays_flight : (s : Machine) (f : Option FlightOut) → IsConsistent s → FlightFits s.log f → DoubtFits s.log f s.log.doubt → IsConsistent (record s { flight = f })
stays_flight s f is fits doubt = record { log = is.log; flight = fits; doubt = doubt; seen = is.seen; tickets = is.tickets; returned = is.returned }

pub all_begin : (s : Machine) → IsConsistent s → AllByRecursion (λ a. IsConsistent (after s Begin a)) (to_begin s)
all_begin s is = grind (arith, nat_tests, by_test, length-drop, stays_flight)

-- the mark of the flight
pub all_commit : (s : Machine) (f : Option FlightOut) → IsConsistent s → AllByRecursion (λ a. IsConsistent (after s Commit a)) (with_flight f (λ g. to_commit g.mark))
all_commit s f h1 = grind (arith, nat_tests, stays_flight)

-- if a flight is out, nothing is in doubt
pub no_doubt : (log : Log) (f : FlightOut) (o : Option ℕ) → DoubtFits log (Some f) o → o ≡ None
no_doubt log f None fits = refl
no_doubt log f (Some b) fits = absurd fits

stays_settled : (s : Machine) (b : ℕ) → IsConsistent s → s.log.settled + b ≤ length s.log.trail → s.log.doubt ≡ None → IsConsistent (after_finish s b Good)
stays_settled s b is le none =
    record {
      log = log_stays.settled s.log b is.log le;
      flight = tt;
      doubt = subst (DoubtFits (with_settled s.log b) None) (sym none) tt;
      seen = omega (arith, is.seen);
      tickets = is.tickets;
      returned = returned_releasing s.log b s.released s.replied le is.returned;
    }

stays_torn : (s : Machine) (b : ℕ) → IsConsistent s → s.log.settled + b ≤ length s.log.trail → IsConsistent (after_finish s b Torn)
stays_torn s b is le = grind (arith, nat_tests, doubted_stays, returned_same)

pub all_finish : (s : Machine) (f : Option FlightOut) → IsConsistent s → s.flight ≡ f → AllByRecursion (λ a. IsConsistent (after s Finish a)) (with_flight f (λ g. to_finish (settled_count s.log) g.size g.mark))
all_finish s None is out = (is, tt)
all_finish s (Some f) is out = by_mark f.mark refl
  where
    fits : FlightFits s.log (Some f)
    fits = subst (FlightFits s.log) out is.flight

    none : s.log.doubt ≡ None
    none = no_doubt s.log f s.log.doubt (rw (sym out) is.doubt)

    back : (m : Mark) → f.mark ≡ m → IsConsistent (after_finish s f.size m) → IsConsistent (finished s s.flight)
    back m e is = rw out (rw e is)

    by_mark : (m : Mark) → f.mark ≡ m → AllByRecursion (λ a. IsConsistent (after s Finish a)) (to_finish (settled_count s.log) f.size m)
    by_mark New e = (back New e (stays_flight s None is tt (subst (DoubtFits s.log None) (sym none) tt)), tt)
    by_mark Good e = (back Good e (stays_settled s f.size is fits.within none), (is, tt))
    by_mark Torn e = (back Torn e (stays_torn s f.size is fits.within), tt)

-- ---- crashes

-- a crash keeps the settled steps, and perhaps some more
pub record KeepsMore (s : Machine) (n : ℕ) : Type 0 where
  pub more : ℕ
  pub is : n ≡ s.log.settled + more
  pub within : s.log.settled + more ≤ length s.log.trail

pub all_keep_more : (s : Machine) (f : Option FlightOut) (o : Option ℕ) → s.log.settled ≤ length s.log.trail → FlightFits s.log f → DoubtFits s.log f o → AllByRecursion (KeepsMore s) (kept_by s.log.settled f o)
all_keep_more s f o h1 h2 h3 = grind (arith, nat_tests)

pub kept_more : (s : Machine) (n : ℕ) → IsConsistent s → IsOneOf n (kept s) → KeepsMore s n
kept_more s n is one = each_one (KeepsMore s) (kept s) n one (all_keep_more s s.flight s.log.doubt is.log.within is.flight is.doubt)

stays_crashed : (s : Machine) (k : ℕ) → IsConsistent s → s.log.settled + k ≤ length s.log.trail → IsConsistent (crashed s (s.log.settled + k))
stays_crashed s k is le =
    let n = s.log.settled + k in
    record {
      log = log_stays.cut s.log n is.log (omega arith) le;
      flight = tt;
      doubt = tt;
      seen = omega arith;
      tickets = tt;
      returned = returned_same (with_settled s.log k) (cut_to s.log n) s.released s.replied refl refl (take-take n n s.log.trail (omega arith)) (returned_settled s.log k s.released s.replied is.returned);
    }

crash_stays : (s : Machine) (n : ℕ) → IsConsistent s → KeepsMore s n → IsConsistent (after s Crash (Opened (s.log.base.count + n)))
crash_stays s n is keeps =
    let same : s.log.base.count + n - s.log.base.count ≡ s.log.settled + keeps.more = omega (arith, keeps.is) in
    rw same (stays_crashed s keeps.more is keeps.within)

pub all_crash : (s : Machine) (ns : List ℕ) → IsConsistent s → AllByRecursion (KeepsMore s) ns → AllByRecursion (λ a. IsConsistent (after s Crash a)) (map (λ n. Opened (s.log.base.count + n)) ns)
all_crash s [] is all = tt
all_crash s (n ∷ ns) is all = (crash_stays s n is all.0, all_crash s ns is all.1)
