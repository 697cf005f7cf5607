-- Consequences of the machine's invariant.
use Rattle.std.proofs.Common.{◌≡◌, ℕ, ◌+◌, ◌≤◌, List, length, Option, refl, arith}
use Rattle.std.proofs.lemmas.Bool.Decides.{nat_tests}
use Rattle.coord_ledger.specs.Facade.{DoubtFits, FlightOut, GivesOneOf, IsConsistent, Machine, Release, Reply, Survives, finished, kept, kept_by, settled_count, world_after}
use Rattle.coord_world.proofs.Facade.{trail_keeps_worlds}
use Rattle.coord_ledger.specs.laws.Laws.{FinishKeepsKept, KeptIsSafe, PrefixFromImages}
use Rattle.coord_ledger.proofs.machine.ConsistentFlights.{kept_more, no_doubt}
use Rattle.coord_ledger.proofs.machine.ConsistentSteps.{again_later}
use Rattle.coord_ledger.proofs.machine.Lists.{all_raised}
use Rattle.coord_ledger.proofs.machine.Logs.{count_after}

-- ---- what a crash may keep

pub kept_is_safe : KeptIsSafe
kept_is_safe s n is one =
    let keeps = kept_more s n is one in
    let le : n ≤ length s.log.trail = omega (arith, keeps.is, keeps.within) in
    let w = world_after s.log n in
    let count : w.count ≡ s.log.base.count + n = count_after s.log n le in
    let least : settled_count s.log ≤ w.count = omega (arith, count, keeps.is) in
    record {
      legal = (trail_keeps_worlds s.log.base s.log.trail n is.log.trail).legal;
      released = all_raised (λ (r : Release). r.step) (settled_count s.log) w.count s.released least is.returned.released_settled;
      again = again_later s.log.base s.log.trail s.log.settled n s.released (omega (arith, keeps.is)) is.returned.again;
      replied = all_raised (λ (r : Reply). r.step) (settled_count s.log) w.count s.replied least is.returned.replied_settled;
      accepted = omega (arith, count, le);
    }

-- a flight that comes back changes nothing of that
finish_keeps : (s : Machine) (f : Option FlightOut) → s.flight ≡ f → DoubtFits s.log f s.log.doubt → kept (finished s f) ≡ kept_by s.log.settled f s.log.doubt
finish_keeps s f h1 h2 = grind (arith, nat_tests, no_doubt)

pub finish_keeps_kept : FinishKeepsKept
finish_keeps_kept s is = finish_keeps s s.flight refl is.doubt

-- the headline for one image, from what the store says of it
pub given_survives : (s : Machine) (image : List ℕ) → IsConsistent s → GivesOneOf s.log (kept s) image → Survives s image
given_survives s image is given = record { steps = given.steps; allowed = given.allowed; recovered = given.recovered; safe = kept_is_safe s given.steps is given.allowed }

-- the headline for all images of a disk, from what the store says of it
pub prefix_from_images : PrefixFromImages
prefix_from_images s keeps_model present is each model image here = given_survives s image is (each model image here)
