-- What a flush returns.
use Rattle.std.proofs.Common.{◌≡◌, List, Option, Some, Result, Ok, Err, sym, ap, subst, inr, MatchResult}
use Rattle.coord_store.specs.declared.faults.CommitFault.{CommitFault}
use Rattle.coord_store.specs.declared.faults.CommitFault.TheVariants.{Again, Device, Full, OutOfMemory, Stopped}
use Rattle.coord_ledger.specs.declared.mark.Mark.TheVariants.{New}
use Rattle.coord_ledger.specs.declared.release.Release.{Release}
use Rattle.coord_ledger.specs.Facade.{FlightState, releases_in}
use Rattle.coord_engine.specs.Facade.{AnswersFlush, AtSomeMoment, Basis, ComesBack, CommitsFlight, Flushes, Leaves, RefusesFlush}
use Rattle.coord_engine.proofs.Flights.{flushed}

module _ {D : Type 0} (b : Basis D) where
  -- a flight that left, was committed with an answer and came back: what it released, or why it was not settled
  abbrev Flown : Result (Unit {0}) CommitFault → List Release → Type 0
  Flown (Ok done) released = AtSomeMoment b (Flushes released)
  Flown (Err fault) released = RefusesFlush b fault

  flown : (left back : FlightState D) (released : List Release) → AtSomeMoment b (Leaves left) → released ≡ releases_in back back.mark → AtSomeMoment b (ComesBack back)
      → (answer : Result (Unit {0}) CommitFault) → CommitsFlight b.failures left answer back → Flown answer released
  flown left back released leaves is comes (Ok done) tried = record { state = leaves.state; held = leaves.held; so = flushed left back leaves.state released leaves.so (λ _. tried.mark_is) tried.same_steps tried.same_world is }
  flown left back released leaves is comes (Err Device) tried = record { left = left; back = back; leaves = leaves; tried = tried; comes = comes }
  flown left back released leaves is comes (Err OutOfMemory) tried = inr (record { left = left; back = back; leaves = leaves; tried = tried; comes = comes })
  flown left back released leaves is comes (Err Full) tried = absurd tried
  flown left back released leaves is comes (Err Stopped) tried = absurd tried
  flown left back released leaves is comes (Err Again) tried = absurd tried

  answered : (committed : Result (Unit {0}) CommitFault) (released : List Release) (returned : Result (Option (List Release)) CommitFault)
      → MatchResult committed (λ _. returned ≡ Ok (Some released)) (λ fault. returned ≡ Err fault) → Flown committed released → AnswersFlush b returned
  answered (Ok done) released returned is so = subst (AnswersFlush b) (sym is) so
  answered (Err fault) released returned is so = subst (AnswersFlush b) (sym is) so

  -- what a flush answers, once its flight is back
  pub returned_back : (left back : FlightState D) (released : List Release) → AtSomeMoment b (Leaves left) → (committed : Result (Unit {0}) CommitFault) → (left.mark ≡ New → CommitsFlight b.failures left committed back)
      → released ≡ releases_in back back.mark → AtSomeMoment b (ComesBack back) → (returned : Result (Option (List Release)) CommitFault)
      → MatchResult committed (λ _. returned ≡ Ok (Some released)) (λ fault. returned ≡ Err fault) → AnswersFlush b returned
  returned_back left back released leaves committed tried is comes returned same =
      answered committed released returned same (flown left back released leaves is comes committed (tried (ap (λ (f : FlightState D). f.mark) leaves.so.1)))
