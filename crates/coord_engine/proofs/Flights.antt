-- Flights that go out and come back.
use Rattle.std.proofs.Common.{◌≡◌, Bool, true, false, Option, Some, None, Result, Ok, Err, List, length, refl, sym, subst, IfOk, IsSomeAnd, arith}
use Rattle.coord_ledger.specs.declared.mark.Mark.TheVariants.{New, Good}
use Rattle.coord_ledger.specs.declared.release.Release.{Release}
use Rattle.coord_ledger.specs.Facade.{FlightState, keeps_store, next_flight, releases_in, with_store_out}
use Rattle.coord_engine.specs.Facade.{AnswersBegin, Basis, CanHold, Flushes, GuardedState, Leaves, with_ledger}

module _ {D E : Type 0} (b : Basis D) (g later : GuardedState D) (is : CanHold b g) where
  -- what the value under the lock says of the next flight
  abbrev Nothing : Result (Option (FlightState D)) E → Type 0
  Nothing r = keeps_store g.ledger ≡ true → (r ≡ Ok None) × (later ≡ g)

  abbrev Begun : Result (Option (FlightState D)) E → Type 0
  Begun r =
      keeps_store g.ledger ≡ false
      → IfOk r (λ begun. IsSomeAnd begun (λ flight. (flight ≡ next_flight g.ledger.log flight.disk) × (g.ledger.disk ≡ Some flight.disk) × (later ≡ with_ledger g (with_store_out g.ledger (length flight.steps)))))

  begun_by : (home : Bool) → keeps_store g.ledger ≡ home → (r : Result (Option (FlightState D)) E) → Nothing r → Begun r → AnswersBegin b r
  begun_by true at r nothing begun = subst (AnswersBegin b) (sym (nothing at).0) (record { state = g; held = is; so = at })
  begun_by false at (Ok (Some flight)) nothing begun = record { state = g; held = is; so = (at, (begun at).0) }
  begun_by false at (Ok None) nothing begun = absurd (begun at)
  begun_by false at (Err fault) nothing begun = record { state = g; held = is; so = at }

  -- is what is answered at that moment
  pub begun_at : (r : Result (Option (FlightState D)) E) → Nothing r → Begun r → AnswersBegin b r
  begun_at = begun_by (keeps_store g.ledger) refl

module _ {D : Type 0} where
  -- a flight that was committed and taken back gives its releases
  pub flushed : (flight later : FlightState D) (g : GuardedState D) (released : List Release) → Leaves flight g → (flight.mark ≡ New → later.mark ≡ Good) → later.steps ≡ flight.steps → later.world ≡ flight.world → released ≡ releases_in later later.mark → Flushes released g
  flushed flight later g released left tried steps world is = grind arith
