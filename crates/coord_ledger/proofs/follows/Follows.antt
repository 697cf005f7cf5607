-- How what the calls of a ledger and of a flight make of them follows the event machine, over crashes too.
use Rattle.std.proofs.Common.{◌≡◌, ◌-◌, length, ap, ◌∙◌, arith, ℕ, zero, suc, ◌+◌, Bool, true, List, [], ◌∷◌, take, Option, Some, None, refl, sym, subst, inl, inr}
use Rattle.std.proofs.lemmas.Bool.Decides.{nat_tests}
use Rattle.std.specs.Option.{option_map}
use Rattle.coord_ledger.specs.Facade.{DriverState, IsConsistent, Log, Machine, Represents, Step, accepted_count, flight_out, has_stopped, pending, rebased, settled_count, settled_world, verdict, FlightGives, FlightState, GivesFlown, GivesOneOf, GivesSettled, Good, ImagesGiveOneOf, IsOut, LedgerGives, LedgerState, Mark, New, Torn, kept_by, next_flight, with_store_out, world_after, IsOneOf, kept}
use Rattle.coord_world.specs.Facade.{fold}
use Rattle.coord_ledger.proofs.machine.Logs.{count_after, rebased_accepted, rebased_count, rebased_pending, rebased_settled, world-add}
use Rattle.coord_ledger.proofs.machine.Rebased.{rebased_verdict, kept_later}
use Rattle.coord_types.specs.declared.limits.TheConstants.{MAX_BATCH_STEPS}
use Rattle.coord_disk.specs.Model.Present.{Present}
use Rattle.coord_store.specs.Recovered.{Recovered}
use Rattle.coord_ledger.proofs.machine.Lists.{one_mapped}

-- ---- numbers and worlds

module _ {D : Type 0} (d : DriverState D) (s : Machine) (represents : Represents d s) where
  pub log_rebased : d.ledger.log ≡ rebased s.log represents.by
  log_rebased = ap (λ (m : Machine). m.log) represents.is

  pub flight_is : option_map flight_out d.flight ≡ s.flight
  flight_is = ap (λ (m : Machine). m.flight) represents.is

module _ {D : Type 0} (d : DriverState D) (s : Machine) (is : IsConsistent s) (represents : Represents d s) where
  pub accepted_is : accepted_count d.ledger.log ≡ accepted_count s.log
  accepted_is = ap accepted_count (log_rebased d s represents) ∙ rebased_accepted s.log represents.by represents.within is.log

  pub count_is : settled_count d.ledger.log ≡ settled_count s.log
  count_is = ap settled_count (log_rebased d s represents) ∙ rebased_count s.log represents.by represents.within is.log

  pub settled_is : settled_world d.ledger.log ≡ settled_world s.log
  settled_is = ap settled_world (log_rebased d s represents) ∙ rebased_settled s.log represents.by represents.within

  pub pending_is : pending d.ledger.log ≡ pending s.log
  pending_is = ap pending (log_rebased d s represents) ∙ rebased_pending s.log represents.by represents.within

  pub stopped_is : has_stopped d.ledger.log ≡ has_stopped s.log
  stopped_is = ap has_stopped (log_rebased d s represents)

  pub verdict_is : (x : Step) → verdict d.ledger.log x ≡ verdict s.log x
  verdict_is x = ap (λ g. verdict g x) (log_rebased d s represents) ∙ rebased_verdict s.log represents.by represents.within is.log x

  -- ---- the beginning

  -- the driver's log is the machine's, where their bases are the same
  pub log_is : d.ledger.log.base ≡ s.log.base → d.ledger.log ≡ s.log
  log_is same = grind (arith, nat_tests, log_rebased, count_after)

  -- the driver's log is the part after the machine's settled steps, if none of its own steps is settled
  pub log_after : d.ledger.log.settled ≡ 0 → d.ledger.log ≡ rebased s.log s.log.settled
  log_after none = grind (arith, nat_tests, log_rebased)

-- ---- flights go out

-- the flight that goes out next is the ledger's own
pub next_is_out : {D : Type 0} (l : LedgerState D) (disk : D) → IsOut (with_store_out l (length (take MAX_BATCH_STEPS (pending l.log)))) (next_flight l.log disk)
next_is_out l disk = record { size = refl; first = refl; steps = taken_twice MAX_BATCH_STEPS (pending l.log); world = refl }
  where
    taken_twice : {A : Type 0} (n : ℕ) (xs : List A) → take n xs ≡ take (length (take n xs)) xs
    taken_twice zero xs = refl
    taken_twice (suc n) [] = refl
    taken_twice (suc n) (x ∷ xs) = ap (λ l. x ∷ l) (taken_twice n xs)

-- ---- images

-- of a ledger's disk, while its store is at home
pub ledger_images : {D : Type 0} (l : LedgerState D) (disk : D) (keeps_model : Bool) (present : D → Present) → (keeps_model ≡ true → LedgerGives present l disk) → ImagesGiveOneOf keeps_model (present disk) l.log (kept_by l.log.settled None l.log.doubt)
ledger_images l disk keeps_model present gives model image here = by_doubt l.log.doubt (gives model image here)
  where
    by_doubt : (o : Option ℕ) → GivesSettled l.log o image → GivesOneOf l.log (kept_by l.log.settled None o) image
    by_doubt None given = record { steps = l.log.settled; allowed = inl refl; recovered = given }
    by_doubt (Some b) (inl given) = record { steps = l.log.settled; allowed = inl refl; recovered = given }
    by_doubt (Some b) (inr given) = record { steps = l.log.settled + b; allowed = inr (inl refl); recovered = given }

-- what bytes give of a flight's world, they give of its ledger's log
pub flight_gives : {D : Type 0} (l : LedgerState D) (f : FlightState D) (image : List ℕ) → IsOut l f → GivesFlown f.mark f.world f.steps image → GivesOneOf l.log (kept_by l.log.settled (Some (flight_out f)) l.log.doubt) image
flight_gives l f image own gives = by_mark f.mark gives
  where
    all : fold f.world f.steps ≡ world_after l.log (l.log.settled + length f.steps)
    all = (λ i. fold (own.world i) (own.steps i)) ∙ sym (world-add l.log l.log.settled (length f.steps))

    by_mark : (m : Mark) → GivesFlown m f.world f.steps image → GivesOneOf l.log (kept_by l.log.settled (Some (record { size = length f.steps; mark = m })) l.log.doubt) image
    by_mark New given = record { steps = l.log.settled; allowed = inl refl; recovered = subst (Recovered image) own.world given }
    by_mark Good given = record { steps = l.log.settled + length f.steps; allowed = inl refl; recovered = subst (Recovered image) all given }
    by_mark Torn (inl given) = record { steps = l.log.settled; allowed = inl refl; recovered = subst (Recovered image) own.world given }
    by_mark Torn (inr given) = record { steps = l.log.settled + length f.steps; allowed = inr (inl refl); recovered = subst (Recovered image) all given }

-- of the disk of a flight that is out
pub flight_images : {D : Type 0} (l : LedgerState D) (f : FlightState D) (keeps_model : Bool) (present : D → Present) → IsOut l f → (keeps_model ≡ true → FlightGives present f) → ImagesGiveOneOf keeps_model (present f.disk) l.log (kept_by l.log.settled (Some (flight_out f)) l.log.doubt)
flight_images l f keeps_model present own gives model image here = flight_gives l f image own (gives model image here)

-- ---- crashes

-- what bytes give of the ledger's log, they give of the machine's
pub given_follows : {D : Type 0} (d : DriverState D) (s : Machine) (image : List ℕ) → Represents d s →
    GivesOneOf d.ledger.log (kept_by d.ledger.log.settled (option_map flight_out d.flight) d.ledger.log.doubt) image → GivesOneOf s.log (kept s) image
given_follows d s image represents given =
    let by = represents.by in
    let n = given.steps in
    let settled : d.ledger.log.settled ≡ s.log.settled - by = ap (λ (g : Log). g.settled) (log_rebased d s represents) in
    let same : kept_by d.ledger.log.settled (option_map flight_out d.flight) d.ledger.log.doubt ≡ kept_by (s.log.settled - by) s.flight s.log.doubt = λ i. kept_by (settled i) (flight_is d s represents i) (ap (λ (g : Log). g.doubt) (log_rebased d s represents) i) in
    let there : by + (s.log.settled - by) ≡ s.log.settled = omega (arith, represents.within) in
    record {
      steps = by + n;
      allowed = rw (sym there) (subst (IsOneOf (by + n)) (sym (kept_later by (s.log.settled - by) s.flight s.log.doubt)) (one_mapped (λ k. by + k) n (kept_by (s.log.settled - by) s.flight s.log.doubt) (subst (IsOneOf n) same given.allowed)));
      recovered = subst (Recovered image) (ap (λ g. world_after g n) (log_rebased d s represents) ∙ sym (world-add s.log by n)) given.recovered;
    }

-- what the images of a disk give of the ledger's log, they give of the machine's
pub images_follow : {D : Type 0} (d : DriverState D) (s : Machine) (keeps_model : Bool) (present : Present) → Represents d s →
    ImagesGiveOneOf keeps_model present d.ledger.log (kept_by d.ledger.log.settled (option_map flight_out d.flight) d.ledger.log.doubt) → ImagesGiveOneOf keeps_model present s.log (kept s)
images_follow d s keeps_model present represents gives model image here = given_follows d s image represents (gives model image here)
