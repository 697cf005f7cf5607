-- The end of a run: the flight that was out has come back, and the headline holds.
use Rattle.std.proofs.Common.{◌≡◌, ℕ, Bool, true, List, Option, Some, None, sym, ap, ◌∙◌, subst, IfSome, length, arith}
use Rattle.std.proofs.lemmas.Bool.Decides.{nat_tests}
use Rattle.std.proofs.Math.Seq.{take-length}
use Rattle.coord_disk.specs.Model.Present.{Present}
use Rattle.coord_disk.specs.Model.DiskModel.{DiskModel}
use Rattle.coord_store.specs.Recovered.{Recovered}
use Rattle.coord_ledger.specs.Facade.{Answer, Completed, DriverState, EachMoment, Event, FlightOut, FlightState, Follows, ImagesGiveOneOf, IsConsistent, IsLeft, IsOneOf, LedgerGives, LedgerState, Machine, Promised, Release, Represents, Run, RunSoFar, at_home, brought_home, disk_held, disk_with, ended, finished, kept, kept_by, run, started, world_after}
use Rattle.coord_ledger.proofs.follows.Follows.{ledger_images, flight_is, log_rebased, images_follow}
use Rattle.coord_ledger.proofs.Simulates.{simulates_back, represents_to}
use Rattle.coord_ledger.proofs.runs.SoFar.{Holds, LoopInvariant, same_model}
use Rattle.coord_ledger.proofs.machine.Safe.{finish_keeps_kept, prefix_from_images}
use Rattle.coord_ledger.proofs.machine.SignalsOnce.{signals_once}

-- ---- the flight that was out comes back

-- with its store at home, a ledger agrees with the machine
is_back : {D : Type 0} (d : DriverState D) (s : Machine) → IsConsistent s → Represents d s → Represents (at_home (brought_home d.ledger d.flight)) (ended s)
is_back d s h1 h2 = grind (arith, nat_tests, flight_is, represents_to, simulates_back)

is_left : {D : Type 0} (l : LedgerState D) (t : Machine) → Represents (at_home l) t → IsLeft t l
is_left l t back = record { by = back.by; within = back.within; log = log_rebased (at_home l) t back; home = back.own }

-- ---- what the disk then gives

-- a flight that comes back leaves all worlds on the way
same_worlds : (s : Machine) (f : Option FlightOut) (n : ℕ) → world_after (finished s f).log n ≡ world_after s.log n
same_worlds s f n = grind (arith, nat_tests)

-- the images of a ledger at home give what the machine may keep
home_images : {D : Type 0} (l : LedgerState D) (s : Machine) (keeps_model : Bool) (present : Present) → IsConsistent s → Represents (at_home l) (ended s) → ImagesGiveOneOf keeps_model present l.log (kept_by l.log.settled None l.log.doubt) → ImagesGiveOneOf keeps_model present s.log (kept s)
home_images l s keeps_model present is back images model image here =
    let one = images_follow (at_home l) (ended s) keeps_model present back images model image here in
    record {
      steps = one.steps;
      allowed = subst (IsOneOf one.steps) (finish_keeps_kept s is) one.allowed;
      recovered = subst (Recovered image) (same_worlds s s.flight one.steps) one.recovered;
    }

-- the disk is unchanged
home_disk : {D : Type 0} (l : LedgerState D) (f : Option (FlightState D)) → (brought_home l f).disk ≡ disk_with l.disk f
home_disk l f = grind (arith, nat_tests)

module _ {D : Type 0} (model : DiskModel D) (crashes : D → D → Type 0) where
  -- a run whose ledger is left at home
  pub completed_home : (start : LedgerState D) (first : D) (events : List Event) (given : List Answer) (h : Run D) (l : LedgerState D) (released : List Release) (disk : D) → RunSoFar model crashes (model.keeps_model disk) first start events given h.driver → Follows h (run (started start) events given) →
      l ≡ brought_home h.driver.ledger h.driver.flight → released ≡ h.released.items → IfSome l.disk (λ d. model.keeps_model d ≡ true → LedgerGives model.present l d) → l.disk ≡ Some disk →
      Completed model crashes (started start) events given released l (model.keeps_model disk) first disk
  completed_home start first events given h l released disk so_far follows home given_out gives there =
      let s = run (started start) events given in
      let returned = so_far.consistent.returned in
      let back : Represents (at_home l) (ended s) = subst (λ (m : LedgerState D). Represents (at_home m) (ended s)) (sym home) (is_back h.driver s so_far.consistent so_far.represents) in
      let images = ledger_images l disk (model.keeps_model disk) model.present (subst (λ o. IfSome o (λ d. model.keeps_model d ≡ true → LedgerGives model.present l d)) there gives) in
      let its : Some so_far.disk ≡ Some disk = sym so_far.holds ∙ sym (home_disk h.driver.ledger h.driver.flight) ∙ sym (ap (λ (m : LedgerState D). m.disk) home) ∙ there in
      let same : so_far.disk ≡ disk = cc in
      record {
        answered = so_far.answered;
        released_is = given_out ∙ follows.released;
        prefix = prefix_from_images s (model.keeps_model disk) (model.present disk) so_far.consistent (home_images l s (model.keeps_model disk) (model.present disk) so_far.consistent back images);
        moments = subst (EachMoment model crashes (model.keeps_model disk) (started start) events given first) same so_far.moments;
        once = returned.once;
        again = returned.again;
        signalled = signals_once s so_far.consistent;
        replied = returned.truly;
        ledger = is_left l (ended s) back;
      }

  -- once all events were answered
  pub completed_all : (start : LedgerState D) (events : List Event) (at : ℕ) (given : List Answer) (h : Run D) (after : D) (Promise : D → Type 0) → LoopInvariant model crashes start events at given h → at ≡ length events → disk_held h.driver ≡ Some after →
      ((first : D) → RunSoFar model crashes (model.keeps_model after) first start events given h.driver → Follows h (run (started start) events given) → Promise first) → (before : D) → start.disk ≡ Some before → Promised (model.keeps_model before) events (Promise before)
  completed_all start events at given h after Promise h1 h2 h3 h4 before h5 = grind (arith, nat_tests, take-length, same_model, Holds)
