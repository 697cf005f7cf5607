-- The effect of a flight on a drill, its output, and the remaining tickets.
use Rattle.std.proofs.Common.{◌≡◌, ◌≢◌, ℕ, Bool, true, false, cond, List, [], ◌∷◌, drop, length, take, Option, Some, None, refl, sym, ap, ◌∙◌, arith, inl, inr, is_some}
use Rattle.std.specs.List.{AllByRecursion}
use Rattle.std.specs.Option.{option_map}
use Rattle.std.proofs.lemmas.List.{drop-drop, take-append-drop}
use Rattle.coord_disk.specs.Model.DiskModel.{DiskModel}
use Rattle.coord_types.specs.declared.refusals.Refusal.TheVariants.{OutOfMemory}
use Rattle.coord_store.specs.declared.faults.CommitFault.TheVariants as commit
use Rattle.coord_world.specs.Facade.{World, fold, outs}
use Rattle.coord_ledger.proofs.follows.Follows.{flight_is, log_is}
use Rattle.coord_ledger.proofs.machine.Logs.{world-add}
use Rattle.coord_ledger.specs.declared.events.Event.TheVariants.{Begin}
use Rattle.coord_ledger.specs.Facade.{Claim, DriverState, IsGranted, IsOneOf, Log, Machine, next_size, pending, run as after_run, settled_count, settled_world, settling_releases, started, cannot_flush, to_begin, with_doubt, with_settled}
use Rattle.coord_drill.specs.Facade.{AreGranted, Begins, Begun, Drill, Flies, Flown, FlownTo, GoesBy, Lands, IsHeld, IsReadyWith, Leads, LeadsPart, Led, Nothing, Refused, Release, Reply, claims_of, collected_lines, drill_of, flight_events, flight_lines, flown_answers, flown_lines, landed_answers, landing_events, left_by, machine_of, seen_as, settled_lines, waiting}
use Rattle.coord_drill.specs.declared.drill.flying.Flown.TheVariants as flown
use Rattle.coord_drill.proofs.does.Moments.{leads_then}
use Rattle.coord_drill.proofs.does.Settled.{collected_are, fold_version, granted_from, waiting_are}
use Rattle.coord_drill.proofs.does.Verdicts.{no_refusal}

-- ---- its events

-- as many steps are out as the machine sends
pub begun_size : (m : Machine) (b : ℕ) → IsOneOf (Begun b) (to_begin m) → b ≡ next_size m.log
begun_size m b one = by_home (cannot_flush (is_some m.flight) m.log) one
  where
    by_home : (home : Bool) → IsOneOf (Begun b) (cond home (Nothing ∷ []) (Begun (next_size m.log) ∷ Refused OutOfMemory ∷ [])) → b ≡ next_size m.log
    by_home true (inl same) = cc
    by_home true (inr never) = absurd never
    by_home false (inl same) = cc
    by_home false (inr (inl same)) = cc
    by_home false (inr (inr never)) = absurd never

pub flown_to : (old mid new : Log) (r : Flown) → mid ≡ old → Lands mid r new → FlownTo old r new
flown_to old mid new flown.Nothing same back = absurd back
flown_to old mid new (flown.Settled rs) same back = rw (sym same) back
flown_to old mid new (flown.Failed fault) same back = rw (sym same) back

-- the departure of a flight, and then its commit and its return
pub flown_by : {D : Type 0} (disk : DiskModel D) (crashes : D → D → Type 0) (v out new : DriverState D) (r : Flown) (b count : ℕ) → Lands out.ledger.log r new.ledger.log → Leads disk crashes v (Begin ∷ []) (Begun b ∷ []) out → Leads disk crashes out landing_events (landed_answers r count) new →
    GoesBy disk crashes v (flown_answers r b count) new
flown_by disk crashes v out new flown.Nothing b count back begun landed = absurd back
flown_by disk crashes v out new r b count back begun landed = leads_then disk crashes v out new (Begin ∷ []) landing_events (Begun b ∷ []) (landed_answers r count) begun landed

-- the departure of a flight, if a part of the rest was answered
pub flown_part : {D : Type 0} (disk : DiskModel D) (crashes : D → D → Type 0) (v out : DriverState D) (b : ℕ) (lost : D) → Leads disk crashes v (Begin ∷ []) (Begun b ∷ []) out → LeadsPart disk crashes out (λ _. landing_events) lost → LeadsPart disk crashes v flight_events lost
flown_part disk crashes v out b lost begun part =
    record {
      given = Begun b ∷ part.given;
      mid = part.mid;
      moments = leads_then disk crashes v out part.mid (Begin ∷ []) (take (length part.given) landing_events) (Begun b ∷ []) part.given begun part.moments;
      left = part.left;
    }

pub flown_memory : (r : Flown) (b count : ℕ) → AllByRecursion (λ answer. answer ≢ Refused OutOfMemory) (flown_answers r b count)
flown_memory flown.Nothing b count = (no_refusal _ refl, tt)
flown_memory r b count = (no_refusal _ refl, (no_refusal _ refl, (no_refusal _ refl, tt)))

-- ---- the machine after it

-- what the machine's log is then
abbrev pub flew_log : Log → Flown → ℕ → Log
flew_log log flown.Nothing b = log
flew_log log (flown.Settled rs) b = with_settled log b
flew_log log (flown.Failed commit.Device) b = with_doubt log b
flew_log log (flown.Failed fault) b = log

-- whatever tickets it has given before
flew : (m : Machine) (r : Flown) (b count : ℕ) → (after_run m (flight_events (flown_answers r b count)) (flown_answers r b count)).log ≡ flew_log m.log r b
flew m r b count = grind arith

-- ---- the drill after it

module _ {D : Type 0} (disk : DiskModel D) (crashes : D → D → Type 0) (v w : DriverState D) (claims : List Claim) (all : IsHeld v.ledger claims) (count : ℕ) where
  abbrev log : Log
  log = v.ledger.log

  abbrev b : ℕ
  b = next_size log

  abbrev Runs : Flown → Type 0
  Runs r = Led disk crashes (started v.ledger) (flight_events (flown_answers r b count)) (flown_answers r b count) v w

  abbrev After : Flown → Machine
  After r = after_run (started v.ledger) (flight_events (flown_answers r b count)) (flown_answers r b count)

  by_base : (r : Flown) → Runs r → w.ledger.log.base ≡ (After r).log.base → w.ledger.log ≡ (After r).log
  by_base r run same = log_is w (After r) run.consistent run.represents same

  is : (r : Flown) → Runs r → FlownTo log r w.ledger.log → w.ledger.log ≡ flew_log log r b
  is r h1 h2 = grind (arith, by_base)

  none_out : {A B : Type 0} (f : A → B) (o : Option A) → option_map f o ≡ None → o ≡ None
  none_out f None same = refl
  none_out f (Some x) same = cc

  -- no flight is out
  home : (r : Flown) → Runs r → w.flight ≡ None
  home r h1 = grind (arith, none_out, flight_is)

  -- ---- the lines of a flight that is settled

  module _ (rs : List Release) (run : Runs (flown.Settled rs)) (to : FlownTo log (flown.Settled rs) w.ledger.log) where
    settled : w.ledger.log ≡ with_settled log b
    settled = is (flown.Settled rs) run to

    settles : settled_world w.ledger.log ≡ fold (settled_world log) (take b (pending log))
    settles = ap settled_world settled ∙ world-add log log.settled b

    same : (settled_world w.ledger.log).version ≡ (settled_world log).version
    same = ap (λ (v : World). v.version) settles ∙ fold_version (settled_world log) (take b (pending log))

    released : rs ≡ settling_releases log b
    released = grind (arith, settled)

    granted : AllByRecursion (IsGranted w.ledger.log) claims
    granted = grind (arith, settled, granted_from, take-append-drop)

    lines : collected_lines (settled_world w.ledger.log).version (settled_world w.ledger.log).count claims rs ≡ settled_lines (settled_world log).version (outs (settled_world log) (take b (pending log)))
    lines = grind (arith, same, settles, released, collected_are)

    rest : waiting (settled_world w.ledger.log).count claims ≡ claims_of (settled_world w.ledger.log) (pending w.ledger.log)
    rest =
        (λ i. waiting (settles i).count (all i))
        ∙ waiting_are (settled_world log) b (pending log)
        ∙ ap (λ v. claims_of v (drop b (pending log))) (sym settles)
        ∙ ap (claims_of (settled_world w.ledger.log)) (drop-drop b log.settled log.trail ∙ ap pending (sym settled))

  -- ---- whatever became of it

  pub flown_granted : (r : Flown) → Runs r → FlownTo log r w.ledger.log → AreGranted w.ledger.log r claims
  flown_granted (flown.Settled rs) run to = granted rs run to
  flown_granted r run to = tt

  -- a log with the same steps and as many of them settled has the same tickets
  tickets_stay : (g : Log) → w.ledger.log ≡ g → claims_of (settled_world g) (pending g) ≡ claims_of (settled_world log) (pending log) → IsHeld w.ledger claims
  tickets_stay g to same = all ∙ sym same ∙ ap (λ x. claims_of (settled_world x) (pending x)) (sym to)

  held_by : (r : Flown) → Runs r → FlownTo log r w.ledger.log → IsHeld w.ledger (left_by (settled_world w.ledger.log) r claims)
  held_by flown.Nothing run to = tickets_stay log to refl
  held_by (flown.Settled rs) run to = rest rs run to
  held_by (flown.Failed commit.Device) run to = tickets_stay (with_doubt log b) (is (flown.Failed commit.Device) run to) refl
  held_by (flown.Failed fault) run to = tickets_stay log (is (flown.Failed fault) run to) refl

  pub flown_ready : (r : Flown) (left : List Claim) → Runs r → FlownTo log r w.ledger.log → left ≡ left_by (settled_world w.ledger.log) r claims → IsReadyWith w left
  flown_ready r left run to same = (home r run, same ∙ held_by r run to)

  pub flown_reported : (r : Flown) → Runs r → FlownTo log r w.ledger.log → flown_lines (settled_world w.ledger.log) r claims ≡ flight_lines log (flown_answers r b count)
  flown_reported (flown.Settled rs) run to = lines rs run to
  flown_reported r run to = refl

  pub flown_leaves : (holds begun : Bool) (tickets : List (Option Reply)) (r : Flown) → Runs r → FlownTo log r w.ledger.log →
      drill_of w.ledger holds begun ≡ seen_as (after_run (record (machine_of (drill_of v.ledger holds begun)) { tickets = tickets }) (flight_events (flown_answers r b count)) (flown_answers r b count)) holds begun
  flown_leaves holds begun tickets r run to =
      ap (λ g. record { log = g; holds = holds; has_begun = begun }) (is r run to ∙ sym (flew (record (machine_of (drill_of v.ledger holds begun)) { tickets = tickets }) r b count))

-- a drill that sent a flight out and took it back
pub flies : {D : Type 0} (disk : DiskModel D) (crashes : D → D → Type 0) (d new : Drill D) (r : Flown) → new.holds ≡ d.holds → new.has_begun ≡ d.has_begun → IsHeld d.driver.ledger d.tickets.items → Begins d.driver →
    FlownTo d.driver.ledger.log r new.driver.ledger.log → GoesBy disk crashes d.driver (flown_answers r (next_size d.driver.ledger.log) (settled_count new.driver.ledger.log)) new.driver →
    Flies disk crashes d (flown_lines (settled_world new.driver.ledger.log) r d.tickets.items) new
flies disk crashes d new r holds begun all begins to by =
    let v = d.driver in
    let w = new.driver in
    let count = settled_count w.ledger.log in
    let given = flown_answers r (next_size v.ledger.log) count in
    let run = by (started v.ledger) begins.consistent begins.represents in
    record {
      given = given;
      with_memory = flown_memory r (next_size v.ledger.log) count;
      printed = flown_reported disk crashes v w d.tickets.items all count r run to;
      goes_on = λ tickets. (λ i. drill_of w.ledger (holds i) (begun i)) ∙ flown_leaves disk crashes v w d.tickets.items all count d.holds d.has_begun tickets r run to;
      moments = by;
    }
