-- Each call of a driver simulates an event of the machine, and so a driver represents the machine of a whole run.
use Rattle.std.proofs.Common.{◌≡◌, ℕ, ◌+◌, ◌≤◌, length, Option, Some, None, IfSome, subst, arith, Result, Ok, Err, refl, sym, ap, ◌∙◌, inl, inr, Bool, true, false, ◌∷◌, [], cond, is_some, ◌-◌, List, map}
use Rattle.std.proofs.lemmas.Bool.Decides.{nat_tests}
use Rattle.std.specs.Option.{option_map}
use Rattle.std.proofs.lemmas.List.{length-take}
use Rattle.coord_ledger.specs.Facade.{DoubtFits, DriverState, FitsOut, FlightFits, FlightState, HoldsFlight, IsConsistent, IsConsistentLog, LedgerState, flight_out, machine_of, started, Answer, Claim, Fresh, Handed, HandedTo, IsOneOf, Machine, Refusal, RefusesStep, Repeat, Simulates, Step, Submit, accepted_count, after_submit, answer_to, claimed, to_submit, verdict, Begin, Begun, Nothing, Refused, answers, keeps_store, next_size, pending, cannot_flush, Finish, Finished, Log, Mark, at_home, log_back, settled_count, taken_back, to_finish, Crash, ImagesGiveOneOf, IsReopened, Opened, adopted, kept, kept_by, settled_world, world_after, Event, Represents, after, crashed, goes_to, is_crash, rebased}
use Rattle.coord_world.specs.declared.verdicts.Verdict.{Verdict}
use Rattle.coord_ledger.specs.declared.handed.Handed.TheVariants.{Accepted, Repeated}
use Rattle.coord_ledger.proofs.machine.ConsistentSteps.{reply_is}
use Rattle.coord_types.specs.declared.limits.TheConstants.{MAX_BATCH_STEPS}
use Rattle.coord_types.specs.declared.refusals.Refusal.TheVariants.{OutOfMemory}
use Rattle.coord_ledger.proofs.runs.Calls.{Departs, departs_own}
use Rattle.coord_disk.specs.Model.DiskModel.{DiskModel}
use Rattle.coord_store.proofs.Exclusion.{recovered_is_one}
use Rattle.coord_world.specs.Facade.{World}
use Rattle.coord_ledger.proofs.machine.ConsistentFlights.{kept_more}
use Rattle.coord_ledger.proofs.machine.Lists.{one_mapped}
use Rattle.coord_ledger.proofs.machine.Logs.{count_after, rebased_base, world-add}
use Rattle.coord_ledger.specs.laws.Rebasing.{rebased_machine}
use Rattle.coord_ledger.proofs.machine.Rebased.{crash_reopens, rebased_answers_alike, rebased_goes_on}
use Rattle.coord_ledger.proofs.machine.SettledStays.{settled_stays}
use Rattle.coord_ledger.specs.declared.events.Answer.TheVariants as answer

-- ---- what the type of a driver keeps of its parts makes its machine consistent

module _ {D : Type 0} (l : LedgerState D) where
  flight_fits : (f : Option (FlightState D)) → HoldsFlight l f → IfSome l.out (FitsOut l.log) → FlightFits l.log (option_map flight_out f)
  flight_fits None own fits = tt
  flight_fits (Some f) own fits = subst (λ o. IfSome o (FitsOut l.log)) own.size fits

  doubt_fits : (f : Option (FlightState D)) (o : Option ℕ) → HoldsFlight l f → IfSome o (λ b. (1 ≤ b) × (l.log.settled + b ≤ length l.log.trail)) → IfSome o (λ _. l.out ≡ None) → DoubtFits l.log (option_map flight_out f) o
  doubt_fits f o h1 h2 h3 = grind (arith, nat_tests)

pub own_consistent : {D : Type 0} (d : DriverState D) → HoldsFlight d.ledger d.flight → IsConsistentLog d.ledger.log → IfSome d.ledger.out (FitsOut d.ledger.log) → IfSome d.ledger.log.doubt (λ b. (1 ≤ b) × (d.ledger.log.settled + b ≤ length d.ledger.log.trail)) → IfSome d.ledger.log.doubt (λ _. d.ledger.out ≡ None) →
    IsConsistent (machine_of d (started d.ledger))
own_consistent d own log fits doubted stopped = grind (arith, nat_tests, flight_fits, doubt_fits)

-- ---- a step is handed in: an event of the driver's machine

module _ {D : Type 0} (d : DriverState D) (new : LedgerState D) (x : Step) (own : HoldsFlight new d.flight) where
  abbrev later : DriverState D
  later = record { ledger = new; flight = d.flight }

  -- where this is said to the step
  said : (v : Result Verdict Refusal) (a : Answer) → verdict d.ledger.log x ≡ v → IsOneOf a (to_submit (accepted_count d.ledger.log + 1) v) →
      ((m : Machine) → machine_of later (after_submit (machine_of d m) x v a) ≡ after_submit (machine_of d m) x v a) → Simulates d (Submit x) a later
  said v a judged one leaves = grind (arith, nat_tests)

  same : new ≡ d.ledger → (m : Machine) → machine_of later m ≡ machine_of d m
  same now m = ap (λ (l : LedgerState D). machine_of (record { ledger = l; flight = d.flight }) m) now

  refused : (e : Refusal) → new ≡ d.ledger → (v : Result Verdict Refusal) → verdict d.ledger.log x ≡ v → RefusesStep e v → Simulates d (Submit x) (answer.Refused e) later
  refused e h1 v h2 h3 = grind (arith, nat_tests, said, same)

  pub simulates_handed : (r : Result Handed Refusal) → HandedTo d.ledger x r new → Simulates d (Submit x) (answer_to r) later
  simulates_handed (Ok (Accepted t)) to =
      let n = ap (λ (c : Claim). c.step) (to.claims ∙ ap (claimed x) (reply_is d.ledger.log x to.kind to.judged)) in
      said (Ok (Fresh to.kind)) (answer.Accepted t.step) to.judged (inl (ap answer.Accepted n))
      (λ m. ap (λ (l : LedgerState D). machine_of (record { ledger = l; flight = d.flight }) (after_submit (machine_of d m) x (Ok (Fresh to.kind)) (answer.Accepted t.step))) to.now)
  simulates_handed (Ok (Repeated t)) to = said (Ok (Repeat to.kept)) (answer.Repeated t.step) to.judged (inl (ap (λ (c : Claim). answer.Repeated c.step) to.claims)) (λ m. ap (λ (l : LedgerState D). machine_of (record { ledger = l; flight = d.flight }) (after_submit (machine_of d m) x (Ok (Repeat to.kept)) (answer.Repeated t.step))) to.now)
  simulates_handed (Err e) to = refused e to.now (verdict d.ledger.log x) refl to.why

-- ---- a flight goes out, or none does: an event of the driver's machine

module _ {D : Type 0} (d : DriverState D) (own : HoldsFlight d.ledger d.flight) where
  out_is : (f : Option (FlightState D)) → HoldsFlight d.ledger f → is_some d.ledger.out ≡ is_some (option_map flight_out f)
  out_is None none = ap is_some none
  out_is (Some f) own = ap is_some own.size

  home_is : keeps_store d.ledger ≡ cannot_flush (is_some (option_map flight_out d.flight)) d.ledger.log
  home_is = ap (λ b. cannot_flush b d.ledger.log) (out_is d.flight own)

  -- an answer that the ledger may_begin give
  may_begin : (home : Bool) → keeps_store d.ledger ≡ home → (a : Answer) → IsOneOf a (cond home (Nothing ∷ []) (Begun (next_size d.ledger.log) ∷ Refused OutOfMemory ∷ [])) → (m : Machine) → IsOneOf a (answers (machine_of d m) Begin)
  may_begin home is a one m = subst (λ b. IsOneOf a (cond b (Nothing ∷ []) (Begun (next_size d.ledger.log) ∷ Refused OutOfMemory ∷ []))) (sym is ∙ home_is) one

  pub simulates_next : (f : FlightState D) (left : LedgerState D) → Departs d.ledger left f → Simulates d Begin (Begun (length f.steps)) (record { ledger = left; flight = Some f })
  simulates_next f left departs =
      let size = ap (λ (g : FlightState D). length g.steps) departs.is ∙ length-take MAX_BATCH_STEPS (pending d.ledger.log) in
      record {
        allowed = may_begin false departs.goes (Begun (length f.steps)) (inl (ap Begun size));
        leaves = λ m. λ i. record m { log = ap (λ (l : LedgerState D). l.log) departs.now i; flight = Some (record { size = length f.steps; mark = ap (λ (g : FlightState D). g.mark) departs.is i }) };
        own = departs_own d.ledger left f departs;
      }

  pub simulates_nothing : keeps_store d.ledger ≡ true → Simulates d Begin Nothing d
  simulates_nothing home = record { allowed = may_begin true home Nothing (inl refl); leaves = λ m. refl; own = own }

  pub simulates_not_begun : keeps_store d.ledger ≡ false → Simulates d Begin (Refused OutOfMemory) d
  simulates_not_begun goes = record { allowed = may_begin false goes (Refused OutOfMemory) (inr (inl refl)); leaves = λ m. refl; own = own }

-- ---- a flight comes back: an event of the driver's machine

module _ {D : Type 0} (d : DriverState D) (f : FlightState D) (holds : d.flight ≡ Some f) where
  may_finish : (a : Answer) → IsOneOf a (to_finish (settled_count d.ledger.log) (length f.steps) f.mark) → (m : Machine) → IsOneOf a (answers (machine_of d m) Finish)
  may_finish a one m = rw holds one

  counted : (log : Log) (b : ℕ) (k : Mark) → IsOneOf (Finished (settled_count (log_back log b k))) (to_finish (settled_count log) b k)
  counted log b k = grind (arith, nat_tests)

  -- the flight is back
  pub simulates_back : (back : LedgerState D) → back ≡ taken_back d.ledger (length f.steps) f.mark f.disk → Simulates d Finish (Finished (settled_count back.log)) (at_home back)
  simulates_back back taken = grind (arith, nat_tests, same, may_finish, counted)

-- ---- the disk crashes, and a ledger is made again: an event of the driver's machine

pub simulates_opened : {D : Type 0} (d : DriverState D) (l : LedgerState D) (model : DiskModel D) (crashes : D → D → Type 0) (before : D) → IsConsistent (machine_of d (started d.ledger)) →
    ImagesGiveOneOf (model.keeps_model before) (model.present before) d.ledger.log (kept_by d.ledger.log.settled (option_map flight_out d.flight) d.ledger.log.doubt) → model.keeps_model before ≡ true → IsReopened model crashes before l → Simulates d Crash (Opened (settled_world l.log).count) (at_home l)
simulates_opened {D} d l model crashes before is images keeps opened =
    let log = d.ledger.log in
    let from = opened.from keeps in
    let one = images keeps from.image from.allowed in
    let n = one.steps in
    let world : opened.world ≡ world_after log n = recovered_is_one from.image opened.world (world_after log n) from.recovered one.recovered in
    let more = kept_more (machine_of d (started d.ledger)) n is one.allowed in
    let le : n ≤ length log.trail = omega (arith, more.is, more.within) in
    let count : opened.world.count ≡ log.base.count + n = ap (λ (w : World). w.count) world ∙ count_after log n le in
    let back : opened.world.count - log.base.count ≡ n = omega (arith, count) in
    rw opened.is (record {
      allowed = λ m. rw count (one_mapped (λ k. Opened (log.base.count + k)) n (kept (machine_of d m)) one.allowed);
      leaves = λ m. ap (λ w. record (adopted w) { released = m.released; replied = m.replied }) (world ∙ ap (world_after log) (sym back));
      own = refl;
    })

-- ---- a whole run

-- any event but a crash is what the machine makes of it
calmly : (t : Machine) (e : Event) (a : Answer) → is_crash e ≡ false → goes_to t e a ≡ after t e a
calmly t Crash a calm = let no : ⊥ = cc in absurd no
calmly t e a calm = refl

-- a number of steps for the answer to a crash
one_of : (base : ℕ) (a : Answer) (ns : List ℕ) → IsOneOf a (map (λ n. Opened (base + n)) ns) → (n : ℕ) × IsOneOf n ns × (a ≡ Opened (base + n))
one_of base a [] one = absurd one
one_of base a (n ∷ ns) (inl same) = (n, inl refl, same)
one_of base a (n ∷ ns) (inr one) = let more = one_of base a ns one in (more.0, inr more.1, more.2)

module _ {D : Type 0} (d new : DriverState D) (s : Machine) (is : IsConsistent s) (represents : Represents d s) where
  pub represents_allowed : (e : Event) (a : Answer) → Simulates d e a new → IsOneOf a (answers s e)
  represents_allowed e a simulates = subst (IsOneOf a) (ap (λ m. answers m e) represents.is ∙ rebased_answers_alike s represents.by e is represents.within) (simulates.allowed s)

  -- the machine's next state
  goes : (e : Event) (a : Answer) (t : Machine) → Simulates d e a new → goes_to (rebased_machine s represents.by) e a ≡ t → machine_of new t ≡ t
  goes e a t simulates to = rw (sym (ap (λ m. goes_to m e a) represents.is ∙ to)) (simulates.leaves s)

  represents_on : (e : Event) (a : Answer) → is_crash e ≡ false → Simulates d e a new → Represents new (after s e a)
  represents_on e a calm simulates = record {
    by = represents.by;
    within = omega (arith, represents.within, (settled_stays s e a is (represents_allowed e a simulates)).settled);
    is = goes e a (rebased_machine (after s e a) represents.by) simulates (calmly (rebased_machine s represents.by) e a calm ∙ rebased_goes_on s represents.by e a is represents.within calm (represents_allowed e a simulates));
    own = simulates.own;
  }

  represents_opened : (a : Answer) → Simulates d Crash a new → Represents new (after s Crash a)
  represents_opened a simulates =
      let one = one_of s.log.base.count a (kept s) (represents_allowed Crash a simulates) in
      let n = one.0 in
      let keeps = kept_more s n is one.1 in
      let from : (rebased s.log represents.by).base.count ≡ s.log.base.count + represents.by = rebased_base s.log represents.by represents.within is.log in
      let back : s.log.base.count + n - s.log.base.count ≡ n = omega arith in
      let rest : represents.by + (s.log.base.count + n - (rebased s.log represents.by).base.count) ≡ n = omega (arith, from, keeps.is, represents.within) in
      let world = sym (world-add s.log represents.by (s.log.base.count + n - (rebased s.log represents.by).base.count)) ∙ ap (world_after s.log) rest in
      let to : goes_to (rebased_machine s represents.by) Crash a ≡ rebased_machine (crashed s n) n =
      ap (goes_to (rebased_machine s represents.by) Crash) one.2 ∙ ap (λ w. record (adopted w) { released = s.released; replied = s.replied }) world ∙ sym (crash_reopens s n) in
      let reopened : Represents new (crashed s n) = record { by = n; within = omega arith; is = goes Crash a (rebased_machine (crashed s n) n) simulates to; own = simulates.own } in
      rw one.2 (rw back reopened)

  pub represents_to : (e : Event) (a : Answer) → Simulates d e a new → Represents new (after s e a)
  represents_to Crash a simulates = represents_opened a simulates
  represents_to e a simulates = represents_on e a refl simulates
