-- What a crash may leave at each moment of an event, and of a run.
use Rattle.std.proofs.Common.{◌≡◌, ◌⊎◌, ℕ, ◌+◌, Bool, true, false, List, [], ◌∷◌, ◌++◌, length, Option, Some, None, Result, Ok, Err, refl, sym, ap, ◌∙◌, subst, inl, inr, IfSome, IsErrOf, MatchResult, arith}
use Rattle.std.proofs.lemmas.Bool.Decides.{nat_tests}
use Rattle.std.specs.Option.{option_map}
use Rattle.coord_disk.specs.Model.Moments.{LeavesOnly}
use Rattle.coord_disk.specs.Model.Present.{IsImage}
use Rattle.coord_disk.specs.Model.DiskModel.{DiskModel, IsModel}
use Rattle.coord_disk.proofs.MomentLemmas.{started, weaker}
use Rattle.coord_store.specs.Kept.{GivesEither, IsOnlyWorld}
use Rattle.coord_store.specs.declared.faults.CommitFault.{CommitFault}
use Rattle.coord_store.specs.declared.faults.CommitFault.TheVariants as fault
use Rattle.coord_world.specs.protocol.Next.{fold}
use Rattle.coord_ledger.specs.Facade.{Answer, Commit, Committed, Crash, CrashPrefix, DiskEffect, DiskSurvives, DriverState, EachMoment, Event, Failed, FlightGives, FlightState, Good, HoldsFlight, IsConsistent, IsLost, IsOneOf, IsOut, IsReopenFault, IsReopened, IsSafe, LeavesWithin, LedgerGives, LedgerState, Machine, Mark, New, Reopens, Represents, RunFaultKind, Survives, Torn, Touches, after, disk_held, disk_with, flight_out, found_by_crash, is_crash, kept, marked, run, touches_disk}
use Rattle.coord_ledger.specs.laws.Commits.{CommitIsSafe}
use Rattle.coord_ledger.proofs.follows.Follows.{flight_gives, ledger_images, flight_is, log_rebased, given_follows}
use Rattle.coord_ledger.proofs.machine.Consistent.{stays_consistent}
use Rattle.coord_ledger.proofs.machine.Safe.{given_survives, kept_is_safe}

-- ---- a commit

-- while a new flight is committed, the machine is consistent with the state after a failure of the device
torn_is_consistent : (s : Machine) (b : ℕ) → IsConsistent s → s.flight ≡ Some (record { size = b; mark = New }) → IsConsistent (after s Commit (Failed fault.Device))
torn_is_consistent s b is out = grind (arith, nat_tests, stays_consistent)

pub commit_is_safe : CommitIsSafe
commit_is_safe s b is out = (safe s.log.settled (inl refl), safe (s.log.settled + b) (inr (inl refl)))
  where
    safe : (n : ℕ) → IsOneOf n (s.log.settled ∷ (s.log.settled + b) ∷ []) → IsSafe s n
    safe n one =
        let may : IsOneOf n (kept (after s Commit (Failed fault.Device))) = rw out one in
        let of_torn = kept_is_safe (after s Commit (Failed fault.Device)) n (torn_is_consistent s b is out) may in
        record { legal = of_torn.legal; released = of_torn.released; again = of_torn.again; replied = of_torn.replied; accepted = of_torn.accepted }

module _ {D : Type 0} (d : DriverState D) (s : Machine) (f : FlightState D) (is : IsConsistent s) (represents : Represents d s) (holds : d.flight ≡ Some f) where
  out : (m : Mark) → f.mark ≡ m → s.flight ≡ Some (record { size = length f.steps; mark = m })
  out m mark = sym (flight_is d s represents) ∙ ap (option_map flight_out) holds ∙ ap (λ x. Some (record { size = length f.steps; mark = x })) mark

  own : IsOut d.ledger f
  own = subst (HoldsFlight d.ledger) holds represents.own

  -- what bytes give while it is torn
  pub either_survives : f.mark ≡ New → (bytes : List ℕ) → GivesEither f.world (fold f.world f.steps) bytes → Survives (after s Commit (Failed fault.Device)) bytes
  either_survives new bytes gives =
      let g : FlightState D = record f { mark = Torn } in
      let torn : DriverState D = record { ledger = d.ledger; flight = Some (record f { mark = Torn }) } in
      let its : IsOut d.ledger (record f { mark = Torn }) = record { size = own.size; first = own.first; steps = own.steps; world = own.world } in
      let there : Represents torn (after s Commit (Failed fault.Device)) =
      record { by = represents.by; within = represents.within; is = λ i. record s { log = log_rebased d s represents i; flight = ap (marked Torn) (sym (out New new)) i }; own = its } in
      given_survives (after s Commit (Failed fault.Device)) bytes (torn_is_consistent s (length f.steps) is (out New new))
      (given_follows torn (after s Commit (Failed fault.Device)) bytes there (flight_gives d.ledger g bytes its gives))

  -- what bytes give while a commit is refused for memory
  pub only_survives : f.mark ≡ New → (bytes : List ℕ) → IsOnlyWorld f.world bytes → Survives s bytes
  only_survives new bytes gives =
      given_survives s bytes is
      (given_follows d s bytes represents
      (rw holds (flight_gives d.ledger f bytes own (rw new gives))))

-- ---- between two events

module _ {D : Type 0} (model : DiskModel D) (d : DriverState D) (s : Machine) (is : IsConsistent s) (represents : Represents d s) where
  -- with a flight out
  pub flight_survives : (f : FlightState D) → d.flight ≡ Some f → (model.keeps_model f.disk ≡ true → FlightGives model.present f) → DiskSurvives model (disk_held d) s
  flight_survives f holds gives disk there on image here =
      let same : f.disk ≡ disk = cc (ap (disk_with d.ledger.disk) holds, there) in
      let given = gives (ap model.keeps_model same ∙ on) image (rw same here) in
      given_survives s image is
      (given_follows d s image represents
      (rw holds (flight_gives d.ledger f image (subst (HoldsFlight d.ledger) holds represents.own) given)))

  -- with the store at home
  pub home_survives : d.flight ≡ None → IfSome d.ledger.disk (λ x. model.keeps_model x ≡ true → LedgerGives model.present d.ledger x) → DiskSurvives model (disk_held d) s
  home_survives none gives disk there on image here =
      let at_home : d.ledger.disk ≡ Some disk = sym (ap (disk_with d.ledger.disk) none) ∙ there in
      let each = subst (λ o. IfSome o (λ x. model.keeps_model x ≡ true → LedgerGives model.present d.ledger x)) at_home gives in
      given_survives s image is
      (given_follows d s image represents
      (rw none (ledger_images d.ledger disk (model.keeps_model disk) model.present each on image here)))

-- ---- an event

-- what a result holds implies more of it
pub match_map : {A E : Type 0} {P P2 : A → Type 0} {Q Q2 : E → Type 0} (r : Result A E) → ((a : A) → P a → P2 a) → ((e : E) → Q e → Q2 e) → MatchResult r P Q → MatchResult r P2 Q2
match_map (Ok a) f g p = f a p
match_map (Err e) f g q = g e q

-- a commit's answer
abbrev pub commit_answer : {T : Type 0} → Result T CommitFault → Answer
commit_answer (Ok done) = Committed
commit_answer (Err why) = Failed why

module _ {D : Type 0} (model : DiskModel D) (crashes : D → D → Type 0) where
  within_event : (e : Event) (P : List ℕ → Type 0) (old new : D) → is_crash e ≡ false → LeavesOnly model old new P → LeavesWithin model crashes e P old new
  within_event Crash P old new other leaves = let no : ⊥ = cc in absurd no
  within_event e P old new other leaves = leaves

  module _ (laws : IsModel model) where
    -- nothing was done to the disk
    pub untouched : (s : Machine) (touches : Bool) (e : Event) (old new : D) → is_crash e ≡ false → new ≡ old → CrashPrefix s (model.keeps_model old) (model.present old) → Touches model crashes (model.keeps_model old) s touches e old new
    untouched s touches e old new other same prefix =
        record {
          untouched = λ _. same;
          inside = λ on. subst (LeavesWithin model crashes e (Survives s) old) (sym same)
              (within_event e (Survives s) old old other (started model laws old (Survives s) on (prefix on)));
        }

    pub kept_untouched : (s : Machine) (touches : Bool) (e : Event) (was now : Option D) → is_crash e ≡ false → now ≡ was → DiskSurvives model was s → DiskEffect model crashes s touches e was now
    kept_untouched s touches e was now other same survives old holds = record { new = old; holds = same ∙ holds; touched = untouched s touches e old old other refl (survives old holds) }

    -- an event but a commit and a crash does nothing to the disk
    pub answered_without_disk : (s : Machine) (e what : Event) (a : Answer) (was now : Option D) → e ≡ what → is_crash what ≡ false → found_by_crash s what a ≡ s → now ≡ was → DiskSurvives model was s →
        DiskEffect model crashes (found_by_crash s e a) (touches_disk e a) e was now
    answered_without_disk s e what a was now event other found same survives =
        rw event (rw found (kept_untouched s (touches_disk what a) what was now other same survives))

    -- a flight was committed, or not
    module _ (d : DriverState D) (s : Machine) (f g : FlightState D) (is : IsConsistent s) (represents : Represents d s) (holds : d.flight ≡ Some f) (survives : DiskSurvives model (disk_held d) s) (new : DriverState D) (now : disk_held new ≡ Some g.disk) where
      its_disk : disk_held d ≡ Some f.disk
      its_disk = ap (disk_with d.ledger.disk) holds

      -- at each moment of it a crash left only images that have P
      leaves : (found : Machine) (P : List ℕ → Type 0) → (model.keeps_model f.disk ≡ true → LeavesOnly model f.disk g.disk P) → ((bytes : List ℕ) → P bytes → Survives found bytes) → DiskEffect model crashes found true Commit (disk_held d) (disk_held new)
      leaves found P moments each old there =
          let same : f.disk ≡ old = cc (its_disk, there) in
          record {
            new = g.disk;
            holds = now;
            touched = record {
              untouched = λ no. let never : ⊥ = cc in absurd never;
              inside = λ on. rw (sym same) (weaker model f.disk g.disk P (Survives found) (moments (ap model.keeps_model same ∙ on)) each);
            };
          }

      -- the flight was left unchanged
      alone : g ≡ f → DiskEffect model crashes s false Commit (disk_held d) (disk_held new)
      alone same = kept_untouched s false Commit (disk_held d) (disk_held new) refl (now ∙ ap (λ (x : FlightState D). Some x.disk) same ∙ sym its_disk) survives

      pub commit_touches : {T : Type 0} (r : Result T CommitFault) →
          (model.keeps_model f.disk ≡ true → f.mark ≡ New → LeavesOnly model f.disk g.disk (GivesEither f.world (fold f.world f.steps))) →
          (model.keeps_model f.disk ≡ true → f.mark ≡ New → IsErrOf r fault.OutOfMemory → LeavesOnly model f.disk g.disk (IsOnlyWorld f.world)) →
          (f.mark ≡ New → MatchResult r (λ _. g.mark ≡ Good) (λ why. ((why ≡ fault.Device) × (g.mark ≡ Torn)) ⊎ ((why ≡ fault.OutOfMemory) × (g.mark ≡ New)))) →
          (f.mark ≡ Good → (r ≡ Err fault.Again) × (g ≡ f)) →
          (f.mark ≡ Torn → (r ≡ Err fault.Stopped) × (g ≡ f)) →
          DiskEffect model crashes (found_by_crash s Commit (commit_answer r)) (touches_disk Commit (commit_answer r)) Commit (disk_held d) (disk_held new)
      commit_touches {T} r either refused tried again stopped = by_mark f.mark refl
        where
          Goal : Result T CommitFault → Type 0
          Goal r = DiskEffect model crashes (found_by_crash s Commit (commit_answer r)) (touches_disk Commit (commit_answer r)) Commit (disk_held d) (disk_held new)

          by_result : f.mark ≡ New → (q : Result T CommitFault) → r ≡ q → Goal q
          by_result new (Ok done) same = leaves (after s Commit (Failed fault.Device)) (GivesEither f.world (fold f.world f.steps)) (λ on. either on new) (either_survives d s f is represents holds new)
          by_result new (Err why) same =
              elim (subst (λ q. MatchResult q (λ _. g.mark ≡ Good) (λ why. ((why ≡ fault.Device) × (g.mark ≡ Torn)) ⊎ ((why ≡ fault.OutOfMemory) × (g.mark ≡ New)))) same (tried new)) [
                | inl device ↦
                    rw device.0
                    (leaves (after s Commit (Failed fault.Device)) (GivesEither f.world (fold f.world f.steps)) (λ on. either on new) (either_survives d s f is represents holds new))
                | inr memory ↦
                    rw memory.0
                    (leaves s (IsOnlyWorld f.world) (λ on. refused on new (same ∙ ap Err memory.0)) (only_survives d s f is represents holds new))
              ]

          by_mark : (m : Mark) → f.mark ≡ m → Goal r
          by_mark New mark = by_result mark r refl
          by_mark Good mark = subst Goal (sym (again mark).0) (alone (again mark).1)
          by_mark Torn mark = subst Goal (sym (stopped mark).0) (alone (stopped mark).1)

  pub answered_commit : {E : Type 0} (s : Machine) (e : Event) (said : Answer) (answer : Result Answer E) (a : Answer) (was now new : Option D) → e ≡ Commit → answer ≡ Ok said → answer ≡ Ok a → now ≡ new →
      DiskEffect model crashes (found_by_crash s Commit said) (touches_disk Commit said) Commit was new → DiskEffect model crashes (found_by_crash s e a) (touches_disk e a) e was now
  answered_commit s e said answer a was now new event says ok is touches = grind (arith, nat_tests)

  -- the disk is returned as it was held
  pub lost_as_it_was : (s : Machine) (e : Event) (kind : RunFaultKind) (was : Option D) (lost : D) → is_crash e ≡ false → was ≡ Some lost → IsLost model crashes s e kind was lost
  lost_as_it_was s Crash kind was lost other there old holds = let no : ⊥ = cc in absurd no
  lost_as_it_was s e kind was lost other there old holds = cc

  -- ---- a crash

  -- P implies Q
  pub reopens_more : (P Q : List ℕ → Type 0) (old new : D) → Reopens model crashes P old new → ((bytes : List ℕ) → P bytes → Q bytes) → Reopens model crashes Q old new
  reopens_more P Q old new h1 h2 = grind (arith, nat_tests)

  -- the disk was crashed and opened again
  module _ (was : Option D) (s : Machine) (d : D) (held : was ≡ Some d) (survives : DiskSurvives model was s) where
    survives_each : (old new : D) → was ≡ Some old → (model.keeps_model d ≡ true → Reopens model crashes (IsImage (model.present d)) d new) → model.keeps_model old ≡ true → Reopens model crashes (Survives s) old new
    survives_each old new there moments on =
        let same : d ≡ old = cc (held, there) in
        rw (sym same)
        (reopens_more (IsImage (model.present d)) (Survives s) d new (moments (ap model.keeps_model same ∙ on)) (λ bytes here. survives d held (ap model.keeps_model same ∙ on) bytes here))

    pub crash_touches : (l : LedgerState D) (now : Option D) → IsReopened model crashes d l → now ≡ l.disk → DiskEffect model crashes s true Crash was now
    crash_touches l now opened at_home old there = record {
      new = opened.disk;
      holds = at_home ∙ ap (λ (m : LedgerState D). m.disk) opened.is;
      touched = record { untouched = λ no. let never : ⊥ = cc in absurd never; inside = λ on. survives_each old opened.disk there opened.moments on };
    }

    pub crash_lost : (kind : RunFaultKind) (lost : D) → (model.keeps_model d ≡ true → Reopens model crashes (IsImage (model.present d)) d lost) → IsReopenFault (model.keeps_model d) (model.present d) (model.present lost) kind →
        IsLost model crashes s Crash kind was lost
    crash_lost kind lost moments cause old there on =
        let same : d ≡ old = cc (held, there) in
        let keeps = ap model.keeps_model same ∙ on in
        record {
          reopens = survives_each old lost there moments on;
          opened = λ memory. let one = subst (IsReopenFault (model.keeps_model d) (model.present d) (model.present lost)) memory cause keeps in survives d held keeps (model.present lost).read one.allowed;
        }

  -- ---- a run

  pub moments_on : (keeps_model : Bool) (s : Machine) (events : List Event) (given : List Answer) (e : Event) (a : Answer) (first mid last : D) → EachMoment model crashes keeps_model s events given first mid →
      Touches model crashes keeps_model (found_by_crash (run s events given) e a) (touches_disk e a) e mid last → CrashPrefix (after (run s events given) e a) keeps_model (model.present last) →
      EachMoment model crashes keeps_model s (events ++ e ∷ []) (given ++ a ∷ []) first last
  moments_on keeps_model s [] [] e a first mid last moments touches prefix = (
    rw (sym moments.0) moments.1,
    (last, (rw (sym moments.0) touches, (refl, prefix))),
  )
  moments_on keeps_model s [] (b ∷ given) e a first mid last moments touches prefix = absurd moments
  moments_on keeps_model s (x ∷ events) [] e a first mid last moments touches prefix = absurd moments
  moments_on keeps_model s (x ∷ events) (b ∷ given) e a first mid last moments touches prefix =
      (moments.0, (moments.1.0, (moments.1.1.0, moments_on keeps_model (after s x b) events given e a moments.1.0 mid last moments.1.1.1 touches prefix)))
