-- A line that was carried out leads from the drill's state before it to the state after it.
use Rattle.std.proofs.Common.{◌≡◌, ◌⊎◌, ℕ, ◌+◌, ◌≤◌, true, false, List, [], ◌∷◌, ◌++◌, Option, Some, refl, sym, ap, ◌∙◌, subst, arith, inl, inr, append-nil}
use Rattle.std.proofs.lemmas.Bool.{false≢true}
use Rattle.std.specs.List.{AllByRecursion}
use Rattle.std.specs.Option.{option_map}
use Rattle.coord_disk.proofs.MomentLemmas.{weaker}
use Rattle.coord_disk.specs.Model.DiskModel.{DiskModel}
use Rattle.coord_disk.specs.Model.Moments.{LeavesOnly}
use Rattle.coord_store.specs.Facade.{GivesEither, Recovered}
use Rattle.coord_store.specs.Migrating.{risen}
use Rattle.coord_world.proofs.Facade.{no_world_legal}
use Rattle.coord_world.specs.Facade.{no_world}
use Rattle.coord_ledger.specs.declared.events.Event.{Event}
use Rattle.coord_ledger.specs.Facade.{CrashPrefix, DriverState, EachMoment, HasFailed, IsConsistent, LedgerState, Log, Machine, MayBegin, Represents, adopted, after, disk_held, failed_until, has_stopped, log_over, machine_over, run, settled_count, settled_world, started}
use Rattle.coord_ledger.proofs.follows.Follows.{count_is}
use Rattle.coord_ledger.proofs.machine.Lists.{all_both, all_raised}
use Rattle.coord_drill.specs.Answered.{IsAnswered, asked_lines}
use Rattle.coord_drill.specs.Drill.{DrillState, after_asked, line_events}
use Rattle.coord_drill.specs.Reported.{reported_by}
use Rattle.coord_drill.specs.declared.asked.Asked.TheVariants.{Version2}
use Rattle.coord_drill.specs.Facade.{Answer, Asked, Carries, Drill, GivesEmpty, GivesRaised, IsEmptyLog, IsSettled, Leads, Led, LineIsPromised, Moves, Place, RaisesEmpty, RaisesTo, RunsOn, RunsTo, Stands, start, state_of}
use Rattle.coord_drill.proofs.does.Moments.{is_version}
use Rattle.coord_drill.proofs.course.Empty.{risen_empty, stays_empty}
use Rattle.coord_drill.proofs.course.Settled.{settled_grows, reported_settled}

-- ---- a store that was just made

module _ {D : Type 0} (disk : DiskModel D) (crashes : D → D → Type 0) where
  -- a run may begin, so whatever a crash may leave survives
  prefix_of : (d : DriverState D) (here : D) (may : MayBegin disk crashes d) → disk_held d ≡ Some here → disk.keeps_model here ≡ true → (s : Machine) → started d.ledger ≡ s → CrashPrefix s true (disk.present here)
  prefix_of d here may there on s same =
      let so_far = may.so_far in
      let last : so_far.disk ≡ here = cc (so_far.holds, there) in
      let first : may.first ≡ here = sym so_far.moments.0 ∙ last in
      rw (sym same) (λ _ image is. so_far.moments.1 (ap disk.keeps_model first ∙ on) image (rw last is))

  pub stands_first : (d : Drill D) (begun : D) → MayBegin disk crashes d.driver → disk_held d.driver ≡ Some begun → disk.keeps_model begun ≡ true → d.driver.ledger.log ≡ log_over (no_world 1) → d.holds ≡ false → d.has_begun ≡ false → Stands disk d (start begun)
  stands_first d begun may there on empty holds none =
      let same : started d.driver.ledger ≡ adopted (no_world 1) = ap (λ (log : Log). machine_over log) empty in
      record {
        state = λ i. record { log = sym empty i; holds = sym holds i; has_begun = sym none i };
        holds = there;
        keeps = on;
        consistent = subst IsConsistent same may.so_far.consistent;
        represents = subst (Represents d.driver) same may.so_far.represents;
        settled = tt;
        empty = λ _. inl refl;
        survives = prefix_of d.driver begun may there on (adopted (no_world 1)) same;
      }

  -- ---- requests

  -- how often the disk has failed in events
  pub failed_is : (old new : D) (before now : Option D) (es : List Event) (given : List Answer) → ((n : ℕ) → HasFailed disk.failures before n → HasFailed disk.failures now (n + failed_until es given)) → before ≡ Some old → now ≡ Some new → disk.failures new ≡ disk.failures old + failed_until es given
  failed_is old new before now es given failed there here =
      let counts : Some (disk.failures new) ≡ Some (disk.failures old + failed_until es given) = sym (ap (option_map disk.failures) here) ∙ failed (disk.failures old) (ap (option_map disk.failures) there) in
      cc

  -- events of a driver are a run on the disk that it held
  pub runs_on : (d new : DriverState D) (s : Machine) (es : List Event) (given : List Answer) (old : D) → disk_held d ≡ Some old → disk.keeps_model old ≡ true → (led : Led disk crashes s es given d new) → (now : D) × (disk_held new ≡ Some now) × (disk.keeps_model now ≡ true) × RunsOn disk crashes s es given old now
  runs_on d new s es given old there keeps led =
      let to = led.moments old there keeps in
      (to.0, to.1, to.2, record { in_range = led.in_range; answered = led.answered; moments = to.3; failed = failed_is old to.0 (disk_held d) (disk_held new) es given led.failed there to.1 })

  -- after them whatever a crash may leave survives
  survives_after : (s : Machine) (es : List Event) (gs : List Answer) (old new : D) → EachMoment disk crashes true s es gs old new → CrashPrefix (run s es gs) true (disk.present new)
  survives_after s [] [] old new moments = moments.1
  survives_after s [] (a ∷ gs) old new moments = absurd moments
  survives_after s (e ∷ es) [] old new moments = absurd moments
  survives_after s (e ∷ es) (a ∷ gs) old new moments = survives_after (after s e a) es gs moments.1.0 new moments.1.1.1

  -- a later state, which the drill has reached
  pub record Reached (d new : Drill D) (p : Place D) (a : Asked) (given : List Answer) (text : List ℕ) : Type 0 where
    pub place : Place D
    pub state : place.state ≡ state_of new
    pub lines : place.lines ≡ p.lines + 1
    pub printed : place.printed ≡ p.printed ++ text
    pub reported : place.reported ≡ p.reported ++ reported_by p.state a given
    pub moves : Moves disk crashes (Some a) given p place
    pub stands : Stands disk new place

  -- the settled world of an empty log
  raised_to : (log : Log) → IsEmptyLog log → risen (settled_world log) ≡ no_world 2
  raised_to log (inl one) = ap (λ (g : Log). risen (settled_world g)) one ∙ risen_empty
  raised_to log (inr two) = ap (λ (g : Log). risen (settled_world g)) two

  none_settled : (log : Log) → IsEmptyLog log → settled_count log ≡ 0
  none_settled log (inl one) = ap settled_count one
  none_settled log (inr two) = ap settled_count two

  pub none_stopped : (log : Log) → IsEmptyLog log → has_stopped log ≡ false
  none_stopped log (inl one) = ap has_stopped one
  none_stopped log (inr two) = ap has_stopped two

  gives_empty : (log : Log) → IsEmptyLog log → (bytes : List ℕ) → GivesEither (settled_world log) (risen (settled_world log)) bytes → GivesEmpty 1 bytes ⊎ GivesEmpty 2 bytes
  gives_empty log (inl one) bytes (inl own) = inl (subst (Recovered bytes) (ap settled_world one) own, no_world_legal 1)
  gives_empty log (inr two) bytes (inl own) = inr (subst (Recovered bytes) (ap settled_world two) own, no_world_legal 2)
  gives_empty log empty bytes (inr raised) = inr (subst (Recovered bytes) (raised_to log empty) raised, no_world_legal 2)

  -- the line `version 2` uses no answer
  pub carries_raised : (d new : Drill D) → IsEmptyLog d.driver.ledger.log → RaisesTo disk crashes d.driver new.driver → new.holds ≡ d.holds → new.has_begun ≡ d.has_begun → Carries disk crashes d Version2 [] new
  unfolding asked_lines after_asked
  carries_raised d new empty to holds begun = grind (arith, raised_to)

  module _ (d new : Drill D) (p : Place D) (at : Stands disk d p) where
    by_events : (a : Asked) (given : List Answer) (q : Place D) → is_version a ≡ false → RunsTo disk crashes (line_events p.state.holds a given) given p q → Moves disk crashes (Some a) given p q
    by_events Version2 given q other to = absurd (false≢true (sym other))
    by_events a given q other to = to

    pub reached : (a : Asked) (given : List Answer) (text : List ℕ) → is_version a ≡ false → IsAnswered (state_of d) a given text (state_of new) → Leads disk crashes d.driver (line_events d.holds a given) given new.driver → Reached d new p a given text
    reached a given text other answered leads =
        let es = line_events d.holds a given in
        let led = leads p.machine at.consistent at.represents in
        let there = runs_on d.driver new.driver p.machine es given p.disk at.holds at.keeps led in
        let s = run p.machine es given in
        let reported = reported_by p.state a given in
        let before = all_raised (λ k. k) (settled_count p.machine.log) (settled_count s.log) p.reported (settled_grows p.machine es given led.in_range at.consistent led.answered) at.settled in
        let later : IsSettled s reported = subst (λ (t : DrillState). IsSettled s (reported_by t a given)) (sym at.state)
        (subst (λ n. AllByRecursion (λ k. k ≤ n) (reported_by (state_of d) a given)) (count_is new.driver s led.consistent led.represents) (reported_settled (state_of d) (state_of new) a given text answered)) in
        let q : Place D = record { state = state_of new; lines = p.lines + 1; printed = p.printed ++ text; reported = p.reported ++ reported; machine = s; disk = there.0 } in
        record {
          place = q;
          state = refl;
          lines = refl;
          printed = refl;
          reported = refl;
          moves = by_events a given q other (subst (λ (t : DrillState). RunsTo disk crashes (line_events t.holds a given) given p q) (sym at.state) (refl, there.3));
          stands = record {
            state = refl;
            holds = there.1;
            keeps = there.2;
            consistent = led.consistent;
            represents = led.represents;
            settled = all_both (λ k. k ≤ settled_count s.log) p.reported reported before later;
            empty = λ none. stays_empty (state_of d) (state_of new) given text (subst (λ (t : DrillState). t.has_begun ≡ false → IsEmptyLog t.log) at.state at.empty) none a answered;
            survives = survives_after p.machine es given p.disk there.0 there.3.moments;
          };
        }

    -- each moment of the raising
    pub raises : IsEmptyLog d.driver.ledger.log → (old lost : D) → disk_held d.driver ≡ Some old → (has_stopped d.driver.ledger.log ≡ false → disk.keeps_model old ≡ true → LeavesOnly disk old lost (GivesRaised d.driver)) → RaisesEmpty disk p.disk lost
    raises empty old lost there moments =
        let same : old ≡ p.disk = cc (there, at.holds) in
        let leaves = moments (none_stopped d.driver.ledger.log empty) (ap disk.keeps_model same ∙ at.keeps) in
        rw (sym same) (weaker disk old lost (GivesRaised d.driver) (λ bytes. GivesEmpty 1 bytes ⊎ GivesEmpty 2 bytes) leaves (gives_empty d.driver.ledger.log empty))

    -- no step was reported
    pub none_reported : IsEmptyLog d.driver.ledger.log → IsSettled (adopted (no_world 2)) p.reported
    none_reported empty =
        let count : settled_count p.machine.log ≡ 0 = sym (count_is d.driver p.machine at.consistent at.represents) ∙ none_settled d.driver.ledger.log empty in
        all_raised (λ k. k) (settled_count p.machine.log) (settled_count (adopted (no_world 2)).log) p.reported (omega (arith, count)) at.settled

    -- so is the line `version 2`
    pub reached_raised : (given : List Answer) (text : List ℕ) → IsEmptyLog d.driver.ledger.log → RaisesTo disk crashes d.driver new.driver → Reached d new p Version2 given text
    unfolding reported_by
    reached_raised given text empty to =
        let log_is : new.driver.ledger.log ≡ log_over (no_world 2) = ap (λ (l : LedgerState D). l.log) to.is ∙ ap log_over (raised_to d.driver.ledger.log empty) in
        let same : started new.driver.ledger ≡ adopted (no_world 2) = ap machine_over log_is in
        let old : to.old ≡ p.disk = cc (to.there, at.holds) in
        let on = to.keeps (ap disk.keeps_model old ∙ at.keeps) in
        record {
          place = record { state = state_of new; lines = p.lines + 1; printed = p.printed ++ text; reported = p.reported; machine = adopted (no_world 2); disk = to.raised };
          state = refl;
          lines = refl;
          printed = refl;
          reported = sym (append-nil p.reported);
          moves = (refl, raises empty to.old to.raised to.there to.moments, to.failed ∙ ap disk.failures old);
          stands = record {
            state = refl;
            holds = to.now;
            keeps = on;
            consistent = subst IsConsistent same to.begins.so_far.consistent;
            represents = subst (Represents new.driver) same to.begins.so_far.represents;
            settled = none_reported empty;
            empty = λ _. inr log_is;
            survives = prefix_of new.driver to.raised to.begins to.now on (adopted (no_world 2)) same;
          };
        }

    pub reached_by : (a : Asked) (text : List ℕ) → LineIsPromised disk d a → (carries : Carries disk crashes d a text new) → Reached d new p a carries.given text
    reached_by Version2 text promised carries = reached_raised carries.given text (promised.1 refl) carries.moments
    reached_by a text promised carries = reached a carries.given text refl carries.answered carries.moments
