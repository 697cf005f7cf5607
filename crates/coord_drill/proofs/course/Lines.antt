-- Lines, one after the other: each leaves the disk as the course says, also if it is cut short.
use Rattle.std.proofs.Common.{◌≡◌, ◌+◌, Bool, true, false, List, [], length, take, Some, refl, sym, ap, ◌∙◌, arith, subst, inl, inr, ℕ, cond, ◌∷◌, ◌++◌, Option, None, Result, Ok, Err, IfOk, OnOk, append-nil, append_assoc}
use Rattle.std.proofs.lemmas.Bool.{false≢true}
use Rattle.std.specs.Option.{option_map}
use Rattle.coord_disk.specs.Model.DiskModel.{DiskModel}
use Rattle.coord_ledger.specs.declared.events.Event.{Event}
use Rattle.coord_ledger.specs.Facade.{CrashPrefix, Machine, adopted, disk_held, run, front_world}
use Rattle.coord_drill.specs.Drill.{DrillState, line_events}
use Rattle.coord_drill.specs.declared.asked.Asked.TheVariants.{Crash, Version2}
use Rattle.coord_drill.specs.Facade.{Asked, CutShort, Cuts, Drill, Fault, IsEmptyLog, IsLeftBy, IsOfDisk, IsOfMemory, LineIsPromised, IsSettled, LacksMemory, LineResponds, MayCutShort, MayEndBy, Place, RaisesPart, RunsOn, Stands, failed_by, opens_disk, CarriesIf, CarriesLine, CutsIf, FirstCutShort, Goes, LineGoes, Moves, Prints, Refusal, Request, Responds, Step, Reports, UnlessSkipped, asked_in, bad_line, front_of, state_of, reported_in}
use Rattle.coord_drill.proofs.does.Moments.{is_version}
use Rattle.coord_drill.proofs.course.Standing.{none_reported, raises, reached_by, runs_on}
use Rattle.coord_lines.specs.Lines.{Line}
use Rattle.coord_types.specs.declared.packets.DataPacket.{DataPacket}
use Rattle.coord_world.specs.Facade.{World, no_world}
use Rattle.coord_drill.specs.Answered.{IsAnswered}
use Rattle.coord_drill.specs.Asked.{asked, asked_of_front}
use Rattle.coord_drill.specs.Drilled.{asked_by, is_skipped, unless_late}
use Rattle.coord_drill.specs.declared.request.Request.TheVariants as request

-- ---- a line that is cut short

of_memory : (opens : Bool) (why : Fault) → IsOfMemory why → MayCutShort opens why
of_memory true why memory = inl memory
of_memory false why memory = memory

-- the faults of whatever is asked
pub of_disk : (opens : Bool) (why : Fault) → MayEndBy opens why → IsOfDisk why
of_disk true why may = may
of_disk false why may = inl may

module _ {D : Type 0} (disk : DiskModel D) (crashes : D → D → Type 0) (d : Drill D) (p : Place D) (at : Stands disk d p) where
  left_as : (a : Asked) (s : Machine) (mid lost : D) → is_version a ≡ false → lost ≡ mid → IsLeftBy disk crashes a s mid lost
  left_as a s mid lost h1 h2 = grind arith

  -- a part of its events was answered
  cut_part : (a : Asked) (refused : Fault × D) → is_version a ≡ false → LacksMemory disk crashes a d refused → CutShort disk crashes p a refused
  cut_part a refused other lacks =
      let memory = lacks.0 in
      let part = lacks.1 in
      let given = part.given in
      let es : DrillState → List Event = λ s. take (length given) (line_events s.holds a given) in
      let led = part.moments p.machine at.consistent at.represents in
      let there = runs_on disk crashes d.driver part.mid p.machine (es (state_of d)) given p.disk at.holds at.keeps led in
      let same : refused.1 ≡ there.0 = cc (there.1, part.left) in
      let none : failed_by refused.0 ≡ 0 = ap failed_by memory in
      record {
        cause = of_memory (opens_disk a) refused.0 memory;
        none_reported = λ version. absurd (false≢true (sym other ∙ ap is_version version));
        given = given;
        mid = there.0;
        runs = subst (λ (s : DrillState). RunsOn disk crashes p.machine (es s) given p.disk there.0) (sym at.state) there.3;
        left = left_as a (run p.machine (es p.state) given) there.0 refused.1 other same;
        failed = omega (arith, ap disk.failures same, none);
      }

  -- after no event
  cut_before_events : (a : Asked) (refused : Fault × D) → (a ≡ Version2 → IsSettled (adopted (no_world 2)) p.reported) → MayCutShort (opens_disk a) refused.0 → IsLeftBy disk crashes a p.machine p.disk refused.1 → disk.failures refused.1 ≡ disk.failures p.disk + failed_by refused.0 → CutShort disk crashes p a refused
  cut_before_events a refused none cause left failed = record { cause = cause; none_reported = none; given = []; mid = p.disk; runs = record { in_range = tt; answered = tt; moments = (refl, at.survives); failed = omega arith }; left = left; failed = failed }

  -- in `version 2`
  cut_raising : (refused : Fault × D) → IsEmptyLog d.driver.ledger.log → RaisesPart disk d.driver refused → CutShort disk crashes p Version2 refused
  cut_raising refused empty part =
      let same : part.old ≡ p.disk = cc (part.there, at.holds) in
      cut_before_events Version2 refused (λ _. none_reported disk crashes d d p at empty) (part.cause empty) (raises disk crashes d d p at empty part.old refused.1 part.there part.moments) (part.failed ∙ ap (λ x. disk.failures x + failed_by refused.0) same)

  pub cut_by : (a : Asked) (refused : Fault × D) → LineIsPromised disk d a → Cuts disk crashes a d refused → CutShort disk crashes p a refused
  cut_by Version2 refused promised part = cut_raising refused (promised.1 refl) part
  cut_by Crash refused promised (inl part) = cut_part Crash refused refl part
  cut_by Crash refused promised (inr part) =
      cut_before_events Crash refused (λ no. absurd (false≢true (ap is_version no))) (part.cause promised.0) (inr (part.moments p.machine at.consistent at.represents p.disk at.holds at.keeps)) (part.failed (disk.failures p.disk) (ap (option_map disk.failures) at.holds))
  cut_by a refused promised part = cut_part a refused refl part

-- ---- what a line asks for

asked_is : (s : DrillState) (line : List ℕ) (o : Option Request) → is_skipped line ≡ false → asked_by s line ≡ o → asked_in s (Some line) ≡ option_map (asked (front_world s.log)) o
asked_is s line o kept is = ap (λ b. cond b None (option_map (asked (front_world s.log)) (asked_by s line))) kept ∙ ap (option_map (asked (front_world s.log))) is

-- only the request for it asks for version 2
never_of_front : (f : DataPacket → Step) (r : Result (Option DataPacket) Refusal) → asked_of_front f r ≡ Version2 → ⊥
never_of_front f r h1 = grind arith

only_request : (w : World) (r : Request) → asked w r ≡ Version2 → r ≡ request.Version2
only_request w r h1 = grind (arith, never_of_front)

in_time : (s : DrillState) (r : Request) → unless_late s r ≡ Some request.Version2 → s.has_begun ≡ false
in_time s r h1 = grind arith

not_late : (s : DrillState) (line : List ℕ) → asked_by s line ≡ Some request.Version2 → s.has_begun ≡ false
not_late s line is = grind (arith, in_time)

-- ---- one line

module _ {D : Type 0} (disk : DiskModel D) (crashes : D → D → Type 0) where
  module _ (d : Drill D) (p : Place D) (at : Stands disk d p) where
    -- a line that asks for nothing leaves the drill's state unchanged
    abbrev following : List ℕ → Place D
    following text = record p { lines = p.lines + 1; printed = p.printed ++ text }

    stands_on : (text : List ℕ) → Stands disk d (following text)
    stands_on text = record { state = at.state; holds = at.holds; keeps = at.keeps; consistent = at.consistent; represents = at.represents; settled = at.settled; empty = at.empty; survives = at.survives }

    stays : (line : Line) (text : List ℕ) → asked_in p.state line ≡ None → LineResponds p.state (p.lines + 1) line [] text p.state → (q : Place D) × Stands disk d q × (q.printed ≡ p.printed ++ text) × LineGoes disk crashes p line q
    stays line text none responds = (
      following text,
      stands_on text,
      refl,
      record {
        given = [];
        text = text;
        responds = responds;
        lines = refl;
        printed = refl;
        reported = rw none (sym (append-nil p.reported));
        settled = at.settled;
        moves = rw none (refl, record { in_range = tt; answered = tt; moments = (refl, at.survives); failed = omega arith });
      },
    )

    pub goes_skipped : (line : List ℕ) → is_skipped line ≡ true → (q : Place D) × Stands disk d q × (q.printed ≡ p.printed ++ []) × LineGoes disk crashes p (Some line) q
    goes_skipped line skipped =
        stays (Some line) [] (ap (λ b. cond b None (option_map (asked (front_world p.state.log)) (asked_by p.state line))) skipped) (rw skipped (refl, refl, refl))

    -- a bad line asks for nothing
    pub asks_nothing : (line : List ℕ) → is_skipped line ≡ false → asked_by (state_of d) line ≡ None → asked_in p.state (Some line) ≡ None
    asks_nothing line kept none = asked_is p.state line None kept (ap (λ (s : DrillState). asked_by s line) at.state ∙ none)

    pub goes_over : (n : ℕ) → n ≡ p.lines + 1 → (q : Place D) × Stands disk d q × (q.printed ≡ p.printed ++ bad_line n) × LineGoes disk crashes p None q
    goes_over n number = stays None (bad_line n) refl (refl, ap bad_line number, refl)

    pub goes_bad : (line : List ℕ) → is_skipped line ≡ false → asked_by (state_of d) line ≡ None → (n : ℕ) → n ≡ p.lines + 1 → (q : Place D) × Stands disk d q × (q.printed ≡ p.printed ++ bad_line n) × LineGoes disk crashes p (Some line) q
    goes_bad line kept none n number =
        let own : asked_by p.state line ≡ None = ap (λ (s : DrillState). asked_by s line) at.state ∙ none in
        stays (Some line) (bad_line n) (asks_nothing line kept none) (rw kept (rw own (refl, ap bad_line number, refl)))

    -- the promise for its request holds
    promised : (line : List ℕ) (r : Request) → asked_by (state_of d) line ≡ Some r → LineIsPromised disk d (asked (front_of d) r)
    promised line r is = grind (arith, only_request, not_late)

    module _ (line : List ℕ) (r : Request) (kept : is_skipped line ≡ false) (is : asked_by (state_of d) line ≡ Some r) where
      own : asked_by p.state line ≡ Some r
      own = ap (λ (s : DrillState). asked_by s line) at.state ∙ is

      asks : asked_in p.state (Some line) ≡ Some (asked (front_of d) r)
      asks = asked_is p.state line (Some r) kept own ∙ ap (λ (s : DrillState). Some (asked (front_world s.log) r)) at.state

      pub goes_asked : (text : List ℕ) (new : Drill D) → CarriesIf disk crashes d (asked (front_of d) r) text new → (q : Place D) × Stands disk new q × (q.printed ≡ p.printed ++ text) × LineGoes disk crashes p (Some line) q
      goes_asked text new carries =
          let a = asked (front_of d) r in
          let on = promised line r is in
          let one = carries on in
          let to = reached_by disk crashes d new p at a text on one in
          let answered : Responds p.state (p.lines + 1) (Some r) one.given text to.place.state =
          subst (λ (s : DrillState). IsAnswered s (asked (front_world s.log) r) one.given text to.place.state) (sym at.state) (subst (IsAnswered (state_of d) a one.given text) (sym to.state) one.answered) in (
            to.place,
            to.stands,
            to.printed,
            record {
              given = one.given;
              text = text;
              responds = subst (λ b. UnlessSkipped b p.state one.given text to.place.state (Responds p.state (p.lines + 1) (asked_by p.state line) one.given text to.place.state)) (sym kept)
                  (subst (λ o. Responds p.state (p.lines + 1) o one.given text to.place.state) (sym own) answered);
              lines = to.lines;
              printed = to.printed;
              reported = subst (λ o. to.place.reported ≡ p.reported ++ reported_in p.state o one.given) (sym asks) to.reported;
              settled = to.stands.settled;
              moves = subst (λ o. Moves disk crashes o one.given p to.place) (sym asks) to.moves;
            },
          )

      pub cut_asked : (refused : Fault × D) → CutsIf disk crashes (asked (front_of d) r) d refused → FirstCutShort disk crashes p (Some line ∷ []) refused
      cut_asked refused cuts =
          let on = promised line r is in
          rw asks (cut_by disk crashes d p at (asked (front_of d) r) refused on (cuts on))

  -- a line that is reported as bad
  pub reports_bad : (d : Drill D) (n : ℕ) (old text : List ℕ) (r : Result (Drill D) (Fault × D)) (line : Line) → IfOk r (λ x. x ≡ d) → OnOk r (text ≡ old ++ bad_line n) → CarriesLine disk crashes d n line (bad_line n) d →
      IfOk r (λ x. Reports old text (λ reported. CarriesLine disk crashes d n line reported x))
  reports_bad d n old text (Ok x) line same reported goes = (bad_line n, (reported, rw same goes))
  reports_bad d n old text (Err e) line same reported goes = tt

  -- it could not be reported
  pub reported_lost : (d : Drill D) (p : Place D) → Stands disk d p → (line : Line) (refused : Fault × D) → asked_in p.state line ≡ None → IsOfMemory refused.0 → disk_held d.driver ≡ Some refused.1 → FirstCutShort disk crashes p (line ∷ []) refused
  reported_lost d p at line refused none memory there = rw none (memory, cc (there, at.holds))

  -- ---- lines in turn

  pub goes_one : (p q : Place D) (l : Line) → LineGoes disk crashes p l q → CrashPrefix q.machine true (disk.present q.disk) → Goes disk crashes p (l ∷ []) q
  goes_one p q l goes survives = (q, goes, (refl, survives))

  pub goes_both : (p q r : Place D) (ls ks : List Line) → Goes disk crashes p ls q → Goes disk crashes q ks r → Goes disk crashes p (ls ++ ks) r
  goes_both p q r [] ks first more = rw (sym first.0) more
  goes_both p q r (l ∷ ls) ks first more = (first.0, first.1, goes_both first.0 q r ls ks first.2 more)

  -- their output is allowed
  pub goes_prints : (p q : Place D) (ls ks : List Line) (u : List ℕ) → Goes disk crashes p ls q → Prints q.state (q.lines + 1) ks u → (t : List ℕ) × (q.printed ≡ p.printed ++ t) × Prints p.state (p.lines + 1) (ls ++ ks) (t ++ u)
  goes_prints p q [] ks u first more = ([], rw (sym first.0) (sym (append-nil q.printed)), rw (sym first.0) more)
  goes_prints p q (l ∷ ls) ks u first more =
      let one = first.1 in
      let rest = goes_prints first.0 q ls ks u first.2 more in (
        one.text ++ rest.0,
        rest.1 ∙ ap (λ x. x ++ rest.0) one.printed ∙ append_assoc p.printed one.text rest.0,
        record {
          given = one.given;
          reported = one.text;
          after = first.0.state;
          rest = rest.0 ++ u;
          line = one.responds;
          following = subst (λ n. Prints first.0.state (n + 1) (ls ++ ks) (rest.0 ++ u)) one.lines rest.2;
          whole = append_assoc one.text rest.0 u;
        },
      )
