-- There always is a text that lines may print: the machine has an answer to each event that is not out of memory.
use Rattle.std.proofs.Common.{◌≡◌, ◌≢◌, ℕ, ◌+◌, Bool, true, false, List, [], ◌∷◌, ◌++◌, Option, Some, None, Result, Ok, Err, refl, ap, ◌∙◌, inl, map}
use Rattle.std.specs.List.{AllByRecursion}
use Rattle.coord_lines.specs.Lines.{Line}
use Rattle.coord_types.specs.declared.refusals.Refusal.TheVariants.{OutOfMemory}
use Rattle.coord_ledger.specs.declared.events.Event.TheVariants as event
use Rattle.coord_ledger.specs.Facade.{Answered, IsOneOf, Machine, accepted_count, after_submit, front_world, kept_by, next_size, settled_count, cannot_flush, to_submit, verdict, with_step}
use Rattle.coord_drill.specs.declared.asked.Asked.TheVariants as ask
use Rattle.coord_drill.specs.Facade.{Accepted, Answer, Asked, Begun, Committed, DrillState, Event, Finished, Fresh, LineResponds, Nothing, Opened, Prints, Refusal, Refused, Repeat, Repeated, Reply, Request, Responds, Step, UnlessSkipped, Verdict, after_asked, asked, asked_by, asked_lines, bad_line, flight_events, is_skipped, line_events, machine_of, step_events}
use Rattle.coord_drill.proofs.does.Verdicts.{never_memory, no_refusal, other_refusal}

-- ---- answers

abbrev HaveMemory : List Answer → Type 0
HaveMemory given = AllByRecursion (λ answer. answer ≢ Refused OutOfMemory) given

-- answers that these events may have, by the answers
record May (m : Machine) (events : List Answer → List Event) : Type 0 where
  given : List Answer
  answered : Answered m (events given) given
  with_memory : HaveMemory given

-- to no event there is none
none : (s : DrillState) → May (machine_of s) (λ given. [])
none s = record { given = []; answered = tt; with_memory = tt }

-- a flight stays home, or goes out and is committed
may_fly : (s : DrillState) (tickets : List (Option Reply)) → May (record (machine_of s) { tickets = tickets }) flight_events
may_fly s tickets = by_home (cannot_flush false s.log) refl
  where
    m : Machine
    m = record (machine_of s) { tickets = tickets }

    by_home : (home : Bool) → cannot_flush false s.log ≡ home → May m flight_events
    by_home true is = record {
      given = Nothing ∷ [];
      answered = (rw is (inl refl), tt);
      with_memory = (no_refusal _ refl, tt);
    }
    by_home false is =
        let b = next_size s.log in
        record {
          given = Begun b ∷ Committed ∷ Finished (settled_count s.log + b) ∷ [];
          answered = (rw is (inl refl), (inl refl, (inl refl, tt)));
          with_memory = (no_refusal _ refl, (no_refusal _ refl, (no_refusal _ refl, tt)));
        }

module _ (s : DrillState) (x : Step) where
  -- the possible answers of the machine to the step and to the events after it, by its verdict on the step
  may_say : (v : Result Verdict Refusal) (a : Answer) → verdict s.log x ≡ v → IsOneOf a (to_submit (accepted_count s.log + 1) v) → (es : List Event) (given : List Answer) → Answered (after_submit (machine_of s) x v a) es given → Answered (machine_of s) (event.Submit x ∷ es) (a ∷ given)
  may_say v a is one es given rest =
      rw is (one, rest)

  may_step : (holds : Bool) (v : Result Verdict Refusal) → verdict s.log x ≡ v → May (machine_of s) (step_events holds x)
  may_step true (Ok (Fresh k)) is =
      let n = accepted_count s.log + 1 in
      record { given = Accepted n ∷ []; answered = may_say (Ok (Fresh k)) (Accepted n) is (inl refl) [] [] tt; with_memory = (no_refusal _ refl, tt) }
  may_step false (Ok (Fresh k)) is =
      let n = accepted_count s.log + 1 in
      let t : DrillState = record s { log = with_step s.log x } in
      let rest = may_fly t (Some (record { step = n; kind = k }) ∷ []) in
      record {
        given = Accepted n ∷ rest.given;
        answered = may_say (Ok (Fresh k)) (Accepted n) is (inl refl) (flight_events rest.given) rest.given rest.answered;
        with_memory = (no_refusal _ refl, rest.with_memory);
      }
  may_step holds (Ok (Repeat r)) is = record { given = Repeated r.step ∷ []; answered = may_say (Ok (Repeat r)) (Repeated r.step) is (inl refl) [] [] tt; with_memory = (no_refusal _ refl, tt) }
  may_step holds (Err e) is =
      let other = other_refusal e (λ memory. never_memory s.log x (is ∙ ap (λ w. Err w) memory)) in
      record { given = Refused e ∷ []; answered = may_say (Err e) (Refused e) is (inl refl) [] [] tt; with_memory = (other, tt) }

may_crash : (s : DrillState) → May (machine_of s) (λ given. event.Crash ∷ [])
may_crash s = record { given = Opened (s.log.base.count + s.log.settled) ∷ []; answered = (by_doubt s.log.doubt, tt); with_memory = (no_refusal _ refl, tt) }
  where
    by_doubt : (o : Option ℕ) → IsOneOf (Opened (s.log.base.count + s.log.settled)) (map (λ n. Opened (s.log.base.count + n)) (kept_by s.log.settled None o))
    by_doubt None = inl refl
    by_doubt (Some b) = inl refl

may_line : (s : DrillState) (a : Asked) → May (machine_of s) (line_events s.holds a)
may_line s (ask.Submit x) = may_step s x s.holds (verdict s.log x) refl
may_line s ask.Flush = may_fly s []
may_line s ask.Crash = may_crash s
may_line s other = none s

-- ---- lines

abbrev pub Somehow : (List Answer → List ℕ → DrillState → Type 0) → Type 0
Somehow P = (given : List Answer) × (reported : List ℕ) × (t : DrillState) × P given reported t

responds_somehow : (s : DrillState) (n : ℕ) (r : Option Request) → Somehow (Responds s n r)
responds_somehow s n None = ([], bad_line n, s, (refl, refl, refl))
responds_somehow s n (Some r) =
    let a = asked (front_world s.log) r in
    let may = may_line s a in
    (may.given, asked_lines s a may.given, after_asked s a may.given, record { answered = may.answered; with_memory = may.with_memory; printed = refl; goes_on = refl })

pub line_somehow : (s : DrillState) (n : ℕ) (line : Line) → Somehow (LineResponds s n line)
line_somehow s n None = responds_somehow s n None
line_somehow s n (Some line) = unless (is_skipped line)
  where
    unless : (b : Bool) → Somehow (λ given reported t. UnlessSkipped b s given reported t (Responds s n (asked_by s line) given reported t))
    unless true = ([], [], s, (refl, refl, refl))
    unless false = responds_somehow s n (asked_by s line)

pub prints_somehow : (s : DrillState) (n : ℕ) (lines : List Line) → (text : List ℕ) × Prints s n lines text
prints_somehow s n [] = ([], refl)
prints_somehow s n (l ∷ ls) =
    let one = line_somehow s n l in
    let rest = prints_somehow one.2 (n + 1) ls in
    (one.1 ++ rest.0, record { given = one.0; reported = one.1; after = one.2; rest = rest.0; line = one.3; following = rest.1; whole = refl })
