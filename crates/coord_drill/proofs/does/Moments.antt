-- Events lead from one driver to another, and a line is some of them.
use Rattle.std.proofs.Common.{◌≡◌, ◌≢◌, ℕ, ◌+◌, arith, Bool, true, false, List, [], ◌∷◌, ◌++◌, length, take, Some, Result, Ok, Err, IfOk, IfErr, IsErrAnd, refl, sym, ap, ◌∙◌, subst}
use Rattle.std.proofs.lemmas.Bool.{false≢true}
use Rattle.std.specs.List.{AllByRecursion}
use Rattle.std.specs.Option.{option_map}
use Rattle.coord_disk.specs.Model.DiskModel.{DiskModel, IsModel}
use Rattle.coord_types.specs.declared.refusals.Refusal.TheVariants.{OutOfMemory}
use Rattle.coord_ledger.specs.Facade.{Answered, DiskEffect, DiskSurvives, DriverState, EachMoment, EventInRange, HasFailed, IsConsistent, Machine, MayBegin, Represents, Simulates, after, disk_held, failed_at, failed_until, found_by_crash, is_crash, model_held, run, started, touches_disk}
use Rattle.coord_ledger.proofs.runs.EachMoment.{answered_without_disk}
use Rattle.coord_ledger.proofs.machine.Consistent.{stays_consistent}
use Rattle.coord_ledger.proofs.Simulates.{represents_allowed, represents_to}
use Rattle.coord_ledger.proofs.machine.Lists.{all_both}
use Rattle.coord_drill.specs.Answered.{asked_lines}
use Rattle.coord_drill.specs.Drill.{after_asked, line_events}
use Rattle.coord_drill.specs.declared.asked.Asked.TheVariants.{Version2}
use Rattle.coord_drill.specs.Facade.{Answer, Asked, Begins, Carries, Drill, Event, Leads, LeadsBy, LeadsPart, Led, Refused, state_of}

pub if_ok_both : {A E : Type 0} (P Q : A → Type 0) (r : Result A E) → IfOk r P → IfOk r Q → IfOk r (λ a. P a × Q a)
if_ok_both P Q (Ok a) p q = (p, q)
if_ok_both P Q (Err e) p q = tt

pub if_err_both : {A E : Type 0} (P Q : E → Type 0) (r : Result A E) → IfErr r P → IfErr r Q → IfErr r (λ e. P e × Q e)
if_err_both P Q (Ok a) p q = tt
if_err_both P Q (Err e) p q = (p, q)

-- what a fault that is passed on has
pub passed_on : {T E : Type 0} (r : Result T E) (e : E) (P : E → Type 0) → IsErrAnd r (λ y. y ≡ e) → P e → IfErr r P
passed_on (Ok x) e P is p = tt
passed_on (Err y) e P is p = subst P (sym is) p

-- whether it is no event
abbrev pub is_version : Asked → Bool
is_version Version2 = true
is_version other = false

-- ---- two runs, one after the other

pub run_both : (s : Machine) (es fs : List Event) (gs hs : List Answer) → Answered s es gs → run s (es ++ fs) (gs ++ hs) ≡ run (run s es gs) fs hs
run_both s [] fs [] hs answered = refl
run_both s [] fs (g ∷ gs) hs answered = absurd answered
run_both s (e ∷ es) fs [] hs answered = absurd answered
run_both s (e ∷ es) fs (g ∷ gs) hs answered = run_both (after s e g) es fs gs hs answered.1

answered_both : (s : Machine) (es fs : List Event) (gs hs : List Answer) → Answered s es gs → Answered (run s es gs) fs hs → Answered s (es ++ fs) (gs ++ hs)
answered_both s [] fs [] hs answered more = more
answered_both s [] fs (g ∷ gs) hs answered more = absurd answered
answered_both s (e ∷ es) fs [] hs answered more = absurd answered
answered_both s (e ∷ es) fs (g ∷ gs) hs answered more = (answered.0, answered_both (after s e g) es fs gs hs answered.1 more)

-- each event has an answer
pub as_many : (s : Machine) (es : List Event) (gs : List Answer) → Answered s es gs → take (length gs) es ≡ es
as_many s [] [] answered = refl
as_many s [] (g ∷ gs) answered = absurd answered
as_many s (e ∷ es) [] answered = absurd answered
as_many s (e ∷ es) (g ∷ gs) answered = ap (λ l. e ∷ l) (as_many (after s e g) es gs answered.1)

failed_both : (s : Machine) (es fs : List Event) (gs hs : List Answer) → Answered s es gs → failed_until (es ++ fs) (gs ++ hs) ≡ failed_until es gs + failed_until fs hs
failed_both s [] fs [] hs answered = omega arith
failed_both s [] fs (g ∷ gs) hs answered = absurd answered
failed_both s (e ∷ es) fs [] hs answered = absurd answered
failed_both s (e ∷ es) fs (g ∷ gs) hs answered = omega (arith, failed_both (after s e g) es fs gs hs answered.1)

-- a driver represents the machine over its own log
pub begins_by : {D : Type 0} (disk : DiskModel D) (crashes : D → D → Type 0) (d : DriverState D) → MayBegin disk crashes d → Begins d
begins_by disk crashes d may = record { consistent = may.so_far.consistent; represents = may.so_far.represents }

module _ {D : Type 0} (disk : DiskModel D) (crashes : D → D → Type 0) where
  moments_both : (s : Machine) (es fs : List Event) (gs hs : List Answer) (old mid new : D) → EachMoment disk crashes true s es gs old mid → EachMoment disk crashes true (run s es gs) fs hs mid new →
      EachMoment disk crashes true s (es ++ fs) (gs ++ hs) old new
  moments_both s [] fs [] hs old mid new first more = rw (sym first.0) more
  moments_both s [] fs (g ∷ gs) hs old mid new first more = absurd first
  moments_both s (e ∷ es) fs [] hs old mid new first more = absurd first
  moments_both s (e ∷ es) fs (g ∷ gs) hs old mid new first more = (first.0, (first.1.0, (first.1.1.0, moments_both (after s e g) es fs gs hs first.1.0 mid new first.1.1.1 more)))

  -- whatever a crash may leave of the driver's disk survives
  abbrev pub Survive : DriverState D → Type 0
  Survive d = (s : Machine) → IsConsistent s → Represents d s → DiskSurvives disk (disk_held d) s

  -- no event
  pub leads_none : (d : DriverState D) → Survive d → Leads disk crashes d [] [] d
  leads_none d survives s is represents = record {
    in_range = tt;
    answered = tt;
    consistent = is;
    represents = represents;
    moments = λ old there keeps. (old, there, keeps, (refl, λ _. survives s is represents old there keeps));
    failed = λ n has. let same : n ≡ n + 0 = omega arith in subst (HasFailed disk.failures (disk_held d)) same has;
  }

  module _ (d new : DriverState D) (e : Event) (a : Answer) (named : EventInRange e) (before : Survive d) (later : Survive new) where
    -- one event
    pub leads_one : model_held disk new ≡ model_held disk d → ((n : ℕ) → HasFailed disk.failures (disk_held d) n → HasFailed disk.failures (disk_held new) (n + failed_at e a)) → Simulates d e a new →
        ((s : Machine) → IsConsistent s → Represents d s → DiskEffect disk crashes (found_by_crash s e a) (touches_disk e a) e (disk_held d) (disk_held new)) → Leads disk crashes d (e ∷ []) (a ∷ []) new
    leads_one model failed simulates touches s is represents =
        let allowed = represents_allowed d new s is represents e a simulates in
        let later_shown = represents_to d new s is represents e a simulates in
        let then = stays_consistent s e a named is allowed in
        record {
          in_range = (named, tt);
          answered = (allowed, tt);
          consistent = then;
          represents = later_shown;
          moments = λ old there keeps.
              let effect = touches s is represents old there in
              let same : Some (disk.keeps_model effect.new) ≡ Some (disk.keeps_model old) = sym (ap (option_map disk.keeps_model) effect.holds) ∙ model ∙ ap (option_map disk.keeps_model) there in
              let on : disk.keeps_model effect.new ≡ true = cc (same, keeps) in (
                effect.new,
                effect.holds,
                on,
                (
                  λ _. before s is represents old there keeps,
                  (
                    effect.new,
                    (
                      rw (sym keeps) effect.touched,
                      (refl, λ _. later (after s e a) then later_shown effect.new effect.holds on),
                    ),
                  ),
                ),
              );
          failed = λ n has. let same : n + failed_at e a ≡ n + (failed_at e a + 0) = omega arith in subst (HasFailed disk.failures (disk_held new)) same (failed n has);
        }

    -- one that leaves the disk unchanged
    pub leads_aside : IsModel disk → is_crash e ≡ false → ((s : Machine) → found_by_crash s e a ≡ s) → failed_at e a ≡ 0 → disk_held new ≡ disk_held d →
        Simulates d e a new → Leads disk crashes d (e ∷ []) (a ∷ []) new
    leads_aside laws other found none same simulates =
        leads_one (ap (option_map disk.keeps_model) same)
        (λ n has. let more : n ≡ n + failed_at e a = omega (arith, none) in subst (HasFailed disk.failures (disk_held new)) more (ap (option_map disk.failures) same ∙ has)) simulates
        (λ s is represents. answered_without_disk disk crashes laws s e e a (disk_held d) (disk_held new) refl other (found s) same (before s is represents))

  -- the events of the one and then of the other
  pub leads_then : (d m new : DriverState D) (es fs : List Event) (gs hs : List Answer) → Leads disk crashes d es gs m → Leads disk crashes m fs hs new → Leads disk crashes d (es ++ fs) (gs ++ hs) new
  leads_then d m new es fs gs hs first more s is represents =
      let one = first s is represents in
      let two = more (run s es gs) one.consistent one.represents in
      let all = run_both s es fs gs hs one.answered in
      record {
        in_range = all_both EventInRange es fs one.in_range two.in_range;
        answered = answered_both s es fs gs hs one.answered two.answered;
        consistent = subst IsConsistent (sym all) two.consistent;
        represents = subst (Represents new) (sym all) two.represents;
        moments = λ old there keeps.
            let x = one.moments old there keeps in
            let y = two.moments x.0 x.1 x.2 in
            (y.0, y.1, y.2, moments_both s es fs gs hs old x.0 y.0 x.3 y.3);
        failed = λ n has.
            let sum = failed_both s es fs gs hs one.answered in
            let same : n + failed_until es gs + failed_until fs hs ≡ n + failed_until (es ++ fs) (gs ++ hs) = omega (arith, sum) in
            subst (HasFailed disk.failures (disk_held new)) same (two.failed (n + failed_until es gs) (one.failed n has));
      }

  -- from the machine over the driver's own log
  pub run_of : (d new : DriverState D) (es : List Event) (gs : List Answer) → Begins d → Leads disk crashes d es gs new → Led disk crashes (started d.ledger) es gs d new
  run_of d new es gs begins leads = leads (started d.ledger) begins.consistent begins.represents

  -- all of the events were answered, and the disk is given up after them
  pub all_led : (d mid : DriverState D) (es : List Answer → List Event) (gs : List Answer) (lost : D) → Begins d → Leads disk crashes d (es gs) gs mid → disk_held mid ≡ Some lost → LeadsPart disk crashes d es lost
  all_led d mid es gs lost begins leads there =
      let run = run_of d mid (es gs) gs begins leads in
      record {
        given = gs;
        mid = mid;
        moments = rw (as_many (started d.ledger) (es gs) gs run.answered) leads;
        left = there;
      }

  -- none was
  pub none_led : (d mid : DriverState D) (es : List Answer → List Event) (lost : D) → Survive d → disk_held mid ≡ disk_held d → disk_held mid ≡ Some lost → LeadsPart disk crashes d es lost
  none_led d mid es lost survives same there = record { given = []; mid = d; moments = leads_none d survives; left = sym same ∙ there }

  -- ---- lines

  pub by_asked : (d new : Drill D) (given : List Answer) (b : Asked) → is_version b ≡ false → Leads disk crashes d.driver (line_events d.holds b given) given new.driver → LeadsBy disk crashes b d given new
  by_asked d new given Version2 other leads = absurd (false≢true (sym other))
  by_asked d new given b other leads = leads

  -- text, state and disk of a line depend on the same answers
  module _ (d new : Drill D) (a : Asked) (given : List Answer) (reported : List ℕ) where
    pub carries : is_version a ≡ false → Begins d.driver → Leads disk crashes d.driver (line_events d.holds a given) given new.driver → AllByRecursion (λ x. x ≢ Refused OutOfMemory) given →
        reported ≡ asked_lines (state_of d) a given → state_of new ≡ after_asked (state_of d) a given → Carries disk crashes d a reported new
    carries other begins leads memory printed on = grind (arith, run_of, by_asked)
