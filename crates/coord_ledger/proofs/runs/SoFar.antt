-- A run of events, from its first to its last: what a driver keeps before each event.
use Rattle.std.proofs.Common.{◌≡◌, ◌⊎◌, ℕ, ◌+◌, ◌-◌, ◌<◌, Bool, true, false, List, [], ◌∷◌, ◌++◌, length, take, get_or, zero, suc, None, Some, refl, sym, ap, ◌∙◌, subst, arith, inl, inr, slice_get}
use Rattle.std.proofs.lemmas.Bool.Decides.{nat_tests}
use Rattle.std.specs.List.{AllByRecursion}
use Rattle.std.specs.Option.{option_map}
use Rattle.std.proofs.lemmas.Option.{slice_get_read}
use Rattle.coord_disk.specs.Model.DiskModel.{DiskModel}
use Rattle.coord_store.proofs.Freshness.{take-push}
use Rattle.coord_ledger.specs.Facade.{Answer, CrashPrefix, DiskEffect, DiskSurvives, DriverState, Event, EventInRange, Follows, FollowsTo, HoldsFlight, IsConsistent, IsOneOf, IsPromised, LedgerState, Machine, MayBegin, Promised, Represents, Run, RunSoFar, after, answers, at_home, disk_held, disk_with, flight_out, found_by_crash, is_crash, machine_of, model_held, run, started, touches_disk}
use Rattle.coord_ledger.proofs.machine.Consistent.{run_goes_on, stays_consistent}
use Rattle.coord_ledger.proofs.runs.EachMoment.{moments_on}

-- a predicate on all items holds for the one at this place
all_at : {A : Type 0} (P : A → Type 0) (xs : List A) (i : ℕ) (x : A) → slice_get xs i ≡ Some x → AllByRecursion P xs → P x
all_at P [] i x there all = let no : ⊥ = cc in absurd no
all_at P (y ∷ ys) zero x there all = let same : y ≡ x = cc in subst P same all.0
all_at P (y ∷ ys) (suc i) x there all = all_at P ys i x there all.1

module _ {D : Type 0} (model : DiskModel D) (crashes : D → D → Type 0) where
  -- a run begins without a flight
  pub so_far_first : (first : D) (d : DriverState D) → d.flight ≡ None → HoldsFlight d.ledger d.flight → IsConsistent (machine_of d (started d.ledger)) → d.ledger.disk ≡ Some first →
      ((s : Machine) → IsConsistent s → Represents d s → DiskSurvives model (disk_held d) s) → RunSoFar model crashes (model.keeps_model first) first d.ledger [] [] d
  so_far_first first d none own own_is home survives =
      let log = d.ledger.log in
      let is : IsConsistent (started d.ledger) = subst IsConsistent (λ i. record (started d.ledger) { flight = ap (option_map flight_out) none i }) own_is in
      let all : log.settled - 0 ≡ log.settled = omega arith in
      let represents : Represents d (started d.ledger) =
      record { by = 0; within = omega arith; is = λ i. record (started d.ledger) { log = record log { settled = sym all i }; flight = ap (option_map flight_out) none i }; own = own } in
      let there : disk_held d ≡ Some first = ap (disk_with d.ledger.disk) none ∙ home in
      record { answered = tt; consistent = is; represents = represents; disk = first; holds = there; moments = (refl, survives (started d.ledger) is represents first there) }

  -- one event more
  pub so_far_on : (on : Bool) (first : D) (start : LedgerState D) (events : List Event) (given : List Answer) (d new : DriverState D) (e : Event) (a : Answer) →
      (so_far : RunSoFar model crashes on first start events given d) → model.keeps_model so_far.disk ≡ on → EventInRange e → IsOneOf a (answers (run (started start) events given) e) → Represents new (after (run (started start) events given) e a) →
      DiskEffect model crashes (found_by_crash (run (started start) events given) e a) (touches_disk e a) e (disk_held d) (disk_held new) → ((s : Machine) → IsConsistent s → Represents new s → (disk : D) → disk_held new ≡ Some disk → CrashPrefix s on (model.present disk)) →
      RunSoFar model crashes on first start (events ++ e ∷ []) (given ++ a ∷ []) new
  so_far_on on first start events given d new e a so_far same named allowed represents touches survives =
      let s = run (started start) events given in
      let more = run_goes_on (started start) events given e a so_far.answered allowed in
      let consistent = stays_consistent s e a named so_far.consistent allowed in
      let effect = touches so_far.disk so_far.holds in
      record {
        answered = more.0;
        consistent = subst IsConsistent (sym more.1) consistent;
        represents = subst (Represents new) (sym more.1) represents;
        disk = effect.new;
        holds = effect.holds;
        moments = moments_on model crashes on (started start) events given e a first so_far.disk effect.new so_far.moments
            (rw (sym same) effect.touched)
            (survives (after s e a) consistent represents effect.new effect.holds);
      }

  -- what a run keeps after some events, with the lists that it holds beside the driver
  pub record Holds (on : Bool) (first : D) (start : LedgerState D) (events : List Event) (given : List Answer) (h : Run D) : Type 0 where
    pub so_far : RunSoFar model crashes on first start events given h.driver
    pub follows : Follows h (run (started start) events given)

  -- what the loop of a run keeps before the event at this index
  pub record LoopInvariant (start : LedgerState D) (events : List Event) (at : ℕ) (given : List Answer) (h : Run D) : Type 0 where
    pub same_model : model_held model h.driver ≡ option_map model.keeps_model start.disk
    pub holds : (before : D) → start.disk ≡ Some before → Promised (model.keeps_model before) events (Holds (model.keeps_model before) before start (take at events) given h)

  -- before the first event
  pub invariant_first : (start : LedgerState D) (events : List Event) (given : List Answer) (h : Run D) → h.driver ≡ at_home start → MayBegin model crashes h.driver → h.tickets.items ≡ [] → h.seen ≡ 0 → h.released.items ≡ [] → given ≡ [] →
      LoopInvariant start events 0 given h
  invariant_first start events given h over begins no_tickets unseen unreleased unanswered =
      let d = h.driver in
      record {
        same_model = ap (model_held model) over;
        holds = λ before disk promised.
            let there : begins.first ≡ before = let is = sym begins.home ∙ ap (λ (x : DriverState D). x.ledger.disk) over ∙ disk in cc in
            let first = subst (λ x. RunSoFar model crashes (model.keeps_model x) x d.ledger [] [] d) there begins.so_far in
            let so_far = subst (λ (l : LedgerState D). RunSoFar model crashes (model.keeps_model before) before l [] [] d) (ap (λ (x : DriverState D). x.ledger) over) first in
            rw unanswered (record {
              so_far = so_far;
              follows = record {
                represents = so_far.represents;
                tickets = rw no_tickets tt;
                seen = unseen;
                released = unreleased;
              };
            });
      }

  module _ (start : LedgerState D) (events : List Event) (at : ℕ) (given : List Answer) (h : Run D) (loop : LoopInvariant start events at given h) where
    -- the disk that is held keeps the model as the first one does
    pub same_model : (before disk : D) → start.disk ≡ Some before → disk_held h.driver ≡ Some disk → model.keeps_model disk ≡ model.keeps_model before
    same_model before disk first there = grind (arith, nat_tests)

    module _ (e : Event) (below : at < length events) (is : e ≡ get_or events at e) where
      pub event_there : slice_get events at ≡ Some e
      event_there = slice_get_read events (length events) at e refl below is

      pub model_there : (before : D) → start.disk ≡ Some before → model_held model h.driver ≡ Some (model.keeps_model before)
      model_there before disk = loop.same_model ∙ ap (option_map model.keeps_model) disk

      -- the promise for a run holds for each of its events
      pub event_promised : (before : D) → start.disk ≡ Some before → (model.keeps_model before ≡ true) ⊎ AllByRecursion (λ x. is_crash x ≡ false) events → IsPromised (model_held model h.driver) e
      event_promised before disk (inl on) = inl (model_there before disk ∙ ap Some on)
      event_promised before disk (inr none) = inr (all_at (λ x. is_crash x ≡ false) events at e event_there none)

      -- the event was answered
      pub invariant_on : (new : Run D) (a : Answer) → EventInRange e → ((s : Machine) → IsConsistent s → Follows h s → IsPromised (model_held model h.driver) e → FollowsTo s e a new) → model_held model new.driver ≡ model_held model h.driver →
          ((s : Machine) → IsConsistent s → Follows h s → DiskEffect model crashes (found_by_crash s e a) (touches_disk e a) e (disk_held h.driver) (disk_held new.driver)) → ((s : Machine) → IsConsistent s → Represents new.driver s → DiskSurvives model (disk_held new.driver) s) →
          LoopInvariant start events (at + 1) (given ++ a ∷ []) new
      invariant_on new a named answered same touches survives =
          record {
            same_model = same ∙ loop.same_model;
            holds = λ before disk promised.
                let all = loop.holds before disk promised in
                let so_far = all.so_far in
                let s = run (started start) (take at events) given in
                let to = answered s so_far.consistent all.follows (event_promised before disk promised) in
                let later = λ (now : D) (there : disk_held new.driver ≡ Some now). new_model new same before now disk there in
                let on = so_far_on (model.keeps_model before) before start (take at events) given h.driver new.driver e a so_far (same_model before so_far.disk disk so_far.holds) named to.allowed to.follows.represents (touches s so_far.consistent all.follows)
                (λ t consistent represents now there. rw (sym (later now there)) (survives t consistent represents now there)) in
                let more = run_goes_on (started start) (take at events) given e a so_far.answered to.allowed in
                rw (take-push events at e below is)
                (record { so_far = on; follows = subst (Follows new) (sym more.1) to.follows });
          }
        where
          new_model : (new : Run D) → model_held model new.driver ≡ model_held model h.driver → (before now : D) → start.disk ≡ Some before → disk_held new.driver ≡ Some now → model.keeps_model now ≡ model.keeps_model before
          new_model new same before now first there =
              let is : option_map model.keeps_model (Some now) ≡ option_map model.keeps_model (Some before) = sym (ap (option_map model.keeps_model) there) ∙ same ∙ loop.same_model ∙ ap (option_map model.keeps_model) first in
              cc
