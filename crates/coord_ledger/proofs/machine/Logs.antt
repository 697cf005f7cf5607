-- Logs: their counts, and what keeps them consistent.
use Rattle.std.proofs.Common.{◌≡◌, ◌≢◌, ℕ, zero, suc, ◌+◌, ◌-◌, ◌≤◌, false, List, [], ◌∷◌, ◌++◌, length, take, drop, Err, refl, sym, ap, ◌∙◌, subst, arith}
use Rattle.std.proofs.Math.Seq.{take-add, take-append_seam}
use Rattle.std.proofs.lemmas.Bool.Decides.{nat_tests}
use Rattle.std.proofs.lemmas.List.{append_assoc, drop-append-le, drop-drop, length-append, length-drop, length-take-le, take-append-drop, take-append-le, take-take}
use Rattle.coord_types.specs.declared.refusals.Refusal.TheVariants.{NotReleased}
use Rattle.coord_ledger.specs.Facade.{IsConsistentLog, Log, Step, accepted_count, cut_to, front_world, is_full, pending, rebased, settled_count, settled_world, with_doubt, with_settled, with_step, world_after}
use Rattle.coord_store.proofs.Freshness.{fold-push, fresh-push}
use Rattle.coord_store.specs.Recovered.{AllFresh}
use Rattle.coord_world.proofs.Facade.{fold-append, fold_counts, release_stays, trail_goes_on, trail_is_cut}
use Rattle.coord_world.specs.laws.Trails.{IsTrail}
use Rattle.coord_world.specs.Facade.{IsFresh, StepInRange, World, accepts, fold, next}
use Rattle.coord_ledger.specs.laws.Laws.{LogStays}
use Rattle.coord_ledger.specs.laws.Rebasing.{RebasedIsConsistent}

-- ---- counts

pub count_front : (log : Log) → (front_world log).count ≡ accepted_count log
count_front log = fold_counts log.base log.trail

pub count_after : (log : Log) (n : ℕ) → n ≤ length log.trail → (world_after log n).count ≡ log.base.count + n
count_after log n le = omega (arith, fold_counts log.base (take n log.trail), length-take-le n log.trail le)

-- ---- worlds on the way

-- steps in two parts
pub world-add : (log : Log) (n m : ℕ) → world_after log (n + m) ≡ fold (world_after log n) (take m (drop n log.trail))
world-add log n m = ap (fold log.base) (take-add n m log.trail) ∙ fold-append (take n log.trail) (take m (drop n log.trail)) log.base

-- the settled steps lead to the settled world, and the pending ones from there to the front
pub front_is : (log : Log) → IsConsistentLog log → fold (settled_world log) (pending log) ≡ front_world log
front_is log is = (trail_is_cut log.base log.trail log.settled is.trail).whole

-- ---- fresh steps

-- the last steps of those that are fresh
fresh_after : (xs ys : List Step) (settled w : World) → AllFresh settled w (xs ++ ys) → AllFresh settled (fold w xs) ys
fresh_after [] ys settled w all = all
fresh_after (x ∷ xs) ys settled w all = fresh_after xs ys settled (next w x) all.1

-- the first ones
pub fresh_first : (n : ℕ) (xs : List Step) (settled w : World) → AllFresh settled w xs → AllFresh settled w (take n xs)
fresh_first zero xs settled w all = tt
fresh_first (suc n) [] settled w all = tt
fresh_first (suc n) (x ∷ xs) settled w all = (all.0, fresh_first n xs settled (next w x) all.1)

-- a step that is fresh with a world as settled is fresh once the first a steps are settled too
later_settled : (w : World) (a : ℕ) (done rest : List Step) → a ≤ length done → IsTrail w (done ++ rest) → AllFresh w (fold w done) rest → AllFresh (fold w (take a done)) (fold w done) rest
later_settled w a done [] le trail fresh = tt
later_settled w a done (s ∷ rest) le trail fresh =
    let here : IsTrail w done = subst (IsTrail w) (take-append_seam done (s ∷ rest)) (trail_is_cut w (done ++ s ∷ rest) (length done) trail).first in
    let let_through : accepts (fold w done) w s ≢ Err NotReleased = λ refused. let both = fresh.0 in cc in
    let same = release_stays w done 0 a s here (omega arith) let_through in
    let longer = take-append-le a done (s ∷ []) le in
    let more = length-append done (s ∷ []) in (
      same ∙ fresh.0,
      subst (λ v. AllFresh (fold w v) (next (fold w done) s) rest) longer
          (subst (λ v. AllFresh (fold w (take a (done ++ s ∷ []))) v rest) (fold-push done w s)
          (later_settled w a (done ++ s ∷ []) rest (omega (arith, le, more)) (subst (IsTrail w) (sym (append_assoc done (s ∷ []) rest)) trail)
          (subst (λ v. AllFresh w v rest) (sym (fold-push done w s)) fresh.1))),
    )

-- ---- one more step

module _ (log : Log) (s : Step) (is : IsConsistentLog log) where
  settled_with : settled_world (with_step log s) ≡ settled_world log
  settled_with = ap (fold log.base) (take-append-le log.settled log.trail (s ∷ []) is.within)

  pub pending_with : pending (with_step log s) ≡ pending log ++ s ∷ []
  pending_with = drop-append-le log.settled log.trail (s ∷ []) is.within

  accepted : StepInRange s → is_full log ≡ false → IsFresh (front_world log) (settled_world log) s → IsConsistentLog (with_step log s)
  accepted named room fresh =
      let longer : length (log.trail ++ s ∷ []) ≡ length log.trail + 1 = length-append log.trail (s ∷ []) in
      let more : length (pending log ++ s ∷ []) ≡ length (pending log) + 1 = length-append (pending log) (s ∷ []) in
      let few : length (pending log) + 1 ≤ 1024 = grind (arith, nat_tests, room) in
      let count = ap length pending_with in
      record {
        trail = trail_goes_on log.base log.trail log.settled s is.trail named fresh;
        within = omega (arith, is.within, longer);
        few = omega (arith, more, few, count);
        fresh = rw settled_with (subst (AllFresh (settled_world log) (settled_world log)) (sym pending_with)
            (fresh-push (pending log) (settled_world log) (settled_world log) s is.fresh (rw (front_is log is) fresh)));
      }

-- ---- more steps settled

module _ (log : Log) (b : ℕ) (is : IsConsistentLog log) (le : log.settled + b ≤ length log.trail) where
  pending_settled : pending (with_settled log b) ≡ drop b (pending log)
  pending_settled = sym (drop-drop b log.settled log.trail)

  settled : IsConsistentLog (with_settled log b)
  settled =
      let w = settled_world log in
      let steps = pending log in
      let trail : IsTrail w steps = (trail_is_cut log.base log.trail log.settled is.trail).others in
      let two : take b steps ++ drop b steps ≡ steps = take-append-drop b steps in
      let size : length (take b steps) ≡ b = length-take-le b steps (omega (arith, le, length-drop log.settled log.trail)) in
      let rest : AllFresh w (fold w (take b steps)) (drop b steps) = fresh_after (take b steps) (drop b steps) w w (subst (AllFresh w w) (sym two) is.fresh) in
      let later : AllFresh (fold w (take b (take b steps))) (fold w (take b steps)) (drop b steps) = later_settled w b (take b steps) (drop b steps) (omega (arith, size)) (subst (IsTrail w) (sym two) trail) rest in
      record {
        trail = is.trail;
        within = le;
        few = omega (arith, is.few, length-drop log.settled log.trail, length-drop (log.settled + b) log.trail);
        fresh = subst (AllFresh (settled_world (with_settled log b)) (settled_world (with_settled log b))) (sym pending_settled)
            (subst (λ v. AllFresh v v (drop b steps)) (sym (world-add log log.settled b))
            (subst (λ l. AllFresh (fold w l) (fold w (take b steps)) (drop b steps)) (take-take b b steps (omega arith)) later));
      }

-- ---- in doubt

pub doubted_stays : (log : Log) (b : ℕ) → IsConsistentLog log → IsConsistentLog (with_doubt log b)
doubted_stays log b is = record { trail = is.trail; within = is.within; few = is.few; fresh = is.fresh }

-- ---- the first steps alone

-- none is after the first n of the first n
pub none_after : {A : Type 0} (n : ℕ) (xs : List A) → drop n (take n xs) ≡ []
none_after zero xs = refl
none_after (suc n) [] = refl
none_after (suc n) (x ∷ xs) = none_after n xs

cut : (log : Log) (n : ℕ) → IsConsistentLog log → n ≤ length log.trail → IsConsistentLog (cut_to log n)
cut log n is le =
    let none = none_after n log.trail in
    let w = settled_world (cut_to log n) in
    record {
      trail = (trail_is_cut log.base log.trail n is.trail).first;
      within = omega (arith, length-take-le n log.trail le);
      few = omega (arith, ap length none);
      fresh = subst (AllFresh w w) (sym none) tt;
    }

pub log_stays : LogStays
log_stays = record {
  accepted = λ log s is named room fresh. accepted log s is named room fresh;
  settled = λ log b is le. settled log b is le;
  cut = λ log n is more le. cut log n is le;
}

-- ---- another base

module _ (log : Log) (n : ℕ) (le : n ≤ log.settled) where
  there : n + (log.settled - n) ≡ log.settled
  there = omega (arith, le)

  pub rebased_settled : settled_world (rebased log n) ≡ settled_world log
  rebased_settled = sym (world-add log n (log.settled - n)) ∙ ap (world_after log) there

  pub rebased_pending : pending (rebased log n) ≡ pending log
  rebased_pending = drop-drop (log.settled - n) n log.trail ∙ ap (λ k. drop k log.trail) there

  module _ (is : IsConsistentLog log) where
    pub rebased_base : (rebased log n).base.count ≡ log.base.count + n
    rebased_base = count_after log n (omega (arith, le, is.within))

    pub rebased_front : front_world (rebased log n) ≡ front_world log
    rebased_front = (trail_is_cut log.base log.trail n is.trail).whole

    pub rebased_accepted : accepted_count (rebased log n) ≡ accepted_count log
    rebased_accepted = omega (arith, rebased_base, length-drop n log.trail, le, is.within)

    pub rebased_count : settled_count (rebased log n) ≡ settled_count log
    rebased_count = omega (arith, rebased_base, le)

    pub rebased_within : log.settled - n ≤ length (drop n log.trail)
    rebased_within = omega (arith, length-drop n log.trail, le, is.within)

pub rebased_is_consistent : RebasedIsConsistent
rebased_is_consistent = grind (arith, trail_is_cut, rebased_within, rebased_pending, rebased_settled)
