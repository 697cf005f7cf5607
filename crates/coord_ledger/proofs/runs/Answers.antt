-- What a driver makes of each event follows the event machine.
use Rattle.std.proofs.Common.{◌≡◌, ℕ, ◌≤◌, Bool, true, false, length, Ok, Err, refl, ap, ◌∙◌, subst, Result, MatchResult, OnErr, is_some}
use Rattle.std.proofs.lemmas.List.{length-map}
use Rattle.coord_ledger.specs.Facade.{Answer, Follows, FollowsTo, IsConsistent, Machine, Refusal, Refused, Run, Show, Shown, accepted_count, release_of, resent, settled_count, settled_world}
use Rattle.coord_types.specs.declared.refusals.Refusal.TheVariants.{OutOfMemory, Stopped}
use Rattle.coord_world.specs.Facade.{World, again}
use Rattle.coord_view.specs.Shown as view
use Rattle.coord_ledger.proofs.follows.FollowsTickets.{follows_not_shown, follows_shown, follows_unshown, never_behind}

-- what a show is answered
abbrev pub shown_as : Result view.Shown Refusal → Answer
shown_as (Ok v) = Shown v
shown_as (Err e) = Refused e

module _ {D : Type 0} (h : Run D) (s : Machine) (is : IsConsistent s) (follows : Follows h s) where
  -- ---- show

  pub follows_show : (r : Result view.Shown Refusal) (seen : ℕ) (a : Answer) → (is_some h.driver.ledger.log.doubt ≡ true → r ≡ Err Stopped) →
      (is_some h.driver.ledger.log.doubt ≡ false → h.seen ≤ settled_count h.driver.ledger.log → MatchResult r (λ v. (v ≡ view.shown (accepted_count h.driver.ledger.log) (settled_world h.driver.ledger.log)) × (seen ≡ settled_count h.driver.ledger.log)) (λ e. e ≡ OutOfMemory)) →
      OnErr r (seen ≡ h.seen) → a ≡ shown_as r → FollowsTo s Show a (record h { seen = seen })
  follows_show r seen a stopped shows unseen says = by_doubt (is_some h.driver.ledger.log.doubt) refl
    where
      by_result : (r : Result view.Shown Refusal) → is_some h.driver.ledger.log.doubt ≡ false → MatchResult r (λ v. (v ≡ view.shown (accepted_count h.driver.ledger.log) (settled_world h.driver.ledger.log)) × (seen ≡ settled_count h.driver.ledger.log)) (λ e. e ≡ OutOfMemory) →
          OnErr r (seen ≡ h.seen) → a ≡ shown_as r → FollowsTo s Show a (record h { seen = seen })
      by_result (Ok v) going given unseen says =
          let answer = says ∙ ap Shown given.0 in
          rw answer (rw given.1 (follows_shown h s is follows going))
      by_result (Err e) going given unseen says =
          let answer = says ∙ ap Refused given in
          rw answer (rw unseen (follows_unshown h s is follows going))

      by_doubt : (b : Bool) → is_some h.driver.ledger.log.doubt ≡ b → FollowsTo s Show a (record h { seen = seen })
      by_doubt true on =
          let same = subst (λ q. OnErr q (seen ≡ h.seen)) (stopped on) unseen in
          rw (says ∙ ap shown_as (stopped on)) (rw same (follows_not_shown h s is follows on))
      by_doubt false going = by_result r going (shows going (never_behind h s is follows)) unseen says

-- ---- resend

-- as many are released again as the world sends again
pub resent_count : (w : World) → length (resent w) ≡ length (again w)
resent_count w = length-map (again w) (release_of 0)

-- ---- results

pub on_err : {A E X : Type 0} (r : Result A E) → X → OnErr r X
on_err (Ok a) x = tt
on_err (Err e) x = x
