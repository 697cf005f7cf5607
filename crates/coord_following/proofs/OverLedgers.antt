-- What a ledger shows, crashes included, are the worlds of one history.
use Rattle.std.proofs.Common.{◌≡◌, ℕ, zero, suc, ◌==◌, ◌≤◌, Bool, true, false, List, [], ◌∷◌, map, take, refl, sym, ap, subst, ◌∙◌, arith, if◌then◌else◌}
use Rattle.std.proofs.lemmas.List.{take-take}
use Rattle.std.specs.List.{AllByRecursion}
use Rattle.coord_types.specs.declared.steps.Step.{Step}
use Rattle.coord_world.specs.Facade.{World, fold, next}
use Rattle.coord_world.proofs.Facade.{EachFresh, trail_each_fresh, trail_is_cut}
use Rattle.coord_member.specs.Members as member
use Rattle.coord_ledger.specs.declared.events.Answer.{Answer}
use Rattle.coord_ledger.specs.declared.events.Event.{Event}
use Rattle.coord_ledger.specs.laws.Laws.{KeepsSettled}
use Rattle.coord_ledger.specs.machine.After.{after}
use Rattle.coord_ledger.specs.machine.Consistent.{EventInRange, IsConsistent}
use Rattle.coord_ledger.specs.machine.Log.{settled_steps, settled_world}
use Rattle.coord_ledger.specs.machine.Machine.{Machine, adopted}
use Rattle.coord_ledger.specs.machine.Runs.{Answered, run}
use Rattle.coord_ledger.proofs.machine.Consistent.{adopted_is_consistent, run_is_consistent, stays_consistent}
use Rattle.coord_ledger.proofs.machine.SettledStays.{settled_stays}
use Rattle.coord_look.specs.Shown.{IsShownTo}
use Rattle.coord_following.specs.Histories.{Turn, Takes, IsHistory, world_at}
use Rattle.coord_following.specs.Ledgers.{AreShownBy, NoMixOverALedger, machine_at}
use Rattle.coord_following.specs.Stores.{AreShown}
use Rattle.coord_following.proofs.OverStores.{no_mix_over_a_store}

-- ---- steps as turns

pub world_of_steps : (w : World) (k : ℕ) (steps : List Step) → world_at w k (map Takes steps) ≡ fold w (take k steps)
world_of_steps w zero steps = refl
world_of_steps w (suc k) [] = refl
world_of_steps w (suc k) (s ∷ steps) = world_of_steps (next w s) k steps

pub history_of : (w : World) (steps : List Step) → EachFresh w steps → IsHistory w (map Takes steps)
history_of w [] each = tt
history_of w (s ∷ steps) each = (each.0, history_of (next w s) steps each.1)

-- ---- settled steps stay

keeps_itself : (s : Machine) → KeepsSettled s s
keeps_itself s = record { base = refl; settled = omega arith; steps = refl }

first_of_first : (a b : ℕ) (xs ys zs : List Step) → a ≤ b → take b zs ≡ take b ys → take a ys ≡ take a xs → take a zs ≡ take a xs
first_of_first a b xs ys zs le e f = sym (take-take a b zs le) ∙ (ap (take a) e ∙ (take-take a b ys le ∙ f))

keeps_on : (r s t : Machine) → KeepsSettled r s → KeepsSettled s t → KeepsSettled r t
keeps_on r s t one two = record {
  base = two.base ∙ one.base;
  settled = let a = one.settled in let b = two.settled in omega (arith, a, b);
  steps = first_of_first r.log.settled s.log.settled r.log.trail s.log.trail t.log.trail one.settled two.steps one.steps;
}

-- to the end of a run
keeps_to_end : (s : Machine) (t : ℕ) (events : List Event) (given : List Answer) → AllByRecursion EventInRange events → IsConsistent s → Answered s events given → KeepsSettled (machine_at s t events given) (run s events given)
keeps_to_end s zero [] given named is answered = keeps_itself s
keeps_to_end s zero (e ∷ events) [] named is answered = keeps_itself s
keeps_to_end s zero (e ∷ events) (a ∷ given) named is answered =
    let next = stays_consistent s e a named.0 is answered.0 in
    keeps_on s (after s e a) (run (after s e a) events given) (settled_stays s e a is answered.0) (keeps_to_end (after s e a) zero events given named.1 next answered.1)
keeps_to_end s (suc t) [] given named is answered = keeps_itself s
keeps_to_end s (suc t) (e ∷ events) [] named is answered = keeps_itself s
keeps_to_end s (suc t) (e ∷ events) (a ∷ given) named is answered = keeps_to_end (after s e a) t events given named.1 (stays_consistent s e a named.0 is answered.0) answered.1

-- from one moment to a later one
settles_more : (s : Machine) (t u : ℕ) (events : List Event) (given : List Answer) → AllByRecursion EventInRange events → IsConsistent s → Answered s events given → t ≤ u → (machine_at s t events given).log.settled ≤ (machine_at s u events given).log.settled
settles_more s zero zero events given named is answered le = omega arith
settles_more s zero (suc u) [] given named is answered le = omega arith
settles_more s zero (suc u) (e ∷ events) [] named is answered le = omega arith
settles_more s zero (suc u) (e ∷ events) (a ∷ given) named is answered le =
    let one = (settled_stays s e a is answered.0).settled in
    let more = settles_more (after s e a) zero u events given named.1 (stays_consistent s e a named.0 is answered.0) answered.1 (omega arith) in
    omega (arith, one, more)
settles_more s (suc t) zero events given named is answered le = absurd (omega (arith, le))
settles_more s (suc t) (suc u) [] given named is answered le = omega arith
settles_more s (suc t) (suc u) (e ∷ events) [] named is answered le = omega arith
settles_more s (suc t) (suc u) (e ∷ events) (a ∷ given) named is answered le = settles_more (after s e a) t u events given named.1 (stays_consistent s e a named.0 is answered.0) answered.1 (omega (arith, le))

-- ---- shown worlds

module _ (s : Machine) (events : List Event) (given : List Answer) (named : AllByRecursion EventInRange events) (is : IsConsistent s) (answered : Answered s events given) where
  abbrev end : Machine
  end = run s events given

  abbrev at : ℕ → ℕ
  at t = (machine_at s t events given).log.settled

  abbrev turns : List Turn
  turns = map Takes (settled_steps end.log)

  to_end : (t : ℕ) → KeepsSettled (machine_at s t events given) end
  to_end t = keeps_to_end s t events given named is answered

  -- the world of each moment is one of the history
  world_shown : (t : ℕ) → settled_world (machine_at s t events given).log ≡ world_at s.log.base (at t) turns
  world_shown t =
      let m = machine_at s t events given in
      let keeps = to_end t in
      let base : m.log.base ≡ s.log.base = sym keeps.base ∙ (to_end 0).base in
      let steps : take m.log.settled m.log.trail ≡ take m.log.settled (settled_steps end.log) = sym (take-take m.log.settled end.log.settled end.log.trail keeps.settled ∙ keeps.steps) in
      ap (λ w. fold w (take m.log.settled m.log.trail)) base ∙ (ap (λ ss. fold s.log.base ss) steps ∙ sym (world_of_steps s.log.base m.log.settled (settled_steps end.log)))

  history : IsHistory s.log.base turns
  history =
      let trail = (run_is_consistent s events given named is answered).log.trail in
      subst (λ w. IsHistory w turns) (to_end 0).base (history_of end.log.base (settled_steps end.log) (trail_each_fresh end.log.base (settled_steps end.log) (trail_is_cut end.log.base end.log.trail end.log.settled trail).first))

  -- of the moment that is shown, or of one before it
  still_below : (b : Bool) (t low last : ℕ) → low ≤ at last → (if b then at t else low) ≤ at (if b then t else last)
  still_below true t low last le = omega arith
  still_below false t low last le = le

  shows : (low last : ℕ → ℕ) (looks : List member.Event) → ((j : ℕ) → low j ≤ at (last j)) → AreShownBy s events given last looks → AreShown s.log.base turns low looks
  shows low last [] below shown = tt
  shows low last (member.Look i row now ∷ looks) below shown =
      let t = shown.0 in
      let more = settles_more s (last i) t events given named is answered shown.1.0 in
      let le = below i in (
        at t,
        (
          omega (arith, le, more),
          (
            subst (λ w. IsShownTo w i row now) (world_shown t) shown.1.1.0,
            shows (λ j. if j == i then at t else low j) (λ j. if j == i then t else last j) looks (λ j. still_below (j == i) t (low j) (last j) (below j)) shown.1.1.1,
          ),
        ),
      )
  shows low last (member.Load i ∷ looks) below shown = shows low last looks below shown
  shows low last (member.Crash i ∷ looks) below shown = shows low last looks below shown
  shows low last (member.Forget i ∷ looks) below shown = shows low last looks below shown
  shows low last (member.Lose i ∷ looks) below shown = shows low last looks below shown
  shows low last (member.Send i ∷ looks) below shown = shows low last looks below shown
  shows low last (member.Hear i k ∷ looks) below shown = shows low last looks below shown

pub no_mix_over_a_ledger : NoMixOverALedger
no_mix_over_a_ledger w events given looks sound named answered shown =
    let is = adopted_is_consistent w sound in
    no_mix_over_a_store w (turns (adopted w) events given named is answered) looks sound (history (adopted w) events given named is answered) (shows (adopted w) events given named is answered (λ j. 0) (λ j. 0) looks (λ j. omega arith) shown)
