-- The signals that are released by some of the settled steps are signals of these steps.
use Rattle.std.proofs.Common.{◌≡◌, ℕ, ◌+◌, ◌≤◌, Bool, true, false, List, [], ◌∷◌, ◌++◌, map, length, refl, sym, ap, ◌∙◌, subst, arith, not, ◌==◌, cond, count_by}
use Rattle.std.proofs.lemmas.Bool.Decides.{nat_tests}
use Rattle.std.proofs.lemmas.List.Sums.{sum_by-append, sum_by-cons}
use Rattle.coord_ledger.specs.Facade.{Output, Step, release_of, released_first, releases_of, Release, settled_steps}
use Rattle.coord_ledger.specs.laws.SignalsBetween.{ReleasedBetween, ReleasedWithDrops, is_signal_within}
use Rattle.coord_ledger.specs.machine.Consistent.{IsConsistent}
use Rattle.coord_ledger.specs.machine.Machine.{Machine}
use Rattle.coord_ledger.proofs.machine.SignalsOnce.{in_part, released_both}
use Rattle.coord_world.specs.Facade.{World, fold, next, outputs, outs}
use Rattle.coord_world.specs.laws.Trails.{IsTrail}
use Rattle.coord_world.specs.laws.Waves.{is_signal_of, signals_of}
use Rattle.coord_world.proofs.Facade.{bound_between, bound_with_drops, by_test, fold_counts, signals_first, signals_given, trail_is_cut}

module _ (a b v : ℕ) where
  -- 1 for a signal of v by a step after a, up to b
  abbrev within : Release → ℕ
  within r = cond (is_signal_within a b v r) 1 0

  abbrev pub count_within : List Release → ℕ
  count_within = count_by (is_signal_within a b v)

  -- of the outputs of one step, at most its signals, and none if the step is not between
  of_outputs : (n : ℕ) (os : List Output) → count_within (map (release_of n) os) ≤ count_by (is_signal_of v) os
  of_outputs n [] = omega arith
  of_outputs n (o ∷ os) =
      let one : within (release_of n o) ≤ cond (is_signal_of v o) 1 0 = grind (arith, nat_tests) in
      omega (arith, one, of_outputs n os, sum_by-cons within (release_of n o) (map (release_of n) os), sum_by-cons (λ (q : Output). cond (is_signal_of v q) 1 0) o os)

  of_earlier : (n : ℕ) (os : List Output) → n ≤ a → count_within (map (release_of n) os) ≡ 0
  of_earlier n [] le = refl
  of_earlier n (o ∷ os) le =
      let none : within (release_of n o) ≡ 0 = grind (arith, nat_tests, le) in
      omega (arith, none, of_earlier n os le, sum_by-cons within (release_of n o) (map (release_of n) os))

  of_later : (n : ℕ) (os : List Output) → b + 1 ≤ n → count_within (map (release_of n) os) ≡ 0
  of_later n [] le = refl
  of_later n (o ∷ os) le =
      let none : within (release_of n o) ≡ 0 = grind (arith, nat_tests, le) in
      omega (arith, none, of_later n os le, sum_by-cons within (release_of n o) (map (release_of n) os))

  -- the first step, and the others
  split : (w : World) (s : Step) (ss : List Step) → count_within (releases_of (outs w (s ∷ ss))) ≡ count_within (map (release_of (w.count + 1)) (outputs w s)) + count_within (releases_of (outs (next w s) ss))
  split w s ss = sum_by-append within (map (release_of (w.count + 1)) (outputs w s)) (releases_of (outs (next w s) ss))

  -- steps up to a
  earlier_none : (ss : List Step) (w : World) → w.count + length ss ≤ a → count_within (releases_of (outs w ss)) ≡ 0
  earlier_none [] w le = refl
  earlier_none (s ∷ ss) w le = omega (arith, split w s ss, of_earlier (w.count + 1) (outputs w s) (omega (arith, le)), earlier_none ss (next w s) (omega (arith, le)))

  -- steps after b
  later_none : (ss : List Step) (w : World) → b ≤ w.count → count_within (releases_of (outs w ss)) ≡ 0
  later_none [] w le = refl
  later_none (s ∷ ss) w le = omega (arith, split w s ss, of_later (w.count + 1) (outputs w s) (omega (arith, le)), later_none ss (next w s) (omega (arith, le)))

  -- any steps
  at_most : (ss : List Step) (w : World) → count_within (releases_of (outs w ss)) ≤ signals_of v (outs w ss)
  at_most [] w = omega arith
  at_most (s ∷ ss) w = omega (arith, split w s ss, of_outputs (w.count + 1) (outputs w s), signals_first v w s ss, signals_given v w s, at_most ss (next w s))

  -- all steps of a history: at most the signals of those between
  pub all_within : (base : World) (earlier between rest : List Step) → a ≡ base.count + length earlier → b ≡ a + length between → count_within (releases_of (outs base (earlier ++ (between ++ rest)))) ≤ signals_of v (outs (fold base earlier) between)
  all_within base earlier between rest from to =
      let w = fold base earlier in
      let first = ap count_within (released_both base earlier (between ++ rest)) ∙ sum_by-append within (releases_of (outs base earlier)) (releases_of (outs w (between ++ rest))) in
      let second = ap count_within (released_both w between rest) ∙ sum_by-append within (releases_of (outs w between)) (releases_of (outs (fold w between) rest)) in
      let count = fold_counts base earlier in
      let count_after = fold_counts w between in
      let none_before = earlier_none earlier base (omega (arith, from)) in
      let none_after = later_none rest (fold w between) (omega (arith, to, from, count, count_after)) in
      omega (arith, first, second, none_before, none_after, at_most between w)

  -- resent packets are of no step
  of_first : (rs : List Release) → count_within rs ≤ count_within (released_first rs)
  of_first [] = omega arith
  of_first (r ∷ rs) =
      by_test (not (r.step == 0)) (λ t. (not (r.step == 0) ≡ t) → count_within (r ∷ rs) ≤ count_within (cond t (r ∷ released_first rs) (released_first rs)))
      (λ _ e. omega (arith, of_first rs, sum_by-cons within r rs, sum_by-cons within r (released_first rs)))
      (λ _ e. let none : within r ≡ 0 = grind (arith, nat_tests, e) in omega (arith, none, of_first rs, sum_by-cons within r rs))
      refl

-- a ledger has released at most the signals of the steps between
released_most : (s : Machine) (earlier between rest : List Step) → IsConsistent s → settled_steps s.log ≡ earlier ++ (between ++ rest) → (v : ℕ) →
    count_by (is_signal_within (s.log.base.count + length earlier) (s.log.base.count + length earlier + length between) v) s.released ≤ signals_of v (outs (fold s.log.base earlier) between)
released_most s earlier between rest is steps v =
    let base = s.log.base in
    let a = base.count + length earlier in
    let b = a + length between in
    let once = in_part (is_signal_within a b v) (released_first s.released) (releases_of (outs base (settled_steps s.log))) is.returned.once in
    let all = subst (λ l. count_within a b v (releases_of (outs base l)) ≤ signals_of v (outs (fold base earlier) between)) (sym steps) (all_within a b v base earlier between rest refl refl) in
    omega (arith, of_first a b v s.released, once, all)

-- the settled steps are a trail
settled_trail : (s : Machine) (steps : List Step) → IsConsistent s → settled_steps s.log ≡ steps → IsTrail s.log.base steps
settled_trail s steps is same = subst (IsTrail s.log.base) same (trail_is_cut s.log.base s.log.trail s.log.settled is.log.trail).first

pub released_between : ReleasedBetween
released_between s earlier between rest part is steps again =
    let bounds = bound_between s.log.base earlier between rest part (settled_trail s (earlier ++ (between ++ rest)) is steps) again in
    record {
      most = λ v x inside linked. omega (arith, released_most s earlier between rest is steps v, bounds.most v x inside linked);
      least = bounds.least;
    }

pub released_with_drops : ReleasedWithDrops
released_with_drops s earlier between rest part is steps ready v inside =
    omega (arith, released_most s earlier between rest is steps v, bound_with_drops s.log.base earlier between rest part (settled_trail s (earlier ++ (between ++ rest)) is steps) ready v inside)
