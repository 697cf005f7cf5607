-- What settled steps release, and that no step signals a node twice.
use Rattle.std.proofs.Common.{◌≡◌, ℕ, ◌+◌, ◌≤◌, List, [], ◌∷◌, ◌++◌, map, length, refl, ap, ◌∙◌, arith, not, ◌==◌, ◌≢◌, Bool, cond, inl, inr, count_by}
use Rattle.std.specs.List.{AllByRecursion}
use Rattle.std.proofs.lemmas.Grind.{flat_map-append}
use Rattle.std.proofs.lemmas.List.Elements.{filter-append}
use Rattle.std.proofs.lemmas.Bool.Decides.{nat_tests}
use Rattle.std.proofs.lemmas.List.Sums.{sum_by-append, sum_by-cons}
use Rattle.coord_ledger.specs.Facade.{Output, Step, release_of, released_first, releases_of, IsPartOf, Release, is_signal, settled_steps}
use Rattle.coord_world.specs.Facade.{StepOutcome, World, fold, next, outputs, outs, reply, IsFresh, signals, state}
use Rattle.coord_ledger.proofs.machine.Lists.{all_both}
use Rattle.coord_node.specs.Facade.{Transition, lost, request, transition, transitions}
use Rattle.coord_types.specs.declared.outputs.Output.TheVariants.{Signalled}
use Rattle.coord_types.specs.declared.steps.Command.TheVariants.{Add, Remove, Join, Drop, Reset, Confirm}
use Rattle.coord_types.specs.declared.steps.Step.TheVariants.{Order, Take, Clear}
use Rattle.coord_world.proofs.Facade.{EachFresh, by_test, fresh_order, same_or_apart, signals_given, trail_each_fresh, trail_is_cut}
use Rattle.coord_world.specs.laws.Waves.{is_signal_of}
use Rattle.coord_ledger.specs.laws.Laws.{NoSignalTwice}

-- ---- releases

-- steps one after the other
pub outs_both : (w : World) (ss ts : List Step) → outs w (ss ++ ts) ≡ outs w ss ++ outs (fold w ss) ts
outs_both w [] ts = refl
outs_both w (s ∷ ss) ts = ap (λ l. record { reply = reply w s; outputs = outputs w s } ∷ l) (outs_both (next w s) ss ts)

pub released_both : (w : World) (ss ts : List Step) → releases_of (outs w (ss ++ ts)) ≡ releases_of (outs w ss) ++ releases_of (outs (fold w ss) ts)
released_both w ss ts = ap releases_of (outs_both w ss ts) ∙ flat_map-append (λ (r : StepOutcome). map (release_of r.reply.step) r.outputs) (outs w ss) (outs (fold w ss) ts)

-- the outputs of one step
of_one : (n m : ℕ) (os : List Output) → n ≤ m → AllByRecursion (λ r. r.step ≤ m) (map (release_of n) os)
of_one n m [] le = tt
of_one n m (o ∷ os) le = (le, of_one n m os le)

-- no number is above that of the last step
pub none_above : (w : World) (ss : List Step) (m : ℕ) → w.count + length ss ≤ m → AllByRecursion (λ r. r.step ≤ m) (releases_of (outs w ss))
none_above w [] m le = tt
none_above w (s ∷ ss) m le =
    all_both (λ r. r.step ≤ m) (map (release_of (w.count + 1)) (outputs w s)) (releases_of (outs (next w s) ss)) (of_one (w.count + 1) m (outputs w s) (omega (arith, le))) (none_above (next w s) ss m (omega (arith, le)))

-- resent packets have no number
pub again_is_new : (os : List Output) → released_first (map (release_of 0) os) ≡ []
again_is_new [] = refl
again_is_new (o ∷ os) = again_is_new os

pub again_bound : (m : ℕ) (os : List Output) → AllByRecursion (λ r. r.step ≤ m) (map (release_of 0) os)
again_bound m os = of_one 0 m os (omega arith)

-- what a step gives out has the number of the step
numbered : (n : ℕ) (os : List Output) → released_first (map (release_of (n + 1)) os) ≡ map (release_of (n + 1)) os
numbered n [] = refl
numbered n (o ∷ os) = grind (arith, nat_tests, numbered n os)

pub all_numbered : (w : World) (ss : List Step) → released_first (releases_of (outs w ss)) ≡ releases_of (outs w ss)
all_numbered w [] = refl
all_numbered w (s ∷ ss) =
    filter-append (λ r. not (r.step == 0)) (map (release_of (w.count + 1)) (outputs w s)) (releases_of (outs (next w s) ss))
    ∙ ap (λ l. l ++ released_first (releases_of (outs (next w s) ss))) (numbered w.count (outputs w s))
    ∙ ap (λ l. map (release_of (w.count + 1)) (outputs w s) ++ l) (all_numbered (next w s) ss)

-- ---- the signals of one step

-- one transition signals once
of_transition : (v u : ℕ) (d : Transition) → count_by (is_signal_of v) (signals ((u, d) ∷ [])) ≤ cond (u == v) 1 0
of_transition v u d = by_test d.finished (λ b. count_by (is_signal_of v) (cond b (Signalled u d.state.epoch ∷ []) []) ≤ cond (u == v) 1 0) (λ _. grind (arith, nat_tests)) (λ _. grind (arith, nat_tests))

of_two : (v a b : ℕ) (d e : Transition) → count_by (is_signal_of v) (signals ((a, d) ∷ (b, e) ∷ [])) ≤ cond (a == v) 1 0 + cond (b == v) 1 0
of_two v a b d e = grind arith

at_most_one : (u v : ℕ) → cond (u == v) 1 0 ≤ 1
at_most_one u v = grind (arith, nat_tests)

step_signals : (w : World) (s : Step) (v : ℕ) → IsFresh w w s → count_by (is_signal_of v) (signals (transitions w.version (state w) s)) ≤ 1
step_signals w (Order c n (Add u g)) v fresh = omega arith
step_signals w (Order c n (Remove u)) v fresh = omega arith
step_signals w (Order c n (Join a b)) v fresh = omega arith
step_signals w (Order c n (Drop a b)) v fresh =
    let apart : a ≢ b = (fresh_order w w c n (Drop a b) fresh).apart in
    let both = of_two v a b (lost (state w a) b) (lost (state w b) a) in
    let one : cond (a == v) 1 0 + cond (b == v) 1 0 ≤ 1 = grind (arith, nat_tests, apart) in omega (arith, both, one)
step_signals w (Order c n (Reset u)) v fresh = omega (arith, of_transition v u (request w.version (state w u)), at_most_one u v)
step_signals w (Order c n (Confirm u e)) v fresh = omega arith
step_signals w (Take p) v fresh = omega (arith, of_transition v p.to (transition w.version p.msg (state w p.to) p.from), at_most_one p.to v)
step_signals w (Clear p) v fresh = omega arith

-- ---- the signals of all steps

-- 1 for the signal of node u by step n
abbrev signal_in : ℕ → ℕ → Release → ℕ
signal_in n u r = cond (is_signal n u r) 1 0

-- of outputs of one step, at most its signals, and none if it is another step
of_outputs : (n u m : ℕ) (os : List Output) → count_by (is_signal n u) (map (release_of m) os) ≤ count_by (is_signal_of u) os
of_outputs n u m [] = omega arith
of_outputs n u m (o ∷ os) =
    let one : signal_in n u (release_of m o) ≤ cond (is_signal_of u o) 1 0 = grind (arith, nat_tests) in
    omega (arith, one, of_outputs n u m os, sum_by-cons (signal_in n u) (release_of m o) (map (release_of m) os), sum_by-cons (λ (q : Output). cond (is_signal_of u q) 1 0) o os)

of_others : (n u m : ℕ) (os : List Output) → m ≢ n → count_by (is_signal n u) (map (release_of m) os) ≡ 0
of_others n u m [] far = refl
of_others n u m (o ∷ os) far =
    let none : signal_in n u (release_of m o) ≡ 0 = grind (arith, nat_tests, far) in
    omega (arith, none, of_others n u m os far, sum_by-cons (signal_in n u) (release_of m o) (map (release_of m) os))

-- the first step, and the others
split : (n u : ℕ) (w : World) (s : Step) (ss : List Step) → count_by (is_signal n u) (releases_of (outs w (s ∷ ss))) ≡ count_by (is_signal n u) (map (release_of (w.count + 1)) (outputs w s)) + count_by (is_signal n u) (releases_of (outs (next w s) ss))
split n u w s ss = sum_by-append (signal_in n u) (map (release_of (w.count + 1)) (outputs w s)) (releases_of (outs (next w s) ss))

-- later steps have other numbers
none_later : (n u : ℕ) (w : World) (ss : List Step) → n ≤ w.count → count_by (is_signal n u) (releases_of (outs w ss)) ≡ 0
none_later n u w [] le = refl
none_later n u w (s ∷ ss) le =
    let far : w.count + 1 ≢ n = λ e. omega (arith, e, le) in
    omega (arith, split n u w s ss, of_others n u (w.count + 1) (outputs w s) far, none_later n u (next w s) ss (omega (arith, le)))

all_signals : (n u : ℕ) (w : World) (ss : List Step) → EachFresh w ss → count_by (is_signal n u) (releases_of (outs w ss)) ≤ 1
all_signals n u w [] each = omega arith
all_signals n u w (s ∷ ss) each =
    elim (same_or_apart (w.count + 1) n) [
      | inl same ↦ omega (arith, split n u w s ss, of_outputs n u (w.count + 1) (outputs w s), signals_given u w s, step_signals w s u each.0.0, none_later n u (next w s) ss (omega (arith, same)))
      | inr far ↦ omega (arith, split n u w s ss, of_others n u (w.count + 1) (outputs w s) far, all_signals n u (next w s) ss each.1)
    ]

-- ---- releases

-- a part has no more
abbrev weight : {A : Type 0} → (A → Bool) → A → ℕ
weight p x = cond (p x) 1 0

pub in_part : {A : Type 0} (p : A → Bool) (xs ys : List A) → IsPartOf xs ys → count_by p xs ≤ count_by p ys
in_part p [] ys part = omega arith
in_part p (x ∷ xs) [] part = absurd part
in_part p (x ∷ xs) (y ∷ ys) (inl same) =
    let one : weight p x ≡ weight p y = ap (weight p) same.0 in
    omega (arith, one, in_part p xs ys same.1, sum_by-cons (weight p) x xs, sum_by-cons (weight p) y ys)
in_part p (x ∷ xs) (y ∷ ys) (inr part) = omega (arith, in_part p (x ∷ xs) ys part, sum_by-cons (weight p) y ys)

-- resent packets are of no step
of_first : (n u : ℕ) (rs : List Release) → 1 ≤ n → count_by (is_signal n u) rs ≤ count_by (is_signal n u) (released_first rs)
of_first n u [] le = omega arith
of_first n u (r ∷ rs) le =
    by_test (not (r.step == 0)) (λ b. (not (r.step == 0) ≡ b) → count_by (is_signal n u) (r ∷ rs) ≤ count_by (is_signal n u) (cond b (r ∷ released_first rs) (released_first rs)))
    (λ _ e. omega (arith, of_first n u rs le, sum_by-cons (signal_in n u) r rs, sum_by-cons (signal_in n u) r (released_first rs)))
    (λ _ e. let none : signal_in n u r ≡ 0 = grind (arith, nat_tests, e, le) in omega (arith, none, of_first n u rs le, sum_by-cons (signal_in n u) r rs))
    refl

pub signals_once : NoSignalTwice
signals_once s is n u le =
    let first = (trail_is_cut s.log.base s.log.trail s.log.settled is.log.trail).first in
    omega (arith, of_first n u s.released le, in_part (is_signal n u) (released_first s.released) (releases_of (outs s.log.base (settled_steps s.log))) is.returned.once, all_signals n u s.log.base (settled_steps s.log) (trail_each_fresh s.log.base (settled_steps s.log) first))
