-- A trail, step by step.
use Rattle.std.proofs.Common.{◌≡◌, ℕ, zero, suc, List, [], ◌∷◌, ◌++◌, take, drop, refl, sym, ap, subst, append-nil, arith, All}
use Rattle.std.proofs.lemmas.List.Elements.{All-head, All-tail, All-cons, All-nil}
use Rattle.coord_types.specs.declared.steps.Step.{Step}
use Rattle.coord_world.specs.Facade.{InTurn, IsFresh, StepInRange, World, fold, next, outputs, outs, reply}
use Rattle.coord_world.specs.laws.Trails.{IsTrail, IsSound, FoldCounts, TrailKeepsWorlds, TrailIsCut, TrailGoesOn}
use Rattle.coord_world.proofs.Acceptance.{itself}
use Rattle.coord_world.proofs.legal.NextKeepsLegal.{legal_next}
use Rattle.coord_world.proofs.ranges.NextKeepsRanges.{ranges_next}
use Rattle.coord_world.proofs.waves.Running.{IsTaken, taken_in_turn}

-- each step is fresh over the world before it, and in its ranges
abbrev pub EachFresh : World → List Step → Type 0
EachFresh w [] = Unit {0}
EachFresh w (s ∷ ss) = (IsFresh w w s × StepInRange s) × EachFresh (next w s) ss

-- steps in turn are, since each is fresh over the world itself
pub taken_each_fresh : (ss : List Step) (w : World) → IsTaken w ss → All StepInRange ss → EachFresh w ss
taken_each_fresh [] w taken named = tt
taken_each_fresh (s ∷ ss) w taken named =
    let first = taken [] ss s refl in (
      (itself w first.0 s first.1, All-head StepInRange s ss named),
      taken_each_fresh ss (next w s) (λ before rest q is. taken (s ∷ before) rest q (ap (λ l. s ∷ l) is)) (All-tail StepInRange s ss named),
    )

-- the steps of a trail are each fresh
pub trail_each_fresh : (base : World) (trail : List Step) → IsTrail base trail → EachFresh base trail
trail_each_fresh base trail is = taken_each_fresh trail base (taken_in_turn base trail is.in_turn) is.named

-- one step keeps the world
pub sound_next : (w : World) (s : Step) → IsSound w → IsFresh w w s × StepInRange s → IsSound (next w s)
sound_next w s sound each = record { in_range = ranges_next w w s each.1 sound.in_range sound.legal each.0; legal = legal_next w w s sound.in_range sound.legal each.0 }

-- all steps keep a sound world sound
pub sound_fold : (ss : List Step) (w : World) → IsSound w → EachFresh w ss → IsSound (fold w ss)
sound_fold [] w sound each = sound
sound_fold (s ∷ ss) w sound each = sound_fold ss (next w s) (sound_next w s sound each.0) each.1

-- the first steps are each fresh, and the others from the world after them
pub each_fresh-take : (n : ℕ) (ss : List Step) (w : World) → EachFresh w ss → EachFresh w (take n ss)
each_fresh-take zero ss w each = tt
each_fresh-take (suc n) [] w each = tt
each_fresh-take (suc n) (s ∷ ss) w each = (each.0, each_fresh-take n ss (next w s) each.1)

pub each_fresh-drop : (n : ℕ) (ss : List Step) (w : World) → EachFresh w ss → EachFresh (fold w (take n ss)) (drop n ss)
each_fresh-drop zero ss w each = each
each_fresh-drop (suc n) [] w each = tt
each_fresh-drop (suc n) (s ∷ ss) w each = each_fresh-drop n ss (next w s) each.1

pub fold-take_drop : (n : ℕ) (ss : List Step) (w : World) → fold (fold w (take n ss)) (drop n ss) ≡ fold w ss
fold-take_drop zero ss w = refl
fold-take_drop (suc n) [] w = refl
fold-take_drop (suc n) (s ∷ ss) w = fold-take_drop n ss (next w s)

pub each_fresh-append : (xs ys : List Step) (w : World) → EachFresh w xs → EachFresh (fold w xs) ys → EachFresh w (xs ++ ys)
each_fresh-append [] ys w each on = on
each_fresh-append (x ∷ xs) ys w each on = (each.0, each_fresh-append xs ys (next w x) each.1 on)

outs-take_drop : (n : ℕ) (ss : List Step) (w : World) → outs w (take n ss) ++ outs (fold w (take n ss)) (drop n ss) ≡ outs w ss
outs-take_drop zero ss w = refl
outs-take_drop (suc n) [] w = refl
outs-take_drop (suc n) (s ∷ ss) w = ap (λ l. record { reply = reply w s; outputs = outputs w s } ∷ l) (outs-take_drop n ss (next w s))

-- each step counts once
pub fold_counts : FoldCounts
fold_counts base [] = omega arith
fold_counts base (s ∷ ss) = let rest = fold_counts (next base s) ss in omega (arith, rest)

-- the world after any number of steps
pub trail_keeps_worlds : TrailKeepsWorlds
trail_keeps_worlds base trail n is = sound_fold (take n trail) base is.sound (each_fresh-take n trail base (trail_each_fresh base trail is))

-- a step of such a list is fresh over the world after those before it, with these as settled
fresh_at : (before : List Step) (w : World) (ss rest : List Step) (s : Step) → ss ≡ before ++ s ∷ rest → EachFresh w ss → IsFresh (fold w before) (fold w before) s
fresh_at [] w [] rest s is each = cc
fresh_at [] w (q ∷ qs) rest s is each = let same : q ≡ s = cc is in subst (IsFresh w w) same each.0.0
fresh_at (b ∷ bs) w [] rest s is each = cc
fresh_at (b ∷ bs) w (q ∷ qs) rest s is each =
    let same : q ≡ b = cc is in
    let later : qs ≡ bs ++ s ∷ rest = cc is in
    rw (sym same) (fresh_at bs (next w q) qs rest s later each.1)

each_fresh_in_turn : (ss : List Step) (w : World) → EachFresh w ss → InTurn w ss
each_fresh_in_turn ss w each before rest s is = (before, ([], (sym (append-nil before), fresh_at before w ss rest s is each)))

each_fresh_named : (ss : List Step) (w : World) → EachFresh w ss → All StepInRange ss
each_fresh_named [] w each = All-nil StepInRange
each_fresh_named (s ∷ ss) w each = All-cons StepInRange s ss each.0.1 (each_fresh_named ss (next w s) each.1)

-- the steps are a trail
pub trail_of : (ss : List Step) (w : World) → IsSound w → EachFresh w ss → IsTrail w ss
trail_of ss w sound each = record { sound = sound; in_turn = each_fresh_in_turn ss w each; named = each_fresh_named ss w each }

-- both parts of a trail
pub trail_is_cut : TrailIsCut
trail_is_cut base trail n is =
    let each = trail_each_fresh base trail is in
    record {
      first = trail_of (take n trail) base is.sound (each_fresh-take n trail base each);
      others = trail_of (drop n trail) (fold base (take n trail)) (trail_keeps_worlds base trail n is) (each_fresh-drop n trail base each);
      whole = fold-take_drop n trail base;
      outputs = outs-take_drop n trail base;
    }

-- a trail with one more step
pub trail_goes_on : TrailGoesOn
trail_goes_on base trail d s is named fresh =
    trail_of (trail ++ s ∷ []) base is.sound (each_fresh-append trail (s ∷ []) base (trail_each_fresh base trail is) ((itself (fold base trail) (fold base (take d trail)) s fresh, named), tt))
