-- The lives of a node: how often it was added. A link belongs to one life of each of its ends, and as long as a node lives its
-- confirmed epoch doesn't fall.
use Rattle.std.proofs.Common.{◌≡◌, ◌⊎◌, ℕ, zero, suc, ◌+◌, ◌<◌, ◌≤◌, nat_le, eqb, Bool, true, false, List, [], ◌∷◌, Some, is_some, refl, sym, ap, ◌∙◌, arith, inl, inr, if◌then◌else◌}
use Rattle.std.proofs.lemmas.Bool.Decides.{nat_tests}
use Rattle.coord_types.specs.Table.{has}
use Rattle.coord_link.specs.LaneMachine.{Lane}
use Rattle.coord_world.specs.Facade.{World, lane_at, state}
use Rattle.coord_world.specs.laws.Trails.{IsSound}
use Rattle.coord_world.proofs.Facade.{raised_is_legal, trail_keeps_worlds, trail_of}
use Rattle.coord_following.specs.Histories.{Turn, Takes, Raises, IsTurn, IsHistory, adds, life_at, turned, world_at}
use Rattle.coord_following.proofs.Steps.{IsOld, WasThere, adds_none, stays, was_or_new}

-- the life of node u in which a link of this incarnation was made
abbrev pub made_by : World → List Turn → ℕ → ℕ → ℕ
made_by w [] u inc = 0
made_by w (t ∷ turns) u inc = if nat_le inc w.count then 0 else adds u t + made_by (turned w t) turns u inc

-- ---- sound worlds

sound_turned : (w : World) (t : Turn) → IsSound w → IsTurn w t → IsSound (turned w t)
sound_turned w (Takes s) sound is = trail_keeps_worlds w (s ∷ []) 1 (trail_of (s ∷ []) w sound (is, tt))
sound_turned w Raises sound is = let well = raised_is_legal w sound.in_range sound.legal is.0 is.1 in record { in_range = well.in_range; legal = well.legal }

pub sound_at : (w : World) (k : ℕ) (turns : List Turn) → IsSound w → IsHistory w turns → IsSound (world_at w k turns)
sound_at w zero turns sound history = sound
sound_at w (suc k) [] sound history = sound
sound_at w (suc k) (t ∷ turns) sound history = sound_at (turned w t) k turns (sound_turned w t sound history.0) history.1

pub counts_more : (w : World) (t : Turn) → w.count ≤ (turned w t).count
counts_more w (Takes s) = omega arith
counts_more w Raises = omega arith

-- ---- links

-- a lane that is older than the history was there all the time, so its node was not added
pub record IsAsOld (w : World) (k : ℕ) (turns : List Turn) (x y : ℕ) (m : Lane) : Type 0 where
  pub was : WasThere w x y m
  pub life : life_at k turns x ≡ 0

one_more_turn : (w : World) (t : Turn) (k : ℕ) (turns : List Turn) (x y : ℕ) (m l : Lane) → IsSound w → IsTurn w t → m.inc ≤ w.count → l.inc ≡ m.inc → IsOld w x y l → life_at k turns x ≡ 0 → IsAsOld w (suc k) (t ∷ turns) x y m
one_more_turn w t k turns x y m l sound is old same (inr new) life = absurd (omega (arith, old, same, new))
one_more_turn w t k turns x y m l sound is old same (inl was) life =
    let none = adds_none w t x is (sound.in_range.ends x y (ap is_some was.there)) in
    record { was = record { lane = was.lane; there = was.there; same = was.same ∙ same }; life = omega (arith, none, life) }

pub as_old : (w : World) (k : ℕ) (turns : List Turn) (x y : ℕ) (m : Lane) → IsSound w → IsHistory w turns → lane_at (world_at w k turns).links x y ≡ Some m → m.inc ≤ w.count → IsAsOld w k turns x y m
as_old w zero turns x y m sound history there old = record { was = record { lane = m; there = there; same = refl }; life = refl }
as_old w (suc k) [] x y m sound history there old = record { was = record { lane = m; there = there; same = refl }; life = refl }
as_old w (suc k) (t ∷ turns) x y m sound history there old =
    let more = counts_more w t in
    let later = as_old (turned w t) k turns x y m (sound_turned w t sound history.0) history.1 there (omega (arith, old, more)) in
    one_more_turn w t k turns x y m later.was.lane sound history.0 old later.was.same (was_or_new w t x y later.was.lane later.was.there) later.life

made_before : (w : World) (turns : List Turn) (u inc : ℕ) → inc ≤ w.count → made_by w turns u inc ≡ 0
made_before w [] u inc old = refl
made_before w (t ∷ turns) u inc old = let test : nat_le inc w.count ≡ true = grind (arith, nat_tests, old) in ap (λ b. if b then 0 else adds u t + made_by (turned w t) turns u inc) test

-- the links of a node are those of its present life
pub made_in_life : (w : World) (k : ℕ) (turns : List Turn) (x y : ℕ) (m : Lane) → IsSound w → IsHistory w turns → lane_at (world_at w k turns).links x y ≡ Some m → made_by w turns x m.inc ≡ life_at k turns x
made_in_life w zero turns x y m sound history there = made_before w turns x m.inc (sound.in_range.lanes x y m there).inc
made_in_life w (suc k) [] x y m sound history there = refl
made_in_life w (suc k) (t ∷ turns) x y m sound history there = of (nat_le m.inc w.count) refl (made_in_life (turned w t) k turns x y m (sound_turned w t sound history.0) history.1 there)
  where
    of : (b : Bool) → nat_le m.inc w.count ≡ b → made_by (turned w t) turns x m.inc ≡ life_at k turns x → (if b then 0 else adds x t + made_by (turned w t) turns x m.inc) ≡ adds x t + life_at k turns x
    of true old later = sym (as_old w (suc k) (t ∷ turns) x y m sound history there (grind (arith, nat_tests, old))).life
    of false new later = ap (λ n. adds x t + n) later

-- ---- confirmed epochs

-- a node that isn't there is added before it is
comes : (w : World) (k : ℕ) (turns : List Turn) (x : ℕ) → IsSound w → IsHistory w turns → has w.nodes x ≡ false → has (world_at w k turns).nodes x ≡ true → 1 ≤ life_at k turns x
comes w zero turns x sound history gone there = absurd (cc)
comes w (suc k) [] x sound history gone there = absurd (cc)
comes w (suc k) (t ∷ turns) x sound history gone there =
    of (has (turned w t).nodes x) (eqb (adds x t) 0) refl refl (λ none. comes (turned w t) k turns x (sound_turned w t sound history.0) history.1 none there)
  where
    of : (b c : Bool) → has (turned w t).nodes x ≡ b → eqb (adds x t) 0 ≡ c → (has (turned w t).nodes x ≡ false → 1 ≤ life_at k turns x) → 1 ≤ adds x t + life_at k turns x
    of false c none test rest = let later = rest none in omega (arith, later)
    of true true here test rest = absurd (let none : adds x t ≡ 0 = grind (arith, nat_tests, test) in let is = (stays w t x sound.in_range history.0 here none).there in cc)
    of true false here test rest = let some : 1 ≤ adds x t = grind (arith, nat_tests, test) in omega (arith, some)

-- a node is in a later life, or in the same with no lower epoch confirmed
abbrev pub IsFurther : ℕ → ℕ → ℕ → ℕ → Type 0
IsFurther life confirmed later_life later_confirmed = (life < later_life) ⊎ ((life ≡ later_life) × (confirmed ≤ later_confirmed))

further_by : (added life confirmed later_life later_confirmed : ℕ) → IsFurther life confirmed later_life later_confirmed → IsFurther (added + life) confirmed (added + later_life) later_confirmed
further_by added life confirmed later_life later_confirmed (inl less) = inl (omega (arith, less))
further_by added life confirmed later_life later_confirmed (inr same) = inr (ap (λ n. added + n) same.0, same.1)

further_from : (added confirmed confirmed_next later_life later_confirmed : ℕ) → added ≡ 0 → confirmed ≤ confirmed_next → IsFurther 0 confirmed_next later_life later_confirmed → IsFurther 0 confirmed (added + later_life) later_confirmed
further_from added confirmed confirmed_next later_life later_confirmed none more (inl less) = inl (omega (arith, none, less))
further_from added confirmed confirmed_next later_life later_confirmed none more (inr same) = inr (let e = same.0 in omega (arith, none, e), let le = same.1 in omega (arith, more, le))

further : (w : World) (k : ℕ) (turns : List Turn) (x : ℕ) → IsSound w → IsHistory w turns → has w.nodes x ≡ true → has (world_at w k turns).nodes x ≡ true →
    IsFurther 0 (state w x).confirmed (life_at k turns x) (state (world_at w k turns) x).confirmed
further w zero turns x sound history here there = inr (refl, omega arith)
further w (suc k) [] x sound history here there = inr (refl, omega arith)
further w (suc k) (t ∷ turns) x sound history here there =
    of (has (turned w t).nodes x) refl (λ still. further (turned w t) k turns x (sound_turned w t sound history.0) history.1 still there)
  where
    of : (b : Bool) → has (turned w t).nodes x ≡ b →
        (has (turned w t).nodes x ≡ true → IsFurther 0 (state (turned w t) x).confirmed (life_at k turns x) (state (world_at (turned w t) k turns) x).confirmed) →
        IsFurther 0 (state w x).confirmed (adds x t + life_at k turns x) (state (world_at (turned w t) k turns) x).confirmed
    of true still rest =
        let none = adds_none w t x history.0 here in
        let one = stays w t x sound.in_range history.0 still none in
        further_from (adds x t) (state w x).confirmed (state (turned w t) x).confirmed (life_at k turns x) (state (world_at (turned w t) k turns) x).confirmed none one.confirmed (rest still)
    of false gone rest = let some = comes (turned w t) k turns x (sound_turned w t sound history.0) history.1 gone there in inl (omega (arith, some))

-- from any moment to a later one
pub further_at : (w : World) (j k : ℕ) (turns : List Turn) (x : ℕ) → IsSound w → IsHistory w turns → j ≤ k → has (world_at w j turns).nodes x ≡ true → has (world_at w k turns).nodes x ≡ true →
    IsFurther (life_at j turns x) (state (world_at w j turns) x).confirmed (life_at k turns x) (state (world_at w k turns) x).confirmed
further_at w zero k turns x sound history le here there = further w k turns x sound history here there
further_at w (suc j) zero turns x sound history le here there = absurd (omega (arith, le))
further_at w (suc j) (suc k) [] x sound history le here there = inr (refl, omega arith)
further_at w (suc j) (suc k) (t ∷ turns) x sound history le here there =
    further_by (adds x t) (life_at j turns x) (state (world_at (turned w t) j turns) x).confirmed (life_at k turns x) (state (world_at (turned w t) k turns) x).confirmed
    (further_at (turned w t) j k turns x (sound_turned w t sound history.0) history.1 (omega (arith, le)) here there)
