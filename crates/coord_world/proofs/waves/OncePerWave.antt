-- A wave signals each node that it reaches exactly once, as overlapping resets of which there is one.
use Rattle.std.proofs.Common.{◌≡◌, ℕ, Bool, false, List, [], ◌∷◌, ◌++◌, refl, sym, ap, ◌∙◌, All, ◌≢◌, ◌⊎◌, ◌≤◌, true, subst, inl, inr, arith, count_by}
use Rattle.std.proofs.lemmas.List.Elements.{All-cons, All-nil}
use Rattle.std.proofs.lemmas.Bool.Decides.{nat_tests}
use Rattle.coord_types.specs.Facade.{Ideal, contains}
use Rattle.coord_types.specs.declared.steps.Kind.{Kind}
use Rattle.coord_types.specs.declared.steps.Kind.TheVariants.{Finished}
use Rattle.coord_types.specs.declared.steps.Step.{Step}
use Rattle.coord_node.specs.Rules.{is_empty}
use Rattle.coord_node.specs.Steps.{kind}
use Rattle.coord_tables.proofs.Cases.{same_or_apart}
use Rattle.coord_world.specs.Facade.{World, fold, next, state, view, StepOutcome, is_linked, is_ready, outputs, outs, reply}
use Rattle.coord_world.specs.laws.Overlaps.{BeginsReady, OnceIfOneStarted, PartReady}
use Rattle.coord_world.specs.laws.Waves.{Connected, IsExplained, started, started_by, signals_of, OncePerWave}
use Rattle.coord_world.proofs.legal.Sound.{Sound}
use Rattle.coord_world.proofs.legal.SoundView.{sound_view}
use Rattle.coord_world.proofs.waves.Connected.{connected_further, along, connected_self}
use Rattle.coord_world.proofs.waves.Effect.{Effect, SamePlace}
use Rattle.coord_world.proofs.waves.Modes.{abort_busy, linked_some, sender_aborts}
use Rattle.coord_world.proofs.waves.Running.{AllGo, Start, all_go, near_kept, start_of}
use Rattle.coord_world.proofs.waves.SignalsOf.{all_explained, signals_given}
use Rattle.coord_world.proofs.waves.Spread.{all_among, among, among-append, reached_signals}
use Rattle.coord_world.proofs.waves.StepEffects.{signals_in}
use Rattle.coord_world.proofs.waves.Bounded.{no_more}

-- ---- each signal is explained

-- each node that isn't Ready is connected with u
abbrev pub Inside : World → ℕ → Ideal → Type 0
Inside base u z = (x : ℕ) → is_ready (z.state x).mode ≡ false → Connected base u x

-- what a step keeps
record Explains (base : World) (u : ℕ) (y : Ideal) (signals : ℕ → ℕ) (k : Kind) : Type 0 where
  inside : Inside base u y
  signal : (v : ℕ) → 1 ≤ signals v → Connected base u v ⊎ (k ≡ Finished)

module _ (base : World) (u : ℕ) (z y : Ideal) (signals : ℕ → ℕ) (k : Kind) (inside : Inside base u z) where
  -- if only one node changes, and it is connected with u
  one_changes : (t : ℕ) → ((x : ℕ) → x ≢ t → y.state x ≡ z.state x) → Connected base u t → Inside base u y
  one_changes t elsewhere known = grind (arith, nat_tests, elsewhere, known)

  -- if each node stays in its place
  same_inside : ((x : ℕ) → SamePlace (z.state x) (y.state x)) → Inside base u y
  same_inside same x busy = inside x (ap is_ready (sym (same x).mode) ∙ busy)

  -- nobody signals
  nobody : ((v : ℕ) → signals v ≡ 0) → (v : ℕ) → 1 ≤ signals v → Connected base u v ⊎ (k ≡ Finished)
  nobody silent v some = absurd (omega (arith, silent v, some))

-- by what the step does
explains : (base : World) (u : ℕ) (z y : Ideal) (signals : ℕ → ℕ) (starts : List ℕ) (k : Kind) → Sound z → ((a b : ℕ) → contains (z.state a).neighbours b ≡ true → is_linked base a b ≡ true) →
    Inside base u z → ((t : ℕ) → starts ≡ t ∷ [] → Connected base u t) → Effect z y signals starts k → Explains base u y signals k
explains base u z y signals starts k sound like inside known (Effect.passes passes silent e) =
    record { inside = same_inside base u z y signals k inside passes.same; signal = nobody base u z y signals k inside silent }
explains base u z y signals starts k sound like inside known (Effect.alone t passes lone signal kind e) =
    record { inside = same_inside base u z y signals k inside passes.same; signal = λ v some. inr kind }
explains base u z y signals starts k sound like inside known (Effect.reaches t v reaches silent e) =
    let from = inside v (abort_busy (z.state v).mode (sender_aborts z sound v t reaches.near reaches.came)) in
    let to = connected_further base u v t from (like v t (sym (sound.mirrored t v) ∙ reaches.near)) in
    record { inside = one_changes base u z y signals k inside t reaches.elsewhere to; signal = nobody base u z y signals k inside silent }
explains base u z y signals starts k sound like inside known (Effect.turns t p turns silent e) =
    record { inside = one_changes base u z y signals k inside t turns.elsewhere (inside t (ap is_ready turns.was)); signal = nobody base u z y signals k inside silent }
explains base u z y signals starts k sound like inside known (Effect.finishes t finishes signal e) =
    let from = inside t finishes.was in
    record {
      inside = one_changes base u z y signals k inside t finishes.elsewhere from;
      signal = λ v some. elim (same_or_apart v t) [
        | inl here ↦ inl (subst (Connected base u) (sym here) from)
        | inr far ↦ absurd (let none = signal v in grind (arith, nat_tests, none, some, far))
      ];
    }
explains base u z y signals starts k sound like inside known (Effect.starts_at t start silent e) =
    record { inside = one_changes base u z y signals k inside t start.elsewhere (known t e); signal = nobody base u z y signals k inside silent }

-- step by step
pub explained : (base : World) (u : ℕ) (steps : List Step) (w : World) → AllGo w steps → ((a b : ℕ) → contains (state w a).neighbours b ≡ true → is_linked base a b ≡ true) →
    Inside base u (view w) → ((t : ℕ) → among (started w steps) t ≡ true → Connected base u t) → All (λ r. All (IsExplained base u r.reply.kind) r.outputs) (outs w steps)
explained base u [] w run like inside known = All-nil (λ (r : StepOutcome). All (IsExplained base u r.reply.kind) r.outputs)
explained base u (s ∷ ss) w run like inside known =
    let goes = run.0 in
    let here : StepOutcome = record { reply = reply w s; outputs = outputs w s } in
    let by = explains base u (view w) (view (next w s)) (signals_in w.version (state w) s) (started_by (kind (state w) s) s) (kind (state w) s) goes.before like inside
    (λ t e. known t (rw e (grind (arith, nat_tests)))) goes.effect in
    All-cons (λ (r : StepOutcome). All (IsExplained base u r.reply.kind) r.outputs) here (outs (next w s) ss)
    (all_explained base u (kind (state w) s) (outputs w s) (λ v some. by.signal v (let given = signals_given v w s in omega arith)))
    (explained base u ss (next w s) run.1 (λ a b near. like a b (sym (goes.near a b) ∙ near)) by.inside (λ t h. known t (later (started_by (kind (state w) s) s) (started (next w s) ss) t h)))
  where
    later : (xs ys : List ℕ) (t : ℕ) → among ys t ≡ true → among (xs ++ ys) t ≡ true
    later [] ys t h = h
    later (x ∷ xs) ys t h = grind (arith, later xs ys t h)

-- ---- exactly once

-- a node at which a reset is started has a neighbour
started_some : (steps : List Step) (w : World) → AllGo w steps → (u : ℕ) → among (started w steps) u ≡ true → is_empty (state w u).neighbours ≡ false
started_some [] w run u h = cc
started_some (s ∷ ss) w run u h = elim (among-append (started_by (kind (state w) s) s) (started (next w s) ss) u h) [
  | inl here ↦ elim (start_of (view w) (view (next w s)) (signals_in w.version (state w) s) (started_by (kind (state w) s) s) (kind (state w) s) run.0.effect) [
    | Start.nowhere none ↦ absurd (let nobody = subst (λ l. among l u ≡ true) none here in cc)
    | Start.somewhere t start silent e ↦ let is = subst (λ l. among l u ≡ true) e here in let same : u ≡ t = grind (arith, nat_tests, is) in rw same start.some
  ]
  | inr later ↦ sym (near_kept w s run.0 u) ∙ started_some ss (next w s) run.1 u later
]

-- at least once by Spread, at most once by Trees
once : (w : World) (steps : List Step) (part : ℕ → Bool) → BeginsReady w steps part → PartReady (fold w steps) part → count_by part (started w steps) ≡ 1 →
    (u : ℕ) → among (started w steps) u ≡ true → part u ≡ true → (v : ℕ) → Connected w u v → signals_of v (outs w steps) ≡ 1
once w steps part begins ready_after one u h inside v path =
    let sound = sound_view w begins.in_range begins.legal in
    let run = all_go w steps begins.in_range begins.legal begins.in_turn begins.same_topology in
    let some = along w (λ q. is_empty (state w q).neighbours ≡ false) (λ a b _ linked. linked_some (view w) sound a b (sym (sound.linked a b) ∙ linked)) u v path.0 path.1 (started_some steps w run u h) in
    let inside_v = along w (λ q. part q ≡ true) (λ a b in_a linked. sym (begins.is_part a b linked) ∙ in_a) u v path.0 path.1 inside in
    let least = reached_signals w steps part begins ready_after u h inside v path in
    let most = no_more w steps part begins v inside_v some in
    omega arith

pub once_if_one_started : OnceIfOneStarted
once_if_one_started w steps part begins ready_after one =
    all_among (λ u. part u ≡ true → (v : ℕ) → Connected w u v → signals_of v (outs w steps) ≡ 1) (started w steps) (once w steps part begins ready_after one)

-- connected nodes by once_if_one_started; any other signal has the reply Finished
pub once_per_wave : OncePerWave
once_per_wave w steps u wave = record {
  once = once w steps (λ _. true) begins (λ v _. wave.ready_after v) (rw wave.one_start (grind (arith, nat_tests))) u (rw wave.one_start (grind (arith, nat_tests))) refl;
  others = explained w u steps w (all_go w steps wave.in_range wave.legal wave.in_turn wave.same_topology) (λ a b near. (sound_view w wave.in_range wave.legal).linked a b ∙ near)
      (λ x busy. absurd (let ready = ap is_ready (wave.ready_before x) in cc))
      (λ t h. subst (Connected w u) (sym (alone t h)) (connected_self w u));
}
  where
    -- all nodes are a part
    begins : BeginsReady w steps (λ _. true)
    begins = record { in_range = wave.in_range; legal = wave.legal; in_turn = wave.in_turn; same_topology = wave.same_topology; is_part = λ a b _. refl; ready_before = λ v _. wave.ready_before v }

    -- nobody else starts
    alone : (t : ℕ) → among (started w steps) t ≡ true → t ≡ u
    alone t h = let one = subst (λ l. among l t ≡ true) wave.one_start h in grind (arith, nat_tests, one)
