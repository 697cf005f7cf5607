-- Whom overlapping resets reach: every node connected with an initiator, or with a signalled node, is signalled at least once.
use Rattle.std.proofs.Common.{◌≡◌, ◌≢◌, ◌⊎◌, ℕ, ◌≤◌, Bool, true, false, ◌||◌, List, [], ◌∷◌, ◌++◌, All, refl, sym, ap, ◌∙◌, subst, inl, inr, arith, eqb}
use Rattle.std.proofs.lemmas.Bool.Decides.{nat_tests}
use Rattle.std.proofs.lemmas.List.Elements.{All-cons, All-nil}
use Rattle.coord_types.specs.Facade.{Ideal, NodeState, contains}
use Rattle.coord_types.specs.declared.steps.Kind.{Kind}
use Rattle.coord_types.specs.declared.steps.Step.{Step}
use Rattle.coord_node.specs.Rules.{is_empty}
use Rattle.coord_node.specs.Steps.{kind}
use Rattle.coord_tables.proofs.Cases.{by_test, same_or_apart, everywhere}
use Rattle.coord_world.specs.Facade.{World, fold, is_linked, is_ready, next, outs, state, view}
use Rattle.coord_world.specs.protocol.Links.{aborts}
use Rattle.coord_world.specs.laws.Waves.{Connected, IsPath, signals_of, started, started_by}
use Rattle.coord_world.specs.laws.Overlaps.{AllOrNone, BeginsReady, IsPart, OnceOrMore, PartReady}
use Rattle.coord_world.proofs.legal.Sound.{Sound}
use Rattle.coord_world.proofs.legal.SoundView.{sound_view}
use Rattle.coord_world.proofs.lists.NodeSets.{empty_has}
use Rattle.coord_world.proofs.waves.Asked.{AllOwed, all_owed_by, busy_signals}
use Rattle.coord_world.proofs.waves.Connected.{along}
use Rattle.coord_world.proofs.waves.Effect.{Calm, Effect}
use Rattle.coord_world.proofs.waves.Modes.{SameNear, abort_busy, sender_aborts}
use Rattle.coord_world.proofs.waves.Running.{AllGo, all_go, near_kept, taken_in_turn}
use Rattle.coord_world.proofs.waves.SignalsOf.{signals_first}
use Rattle.coord_world.proofs.waves.StepEffects.{signals_in}

-- ---- what resets reach

-- whether a node is in a list
abbrev pub among : List ℕ → ℕ → Bool
among [] x = false
among (y ∷ ys) x = eqb x y || among ys x

-- the nodes that were not Ready: every other one of the part is Ready, and each of its neighbours that was not has an Abort on the way to it
record Touched (part : ℕ → Bool) (z : Ideal) (xs : List ℕ) : Type 0 where
  others : (x : ℕ) → part x ≡ true → among xs x ≡ false → is_ready (z.state x).mode ≡ true
  sent : (a b : ℕ) → part b ≡ true → contains (z.state a).neighbours b ≡ true → among xs a ≡ true → among xs b ≡ false → 1 ≤ aborts (z.in_transit a b)

-- what a step keeps of them, and adds to them
record Spreads (part : ℕ → Bool) (y : Ideal) (starts xs : List ℕ) : Type 0 where
  reached : List ℕ
  touched : Touched part y reached
  more : (x : ℕ) → among xs x ≡ true → among reached x ≡ true
  started : (x : ℕ) → among starts x ≡ true → among reached x ≡ true
  fresh : (x : ℕ) → among reached x ≡ true → (among xs x ≡ true) ⊎ (is_ready (y.state x).mode ≡ false)

module _ (part : ℕ → Bool) (z y : Ideal) (starts xs : List ℕ) (near : SameNear z y) (touched : Touched part z xs) where
  -- nobody is added
  same : Calm z y → ((x : ℕ) → is_ready (z.state x).mode ≡ true → is_ready (y.state x).mode ≡ true) → starts ≡ [] → Spreads part y starts xs
  same calm ready none = record {
    reached = xs;
    touched = record {
      others = λ x inside h. ready x (touched.others x inside h);
      sent = λ a b inside with_b h far. let before = touched.sent a b inside (sym (near a b) ∙ with_b) h far in omega (arith, calm.kept a b (touched.others b inside far));
    };
    more = λ x h. h;
    started = λ x h. absurd (let h2 = subst (λ l. among l x ≡ true) none h in cc);
    fresh = λ x h. inl h;
  }

  -- t is added, which sends Aborts to its neighbours that are not in the list
  more_by : (t : ℕ) → is_ready (y.state t).mode ≡ false → ((x : ℕ) → x ≢ t → y.state x ≡ z.state x) →
      ((x : ℕ) → part x ≡ true → contains (z.state t).neighbours x ≡ true → among xs x ≡ false → 1 ≤ aborts (y.in_transit t x)) →
      ((a b : ℕ) → a ≢ t → b ≢ t → y.in_transit a b ≡ z.in_transit a b) → ((x : ℕ) → among starts x ≡ true → x ≡ t) → Spreads part y starts xs
  more_by t busy elsewhere sends apart only_t = record {
    reached = t ∷ xs;
    touched = record { others = others; sent = sent };
    more = λ x h. grind (arith, h);
    started = λ x h. grind (arith, nat_tests, only_t x h);
    fresh = λ x h. elim (same_or_apart x t) [ inl here ↦ inr (rw here busy) | inr far ↦ inl (grind (arith, nat_tests, h, far)) ];
  }
    where
      -- a node that is not in the longer list is another one, and not in the shorter list
      outside : (x : ℕ) → among (t ∷ xs) x ≡ false → (x ≢ t) × (among xs x ≡ false)
      outside x h = (λ e. grind (arith, nat_tests, h, e), grind (arith, nat_tests, h))

      others : (x : ℕ) → part x ≡ true → among (t ∷ xs) x ≡ false → is_ready (y.state x).mode ≡ true
      others x inside h = let out = outside x h in ap (λ (r : NodeState). is_ready r.mode) (elsewhere x out.0) ∙ touched.others x inside out.1

      sent : (a b : ℕ) → part b ≡ true → contains (y.state a).neighbours b ≡ true → among (t ∷ xs) a ≡ true → among (t ∷ xs) b ≡ false → 1 ≤ aborts (y.in_transit a b)
      sent a b inside with_b h away =
          let out = outside b away in
          let before = sym (near a b) ∙ with_b in
          elim (same_or_apart a t) [
            | inl here ↦ rw here (sends b inside (subst (λ q. contains (z.state q).neighbours b ≡ true) here before) out.1)
            | inr far ↦ rw (apart a b far out.0) (touched.sent a b inside before (grind (arith, nat_tests, h, far)) out.1)
          ]

-- by what the step does
spreads : (part : ℕ → Bool) (z y : Ideal) (signals : ℕ → ℕ) (starts : List ℕ) (k : Kind) (xs : List ℕ) → Sound z → SameNear z y → Touched part z xs → Effect z y signals starts k → Spreads part y starts xs
spreads part z y signals starts k xs sound near touched (Effect.passes passes silent e) = same part z y starts xs near touched passes.calm (λ x h. ap is_ready (passes.same x).mode ∙ h) e
spreads part z y signals starts k xs sound near touched (Effect.alone t passes lone signal kind e) = same part z y starts xs near touched passes.calm (λ x h. ap is_ready (passes.same x).mode ∙ h) e
spreads part z y signals starts k xs sound near touched (Effect.reaches t v reaches silent e) =
    let sender = abort_busy (z.state v).mode (sender_aborts z sound v t reaches.near reaches.came) in
    more_by part z y starts xs near touched t reaches.busy reaches.elsewhere
    (λ x inside with_x far. reaches.sent x with_x (λ is_v. let ready = subst (λ q. is_ready (z.state q).mode ≡ true) is_v (touched.others x inside far) in cc))
    reaches.apart
    (λ x h. absurd (let h2 = subst (λ l. among l x ≡ true) e h in cc))
spreads part z y signals starts k xs sound near touched (Effect.turns t p turns silent e) =
    same part z y starts xs near touched turns.calm
    (everywhere (λ q. is_ready (z.state q).mode ≡ true → is_ready (y.state q).mode ≡ true) t (λ h. absurd (let was = ap is_ready turns.was in cc)) (λ q far h. ap (λ (r : NodeState). is_ready r.mode) (turns.elsewhere q far) ∙ h)) e
spreads part z y signals starts k xs sound near touched (Effect.finishes t finishes signal e) =
    same part z y starts xs near touched finishes.calm
    (everywhere (λ q. is_ready (z.state q).mode ≡ true → is_ready (y.state q).mode ≡ true) t (λ h. ap is_ready finishes.now) (λ q far h. ap (λ (r : NodeState). is_ready r.mode) (finishes.elsewhere q far) ∙ h)) e
spreads part z y signals starts k xs sound near touched (Effect.starts_at t start silent e) =
    more_by part z y starts xs near touched t (ap is_ready start.now) start.elsewhere (λ x inside with_x far. start.sent x with_x) (λ a b far _. start.apart a b far)
    (λ x h. let h2 = subst (λ l. among l x ≡ true) e h in grind (arith, nat_tests, h2))

-- a node of the part that has a neighbour, and that a step signals, was not Ready before it
signalled_among : (part : ℕ → Bool) (z y : Ideal) (signals : ℕ → ℕ) (starts : List ℕ) (k : Kind) (xs : List ℕ) → Touched part z xs → Effect z y signals starts k →
    (u : ℕ) → part u ≡ true → is_empty (z.state u).neighbours ≡ false → 1 ≤ signals u → among xs u ≡ true
signalled_among part z y signals starts k xs touched (Effect.passes passes silent e) u inside some once = absurd (omega (arith, silent u, once))
signalled_among part z y signals starts k xs touched (Effect.alone t passes lone signal kind e) u inside some once = elim (same_or_apart u t) [
  | inl here ↦ absurd (let more = subst (λ q. is_empty (z.state q).neighbours ≡ false) here some in cc)
  | inr far ↦ absurd (let none = signal u in grind (arith, nat_tests, none, once, far))
]
signalled_among part z y signals starts k xs touched (Effect.reaches t v reaches silent e) u inside some once = absurd (omega (arith, silent u, once))
signalled_among part z y signals starts k xs touched (Effect.turns t p turns silent e) u inside some once = absurd (omega (arith, silent u, once))
signalled_among part z y signals starts k xs touched (Effect.finishes t finishes signal e) u inside some once = elim (same_or_apart u t) [
  | inl here ↦ by_test (among xs u) (λ b. b ≡ true) (λ _. refl)
      (λ out. absurd (let ready = subst (λ q. is_ready (z.state q).mode ≡ true) here (touched.others u inside out) in let busy = finishes.was in cc))
  | inr far ↦ absurd (let none = signal u in grind (arith, nat_tests, none, once, far))
]
signalled_among part z y signals starts k xs touched (Effect.starts_at t start silent e) u inside some once = absurd (omega (arith, silent u, once))

-- a node of two lists together is in one of them
pub among-append : (xs ys : List ℕ) (x : ℕ) → among (xs ++ ys) x ≡ true → (among xs x ≡ true) ⊎ (among ys x ≡ true)
among-append [] ys x h = inr h
among-append (y ∷ xs) ys x h = by_test (eqb x y) (λ b. (b || among (xs ++ ys) x) ≡ true → ((b || among xs x) ≡ true) ⊎ (among ys x ≡ true)) (λ _ _. inl refl) (λ _ later. among-append xs ys x later) h

-- u is one of these nodes, or these steps start a reset there, or signal it though it has a neighbour
abbrev Known : List ℕ → World → List Step → ℕ → Type 0
Known xs w steps u = (among xs u ≡ true) ⊎ ((among (started w steps) u ≡ true) ⊎ ((1 ≤ signals_of u (outs w steps)) × (is_empty (state w u).neighbours ≡ false)))

-- step by step: whoever is connected with such a node of the part was not Ready either, or is signalled
spread : (base : World) (part : ℕ → Bool) → IsPart base part → (steps : List Step) (w : World) → AllGo w steps → AllOwed w steps → PartReady (fold w steps) part → ((a b : ℕ) → is_linked base a b ≡ true → contains (state w a).neighbours b ≡ true) →
    (xs : List ℕ) → Touched part (view w) xs → (u v : ℕ) → part u ≡ true → Known xs w steps u → Connected base u v → (among xs v ≡ true) ⊎ (1 ≤ signals_of v (outs w steps))
spread base part is_part [] w sound owed ready like xs touched u v inside known path =
    inl (along base (λ q. (part q ≡ true) × (among xs q ≡ true)) over u v path.0 path.1 (inside, elim known [ inl h ↦ h | inr (inl none) ↦ cc | inr (inr never) ↦ absurd (omega (arith, never.0)) ])).1
  where
    over : (a b : ℕ) → (part a ≡ true) × (among xs a ≡ true) → is_linked base a b ≡ true → (part b ≡ true) × (among xs b ≡ true)
    over a b h linked =
        let inside_b = sym (is_part a b linked) ∙ h.0 in (
          inside_b,
          by_test (among xs b) (λ t. t ≡ true) (λ _. refl) (λ far. absurd (
              let with_b = like a b linked in
              let aborting = abort_busy (state w a).mode (sender_aborts (view w) sound a b (sym (sound.mirrored a b) ∙ with_b) (touched.sent a b inside_b with_b h.1 far)) in
              let now = ap is_ready (ready a h.0) in cc)),
        )
spread base part is_part (s ∷ ss) w run owed ready like xs touched u v inside known path =
    let goes = run.0 in
    let starts = started_by (kind (state w) s) s in
    let step = spreads part (view w) (view (next w s)) (signals_in w.version (state w) s) starts (kind (state w) s) xs goes.before goes.near touched goes.effect in
    let all = signals_first v w s ss in
    let signals = signals_in w.version (state w) s in
    let known_next : Known step.reached (next w s) ss u = elim known [
      | inl h ↦ inl (step.more u h)
      | inr (inl h) ↦ elim (among-append starts (started (next w s) ss) u h) [ inl here ↦ inl (step.started u here) | inr later ↦ inr (inl later) ]
      | inr (inr h) ↦
          let own = signals_first u w s ss in
          elim (same_or_apart (signals u) 0) [
            | inl none ↦ inr (inr (omega (arith, own, h.0, none), near_kept w s goes u ∙ h.1))
            | inr some ↦ inl (step.more u (signalled_among part (view w) (view (next w s)) signals starts (kind (state w) s) xs touched goes.effect u inside h.1 (omega (arith, some))))
          ]
    ] in
    elim (spread base part is_part ss (next w s) run.1 owed.1 ready (λ a b linked. goes.near a b ∙ like a b linked) step.reached step.touched u v inside known_next path) [
      | inl h ↦ elim (step.fresh v h) [
        | inl before ↦ inl before
        | inr busy ↦ inr (let later = busy_signals ss (next w s) owed.1 v busy (ready v (inside_v path)) in omega arith)
      ]
      | inr later ↦ inr (omega arith)
    ]
  where
    -- who is connected with a node of the part is in it
    inside_v : Connected base u v → part v ≡ true
    inside_v c = along base (λ q. part q ≡ true) (λ a b h linked. sym (is_part a b linked) ∙ h) u v c.0 c.1 inside

-- what holds for each node of a list
pub all_among : (P : ℕ → Type 0) (xs : List ℕ) → ((x : ℕ) → among xs x ≡ true → P x) → All P xs
all_among P [] holds = All-nil P
all_among P (y ∷ ys) holds = All-cons P y ys (holds y (grind (arith, nat_tests))) (all_among P ys (λ x h. holds x (grind (arith, h))))

-- ---- the laws

module _ (w : World) (steps : List Step) (part : ℕ → Bool) (begins : BeginsReady w steps part) (ready_after : PartReady (fold w steps) part) where
  -- from one initiator, or from one signalled node
  spread_from : (u : ℕ) → Known [] w steps u → part u ≡ true → (v : ℕ) → Connected w u v → 1 ≤ signals_of v (outs w steps)
  spread_from u known inside v path =
      let sound = sound_view w begins.in_range begins.legal in
      let run = all_go w steps begins.in_range begins.legal begins.in_turn begins.same_topology in
      let owed = all_owed_by steps w (record { sound = sound; counts = begins.legal.lanes; taken = taken_in_turn w steps begins.in_turn }) in
      let nobody : Touched part (view w) [] = record { others = λ x in_x _. ap is_ready (begins.ready_before x in_x); sent = λ a b _ _ h _. cc } in
      elim (spread w part begins.is_part steps w run owed ready_after (λ a b linked. sym (sound.linked a b) ∙ linked) [] nobody u v inside known path) [ inl none ↦ cc | inr signals ↦ signals ]

  pub reached_signals : (u : ℕ) → among (started w steps) u ≡ true → part u ≡ true → (v : ℕ) → Connected w u v → 1 ≤ signals_of v (outs w steps)
  reached_signals u h inside v path = spread_from u (inr (inl h)) inside v path

pub once_or_more : OnceOrMore
once_or_more w steps part begins ready_after =
    all_among (λ u. part u ≡ true → (v : ℕ) → Connected w u v → 1 ≤ signals_of v (outs w steps)) (started w steps) (reached_signals w steps part begins ready_after)

-- a node without a neighbour is connected with itself alone
only_self : (w : World) → Sound (view w) → (u v : ℕ) → is_empty (state w u).neighbours ≡ true → (path : List ℕ) → IsPath w u path v → u ≡ v
only_self w sound u v alone [] same = same
only_self w sound u v alone (x ∷ path) links = absurd (let near = sym (sound.linked u x) ∙ links.0 in let none = empty_has (state w u).neighbours x alone in cc)

pub all_or_none : AllOrNone
all_or_none w steps part begins ready_after u v inside path once =
    by_test (is_empty (state w u).neighbours) (λ _. 1 ≤ signals_of v (outs w steps))
    (λ alone. subst (λ q. 1 ≤ signals_of q (outs w steps)) (only_self w (sound_view w begins.in_range begins.legal) u v alone path.0 path.1) once)
    (λ some. spread_from w steps part begins ready_after u (inr (inr (once, some))) inside v path)
