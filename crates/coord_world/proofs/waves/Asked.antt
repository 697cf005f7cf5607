-- A node in a reset is signalled before it is Ready again, whatever steps come; so a node whose reset was accepted is.
use Rattle.std.proofs.Common.{◌≡◌, ◌≢◌, ◌⊎◌, ℕ, ◌≤◌, true, false, List, [], ◌∷◌, ◌++◌, Option, Some, None, refl, sym, ap, ◌∙◌, subst, inl, inr, arith, count_by}
use Rattle.std.proofs.lemmas.Bool.Decides.{nat_tests}
use Rattle.coord_types.proofs.Sets.{len_zero}
use Rattle.coord_types.specs.Facade.{Ideal, NodeState, contains, new_node}
use Rattle.coord_types.specs.declared.messages.Mode.{Mode}
use Rattle.coord_types.specs.declared.messages.Mode.TheVariants.{Ready, Abort, Converge}
use Rattle.coord_types.specs.declared.messages.Msg.{Msg}
use Rattle.coord_types.specs.declared.messages.Msg.TheVariants as msg
use Rattle.coord_types.specs.declared.steps.Command.TheVariants.{Add, Remove, Join, Drop, Reset, Confirm}
use Rattle.coord_types.specs.declared.steps.Kind.TheVariants.{Joined}
use Rattle.coord_types.specs.declared.steps.Step.{Step}
use Rattle.coord_types.specs.declared.steps.Step.TheVariants.{Order, Take, Clear}
use Rattle.coord_node.specs.Facade.{Transition, headed, ideal_applied, ideal_next, is_empty, kind_of_request, lost, request, set_state, transition, without_link}
use Rattle.coord_tables.proofs.Cases.{by_test, same_or_apart}
use Rattle.coord_world.specs.Facade.{IsFresh, World, fold, is_ready, next, outs, signals, state, state_or_none, view}
use Rattle.coord_world.specs.laws.Overlaps.{AskedIsSignalled}
use Rattle.coord_world.specs.laws.Waves.{is_signal_of, signals_of}
use Rattle.coord_world.specs.protocol.Links.{is_abort}
use Rattle.coord_world.proofs.Acceptance.{fresh_order}
use Rattle.coord_world.proofs.View.{counts_next, view_next}
use Rattle.coord_world.proofs.lanes.LaneNumbers.{AllCount}
use Rattle.coord_world.proofs.legal.NextKeepsLegal.{sound_next}
use Rattle.coord_world.proofs.legal.Sound.{Sound}
use Rattle.coord_world.proofs.legal.SoundView.{sound_view}
use Rattle.coord_world.proofs.lists.NodeSets.{empty_has}
use Rattle.coord_world.proofs.transitions.RuleCases.{abort_cases, ack_cases, lost_cases, ready_cases, request_cases}
use Rattle.coord_world.proofs.waves.Running.{IsTaken, fold-append, taken_in_turn}
use Rattle.coord_world.proofs.waves.SignalsOf.{signals_first}
use Rattle.coord_world.proofs.waves.StepEffects.{signals_in}

-- ---- a transition

-- a transition leaves its node in a reset, or signals it
abbrev IsOwed : Transition → Type 0
IsOwed d = (is_ready d.state.mode ≡ false) ⊎ (d.finished ≡ true)

-- each rule leaves a node in a reset there, or signals it
module _ (version : ℕ) (r : NodeState) (busy : is_ready r.mode ≡ false) where
  owed_after : (m : Msg) (v : ℕ) → IsOwed (transition version m r v)
  owed_after (msg.Abort n) v = abort_cases version r v IsOwed n (λ _ _. inl refl) (λ _ _. inl refl) (λ _. inl busy)
  owed_after msg.Ack v = ack_cases r v IsOwed (λ _. inl busy) (λ _. inl busy) (λ _ _. inr refl) (λ _ p _. inl refl)
  owed_after msg.Ready v = ready_cases r v IsOwed (λ _. inl busy) (λ _ _. inr refl)

  cut : (v : ℕ) → IsOwed (lost r v)
  cut v = lost_cases r v IsOwed (λ _. inl busy) (λ _ _. inl busy) (λ _ _. inl busy) (λ _ _. inr refl) (λ _ _ _. inr refl) (λ _ _ p _. inl refl)

-- a node whose request is answered Joined is in a reset
joined_busy : (m : Mode) (r : NodeState) → kind_of_request m r ≡ Joined → is_ready m ≡ false
joined_busy Ready r h = by_test (is_empty r.neighbours) (λ _. is_ready Ready ≡ false) (λ t. absurd (grind (arith, nat_tests, h, t))) (λ t. absurd (grind (arith, nat_tests, h, t)))
joined_busy Abort r h = refl
joined_busy Converge r h = refl

-- a request leaves any node in a reset, or signals it
asked_for : (version : ℕ) (r : NodeState) → IsOwed (request version r)
asked_for version r = request_cases version r (λ d k. (k ≡ Joined → is_ready r.mode ≡ false) → IsOwed d) (λ _ _ _. inr refl) (λ _ _ _. inl refl) (λ joined. inl (joined refl)) (joined_busy r.mode r)

-- ---- a step

-- x is in a reset, or was signalled
abbrev IsStillOwed : Ideal → (ℕ → ℕ) → ℕ → Type 0
IsStillOwed y given x = (is_ready (y.state x).mode ≡ false) ⊎ (1 ≤ given x)

-- how often a transition signals each node
abbrev given_by : ℕ → Transition → ℕ → ℕ
given_by t d x = count_by (is_signal_of x) (signals ((t, d) ∷ []))

-- the node of a transition
here_owed : (z : Ideal) (t : ℕ) (d : Transition) → IsOwed d → IsStillOwed (ideal_applied z t d) (given_by t d) t
here_owed z t d owed = elim owed [ inl busy ↦ inl (grind (arith, nat_tests, busy)) | inr done ↦ inr (grind (arith, nat_tests, done)) ]

-- every node in a reset stays there or is signalled, if a transition leaves its own node so
all_owed : (z : Ideal) (t : ℕ) (d : Transition) → (is_ready (z.state t).mode ≡ false → IsOwed d) → (x : ℕ) → is_ready (z.state x).mode ≡ false → IsStillOwed (ideal_applied z t d) (given_by t d) x
all_owed z t d owed x busy = elim (same_or_apart x t) [
  | inl here ↦ subst (IsStillOwed (ideal_applied z t d) (given_by t d)) (sym here) (here_owed z t d (owed (subst (λ q. is_ready (z.state q).mode ≡ false) here busy)))
  | inr far ↦ inl (grind (arith, nat_tests, far, busy))
]

-- the same for two transitions at two nodes
two_owed : (z : Ideal) (a b : ℕ) (da db : Transition) → a ≢ b → (is_ready (z.state a).mode ≡ false → IsOwed da) → (is_ready (z.state b).mode ≡ false → IsOwed db) →
    (x : ℕ) → is_ready (z.state x).mode ≡ false → IsStillOwed (ideal_applied (ideal_applied z a da) b db) (λ q. count_by (is_signal_of q) (signals ((a, da) ∷ (b, db) ∷ []))) x
two_owed z a b da db apart owed_a owed_b x busy = elim (same_or_apart x b) [
  | inl is_b ↦ elim (owed_b (subst (λ q. is_ready (z.state q).mode ≡ false) is_b busy)) [
    | inl still ↦ inl (grind (arith, nat_tests, is_b, still))
    | inr done ↦ inr (grind (arith, nat_tests, is_b, done))
  ]
  | inr not_b ↦ elim (same_or_apart x a) [
    | inl is_a ↦ elim (owed_a (subst (λ q. is_ready (z.state q).mode ≡ false) is_a busy)) [
      | inl still ↦ inl (grind (arith, nat_tests, is_a, not_b, still))
      | inr done ↦ inr (grind (arith, nat_tests, is_a, done))
    ]
    | inr not_a ↦ inl (grind (arith, nat_tests, not_a, not_b, busy))
  ]
]

-- a node without neighbours is Ready
pub lone_ready : (z : Ideal) → Sound z → (u : ℕ) → is_empty (z.state u).neighbours ≡ true → is_ready (z.state u).mode ≡ true
lone_ready z sound u alone = in_mode (z.state u).mode refl
  where
    -- it awaits nobody
    nobody : (q : ℕ) → contains (z.state u).pend q ≡ false
    nobody q = by_test (contains (z.state u).pend q) (λ b. b ≡ false) (λ h. absurd (let near = (sound.nodes u).within q h in let none = empty_has (z.state u).neighbours q alone in cc)) (λ _. refl)

    of_parent : (o : Option ℕ) → (z.state u).parent ≡ o → (z.state u).mode ≡ Converge → ⊥
    of_parent None up mode = (sound.nodes u).has_parent mode up
    of_parent (Some p) up mode = let near = (sound.nodes u).parent_near p (grind (arith, nat_tests, up)) in let none = empty_has (z.state u).neighbours p alone in cc

    in_mode : (m : Mode) → (z.state u).mode ≡ m → is_ready m ≡ true
    in_mode Ready e = refl
    in_mode Abort e = absurd (let some = (sound.nodes u).awaits (ap is_abort e) in let none = len_zero (z.state u).pend nobody in grind (arith, nat_tests, some, none))
    in_mode Converge e = absurd (of_parent (z.state u).parent refl e)

-- a step that keeps each mode but that of a Ready node
quiet_step : (z y : Ideal) (u : ℕ) (given : ℕ → ℕ) → is_ready (z.state u).mode ≡ true → ((x : ℕ) → x ≢ u → y.state x ≡ z.state x) → (x : ℕ) → is_ready (z.state x).mode ≡ false → IsStillOwed y given x
quiet_step z y u given ready elsewhere x busy = elim (same_or_apart x u) [
  | inl here ↦ absurd (let is_busy = subst (λ q. is_ready (z.state q).mode ≡ false) here busy in cc)
  | inr far ↦ inl (ap (λ (r : NodeState). is_ready r.mode) (elsewhere x far) ∙ busy)
]

-- what a step that makes y of the view leaves of each node in a reset
abbrev StepOwed : Ideal → Ideal → Step → Type 0
StepOwed z y s = (x : ℕ) → is_ready (z.state x).mode ≡ false → IsStillOwed y (signals_in z.version z.state s) x

-- the ideal step
ideal_owed : (w settled : World) (s : Step) → Sound (view w) → IsFresh w settled s → StepOwed (view w) (ideal_next (view w) s) s
ideal_owed w settled (Order c n (Add u g)) sound fresh =
    quiet_step (view w) (set_state (view w) u (new_node g)) u _ (ap (λ o. is_ready (state_or_none o).mode) (fresh_order w settled c n (Add u g) fresh)) (λ x far. grind (arith, nat_tests, far))
ideal_owed w settled (Order c n (Remove u)) sound fresh =
    quiet_step (view w) (set_state (view w) u (new_node 0)) u _ (lone_ready (view w) sound u (fresh_order w settled c n (Remove u) fresh).alone) (λ x far. grind (arith, nat_tests, far))
ideal_owed w settled (Order c n (Join a b)) sound fresh = λ x busy. inl (grind (arith, nat_tests, busy))
ideal_owed w settled (Order c n (Drop a b)) sound fresh =
    two_owed (without_link (view w) a b) a b (lost (state w a) b) (lost (state w b) a) (fresh_order w settled c n (Drop a b) fresh).apart (λ busy. cut w.version (state w a) busy b) (λ busy. cut w.version (state w b) busy a)
ideal_owed w settled (Order c n (Reset u)) sound fresh = all_owed (view w) u (request w.version (state w u)) (λ _. asked_for w.version (state w u))
ideal_owed w settled (Order c n (Confirm u e)) sound fresh = λ x busy. inl (grind (arith, nat_tests, busy))
ideal_owed w settled (Take p) sound fresh =
    all_owed (headed (view w) p.from p.to) p.to (transition w.version p.msg (state w p.to) p.from) (λ busy. owed_after w.version (state w p.to) busy p.msg p.from)
ideal_owed w settled (Clear p) sound fresh = λ x busy. inl busy

module _ (w settled : World) (s : Step) (sound : Sound (view w)) (counts : AllCount w) (fresh : IsFresh w settled s) where
  -- the step itself
  step_owed : StepOwed (view w) (view (next w s)) s
  step_owed = subst (λ y. StepOwed (view w) y s) (sym (view_next w settled s counts fresh)) (ideal_owed w settled s sound fresh)

-- a node whose reset was accepted is in a reset after that step, or was signalled by it
asked_owed : (w settled : World) (c n u : ℕ) → AllCount w → IsFresh w settled (Order c n (Reset u)) → IsStillOwed (view (next w (Order c n (Reset u)))) (signals_in w.version (state w) (Order c n (Reset u))) u
asked_owed w settled c n u counts fresh = subst (λ y. IsStillOwed y (signals_in w.version (state w) (Order c n (Reset u))) u) (sym (view_next w settled (Order c n (Reset u)) counts fresh))
    (here_owed (view w) u (request w.version (state w u)) (asked_for w.version (state w u)))

-- ---- its steps in turn

-- steps, each of which leaves each node in a reset so
abbrev pub AllOwed : World → List Step → Type 0
AllOwed w [] = Unit {0}
AllOwed w (s ∷ ss) = StepOwed (view w) (view (next w s)) s × AllOwed (next w s) ss

-- steps that are taken from a sound world on
pub record IsRun (w : World) (steps : List Step) : Type 0 where
  pub sound : Sound (view w)
  pub counts : AllCount w
  pub taken : IsTaken w steps

-- so are those after the first one
pub later : (w : World) (s : Step) (ss : List Step) → IsRun w (s ∷ ss) → IsRun (next w s) ss
later w s ss run =
    let first = run.taken [] ss s refl in
    record { sound = sound_next w first.0 s run.sound run.counts first.1; counts = counts_next w first.0 s run.counts first.1; taken = λ before rest q is. run.taken (s ∷ before) rest q (ap (λ l. s ∷ l) is) }

-- and those after the first ones
later_all : (before rest : List Step) (w : World) → IsRun w (before ++ rest) → IsRun (fold w before) rest
later_all [] rest w run = run
later_all (s ∷ ss) rest w run = later_all ss rest (next w s) (later w s (ss ++ rest) run)

-- step by step
pub all_owed_by : (steps : List Step) (w : World) → IsRun w steps → AllOwed w steps
all_owed_by [] w run = tt
all_owed_by (s ∷ ss) w run = let first = run.taken [] ss s refl in (step_owed w first.0 s run.sound run.counts first.1, all_owed_by ss (next w s) (later w s ss run))

-- a node in a reset is signalled by then that it is Ready
pub busy_signals : (steps : List Step) (w : World) → AllOwed w steps → (x : ℕ) → is_ready (state w x).mode ≡ false → (state (fold w steps) x).mode ≡ Ready → 1 ≤ signals_of x (outs w steps)
busy_signals [] w owed x busy ready = absurd (let now = ap is_ready ready in cc)
busy_signals (s ∷ ss) w owed x busy ready =
    let all = signals_first x w s ss in
    elim (owed.0 x busy) [
      | inl still ↦ let more = busy_signals ss (next w s) owed.1 x still ready in omega arith
      | inr now ↦ omega arith
    ]

-- ---- the law

-- the first step asks
first_asked : (rest : List Step) (w : World) (c n u : ℕ) → IsRun w (Order c n (Reset u) ∷ rest) → (state (fold w (Order c n (Reset u) ∷ rest)) u).mode ≡ Ready → 1 ≤ signals_of u (outs w (Order c n (Reset u) ∷ rest))
first_asked rest w c n u run ready =
    let s = Order c n (Reset u) in
    let first = run.taken [] rest s refl in
    let all = signals_first u w s rest in
    elim (asked_owed w first.0 c n u run.counts first.1) [
      | inl busy ↦ let more = busy_signals rest (next w s) (all_owed_by rest (next w s) (later w s rest run)) u busy ready in omega arith
      | inr now ↦ omega arith
    ]

pub asked_is_signalled : AskedIsSignalled
asked_is_signalled w steps before rest c n u range legal in_turn is ready =
    let s = Order c n (Reset u) in
    let run : IsRun w steps = record { sound = sound_view w range legal; counts = legal.lanes; taken = taken_in_turn w steps in_turn } in
    first_asked rest (fold w before) c n u (later_all before (s ∷ rest) w (subst (IsRun w) is run))
    (subst (λ v. (state v u).mode ≡ Ready) (fold-append before (s ∷ rest) w) (subst (λ l. (state (fold w l) u).mode ≡ Ready) is ready))
