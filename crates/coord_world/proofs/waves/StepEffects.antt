-- The effect on a wave of a fresh step that keeps all nodes and links: an order, and the taking of an Abort, an Ack
-- and a Ready.
use Rattle.std.proofs.Common.{◌≡◌, ◌≢◌, ℕ, ◌≤◌, true, false, List, [], ◌∷◌, ◌++◌, Some, refl, sym, ap, ◌∙◌, arith, count_by, None, inl, Option, inr, is_some}
use Rattle.std.proofs.lemmas.Bool.Decides.{nat_tests}
use Rattle.coord_types.proofs.Sets.{contains-remove, contains-empty}
use Rattle.coord_types.specs.Facade.{Ideal, NodeSet, NodeState, contains}
use Rattle.coord_types.specs.declared.messages.Mode.TheVariants.{Ready, Abort, Converge}
use Rattle.coord_types.specs.declared.messages.Msg.{Msg}
use Rattle.coord_types.specs.declared.steps.Kind.TheVariants.{Taken, Started, Finished, Joined}
use Rattle.coord_node.specs.Facade.{Transition, added, answer, headed, is_empty, kept, on_abort, wave_back, wave_on, finish, idle, is_parent, on_ack, on_ready, ideal_applied, kind_of_request, request, ideal_next, kind, set_state, transition, transitions}
use Rattle.coord_world.specs.Facade.{aborts, is_ready, signals, IsFresh, World, lane_at, next, state, transit_or_none, view}
use Rattle.coord_world.specs.laws.Waves.{is_signal_of, started_by, changes_topology}
use Rattle.coord_world.proofs.legal.TransitionKept.{not_self, row_here, row_there}
use Rattle.coord_world.proofs.waves.Effect.{calm_take, same_places, IsQuiet, calm_transition, Effect, Reaches, Calm, SamePlace}
use Rattle.coord_world.proofs.lists.NodeSets.{empty_has, has_only}
use Rattle.coord_world.proofs.legal.Sound.{Sound}
use Rattle.coord_world.proofs.transitions.RuleCases.{abort_cases, ack_cases, acked_by, ready_cases, request_cases}
use Rattle.coord_world.proofs.legal.RulesKept.{after_take, some_awaited, waiting}
use Rattle.coord_world.proofs.lanes.Transit.{aborts-append}
use Rattle.coord_world.specs.protocol.Links.{is_abort, readies}
use Rattle.coord_types.specs.declared.steps.Command.TheVariants.{Reset, Add, Remove, Join, Drop, Confirm}
use Rattle.coord_types.specs.declared.steps.Kind.{Kind}
use Rattle.coord_types.specs.declared.steps.Step.TheVariants.{Order, Take, Clear}
use Rattle.coord_types.specs.declared.steps.Step.{Step}
use Rattle.coord_tables.proofs.Cases.{everywhere}
use Rattle.coord_world.proofs.lanes.LaneNumbers.{AllCount}
use Rattle.coord_world.proofs.Acceptance.{fresh_take}
use Rattle.coord_world.proofs.View.{view_next}
use Rattle.coord_types.specs.NodeSet as set
use Rattle.coord_types.specs.declared.messages.Msg.TheVariants as msg

-- ---- an Abort that is taken

-- what a transition at t does to a wave, after a message from v
abbrev pub TakeEffect : Ideal → ℕ → ℕ → Transition → Type 0
TakeEffect z v t d = Effect z (after_take z v t d) (λ x. count_by (is_signal_of x) (signals ((t, d) ∷ []))) [] Taken

module _ (z : Ideal) (v t n : ℕ) (rest : List Msg) (front : z.in_transit v t ≡ msg.Abort n ∷ rest) (near : contains (z.state t).neighbours v ≡ true) (sound : Sound z) where
  -- the neighbours but the sender
  abbrev others : NodeSet
  others = set.remove (z.state t).neighbours v

  -- the sender is another node
  apart : v ≢ t
  apart = not_self z t sound v near

  -- a Ready node turns away from Ready, with the sender as its parent
  away : (d : Transition) → (z.state t).mode ≡ Ready → is_ready d.state.mode ≡ false → d.state.parent ≡ Some v → ((x : ℕ) → contains (z.state t).neighbours x ≡ true → x ≢ v → 1 ≤ aborts (added d x)) → Reaches z (after_take z v t d) t v
  away d ready busy parent sends = record {
    was = ready;
    near = near;
    came = grind (arith, ap aborts front);
    busy = ap (λ (r : NodeState). is_ready r.mode) (row_here (headed z v t) t d) ∙ busy;
    parent = ap (λ (r : NodeState). r.parent) (row_here (headed z v t) t d) ∙ parent;
    elsewhere = row_there (headed z v t) t d;
    left = ap aborts way_back ∙ alone;
    sent = λ x near_x far.
        let more = sends x near_x far in
        let both = aborts-append (z.in_transit t x) (added d x) in
        let out = ap aborts (sends_out x (not_self z t sound x near_x) (sound.linked t x ∙ near_x)) in
        omega arith;
    apart = λ x y p q. grind (arith, nat_tests, p, q);
  }
    where
      -- its messages come after those in transit
      sends_out : (x : ℕ) → x ≢ t → z.linked t x ≡ true → (after_take z v t d).in_transit t x ≡ z.in_transit t x ++ added d x
      sends_out x far linked = grind (arith, nat_tests)

      -- the message has left the way
      way_back : (after_take z v t d).in_transit v t ≡ rest
      way_back = grind (arith, nat_tests, front)

      -- no second Abort was after it
      alone : aborts rest ≡ 0
      alone = let count = (sound.links v t (sym (sound.mirrored t v) ∙ near)).counted in grind (arith, count, ap aborts front)

  -- a Ready node with other neighbours passes the wave on
  waits : (distance : ℕ) → (z.state t).mode ≡ Ready → is_empty others ≡ false → TakeEffect z v t (wave_on z.version (z.state t) (Some v) others distance)
  waits distance ready some =
      let d = wave_on z.version (z.state t) (Some v) others distance in
      Effect.reaches t v (away d ready refl refl (λ x near_x far. grind (arith, nat_tests, contains-remove (z.state t).neighbours v x))) (λ x. refl) refl

  -- one without acknowledges
  acknowledges : (distance : ℕ) → (z.state t).mode ≡ Ready → is_empty others ≡ true → TakeEffect z v t (wave_back (z.state t) v distance)
  acknowledges distance ready none =
      let d = wave_back (z.state t) v distance in
      Effect.reaches t v (away d ready refl refl (λ x near_x far. absurd (grind (arith, nat_tests, contains-remove (z.state t).neighbours v x, empty_has others x none)))) (λ x. refl) refl

  -- a node in a reset answers
  answers : is_ready (z.state t).mode ≡ false → TakeEffect z v t (answer (z.state t) v)
  answers busy =
      let d = answer (z.state t) v in
      Effect.passes
      (record {
        same = same_places (headed z v t) t d (record { mode = refl; parent = refl });
        calm = calm_take z v t d (λ y. grind (arith, nat_tests, has_only v y)) (λ ready. cc);
      }) (λ x. refl) refl

  -- an Abort that is taken
  pub abort_effect : TakeEffect z v t (on_abort z.version (z.state t) v n)
  abort_effect = abort_cases z.version (z.state t) v (TakeEffect z v t) n (acknowledges (kept z.version n)) (waits (kept z.version n)) answers

-- ---- an Ack that is taken

module _ (z : Ideal) (v t : ℕ) (rest : List Msg) (front : z.in_transit v t ≡ msg.Ack ∷ rest) (near : contains (z.state t).neighbours v ≡ true) (sound : Sound z) where
  -- the node that takes the message
  abbrev r : NodeState
  r = z.state t

  -- its state when the sender is awaited no more
  abbrev left : NodeState
  left = acked_by r v

  -- the node is in its wave
  wait : r.mode ≡ Abort
  wait = waiting z v t rest near sound front

  -- a transition that sends no Abort is calm
  calm_ack : (d : Transition) → IsQuiet d → Calm z (after_take z v t d)
  calm_ack d quiet = calm_take z v t d quiet (λ _. grind (arith, front))

  -- others are still awaited
  still_waits : TakeEffect z v t (idle left)
  still_waits = Effect.passes (record { same = same_places (headed z v t) t (idle left) (record { mode = refl; parent = refl }); calm = calm_ack (idle left) (λ y. grind (arith, contains-empty y)) }) (λ x. refl) refl

  -- nobody else is: the initiator finishes
  tops : r.parent ≡ None → TakeEffect z v t (finish left)
  tops top =
      let d = finish left in
      Effect.finishes t
      (record {
        was = ap is_ready wait;
        cause = inl (record { was = wait; top = top });
        now = ap (λ (q : NodeState). q.mode) (row_here (headed z v t) t d);
        elsewhere = row_there (headed z v t) t d;
        calm = calm_ack d (λ y. grind arith);
      }) (λ x. omega arith) refl

  -- the node that has a parent does not finish: it acknowledges
  climbs : (p : ℕ) → r.parent ≡ Some p → TakeEffect z v t (answer (record left { mode = Converge }) p)
  climbs p up =
      let d = answer (record left { mode = Converge }) p in
      Effect.turns t p
      (record {
        was = wait;
        now = ap (λ (q : NodeState). q.mode) (row_here (headed z v t) t d);
        parent = up;
        same_parent = ap (λ (q : NodeState). q.parent) (row_here (headed z v t) t d) ∙ up;
        elsewhere = row_there (headed z v t) t d;
        calm = calm_ack d (λ y. grind (arith, nat_tests, has_only p y));
        none = let child : is_parent r.parent p ≡ true = grind (arith, nat_tests, up) in
            let near_p = (sound.nodes t).parent_near p child in
            let count = (sound.links p t (sym (sound.mirrored t p) ∙ near_p)).counted in
            grind (arith, count, ap is_abort wait, child);
      }) (λ x. refl) refl

  -- an Ack that is taken
  pub ack_effect : TakeEffect z v t (on_ack r v)
  ack_effect = ack_cases r v (TakeEffect z v t) (λ none. absurd (grind (arith, none, some_awaited z v t rest near sound front))) (λ _. still_waits) (λ _. tops) (λ _. climbs)

-- ---- a Ready that is taken

-- a node's parent is the one that it names
named : (p : Option ℕ) (v : ℕ) → is_parent p v ≡ true → p ≡ Some v
named p v h1 = grind (arith, nat_tests, h1)

module _ (z : Ideal) (v t : ℕ) (rest : List Msg) (front : z.in_transit v t ≡ msg.Ready ∷ rest) (near : contains (z.state t).neighbours v ≡ true) where
  -- the node that takes the message
  abbrev hearer : NodeState
  hearer = z.state t

  -- a transition that sends no Abort is calm
  calm_ready : (d : Transition) → IsQuiet d → Calm z (after_take z v t d)
  calm_ready d quiet = calm_take z v t d quiet (λ _. grind (arith, front))

  -- a Ready that is ignored
  ignored : TakeEffect z v t (idle hearer)
  ignored = Effect.passes (record { same = same_places (headed z v t) t (idle hearer) (record { mode = refl; parent = refl }); calm = calm_ready (idle hearer) (λ y. grind (arith, contains-empty y)) }) (λ x. refl) refl

  -- a Ready from the parent
  heard : hearer.mode ≡ Converge → is_parent hearer.parent v ≡ true → TakeEffect z v t (finish hearer)
  heard mode child = Effect.finishes t
      (record {
        was = ap is_ready mode;
        cause = inr (v, record { was = mode; near = near; parent = named hearer.parent v child; came = grind (arith, ap readies front) });
        now = ap (λ (q : NodeState). q.mode) (row_here (headed z v t) t (finish hearer));
        elsewhere = row_there (headed z v t) t (finish hearer);
        calm = calm_ready (finish hearer) (λ y. grind arith);
      }) (λ x. omega arith) refl

  -- a Ready that is taken
  pub ready_effect : TakeEffect z v t (on_ready hearer v)
  ready_effect = ready_cases hearer v (TakeEffect z v t) (λ _. ignored) heard

-- ---- an order to reset

module _ (z : Ideal) (c n t : ℕ) (sound : Sound z) where
  -- the node that is to be reset
  abbrev asked : NodeState
  asked = z.state t

  -- what a transition at it does to a wave
  abbrev ResetEffect : Transition → Kind → Type 0
  ResetEffect d k = Effect z (ideal_applied z t d) (λ x. count_by (is_signal_of x) (signals ((t, d) ∷ []))) (started_by k (Order c n (Reset t))) k

  -- a node without neighbours finishes at once
  finishes_alone : asked.mode ≡ Ready → is_empty asked.neighbours ≡ true → ResetEffect (finish asked) Finished
  finishes_alone ready none = Effect.alone t
      (record {
        same = same_places z t (finish asked) (record { mode = sym ready; parent = sym ((sound.nodes t).no_parent ready) });
        calm = calm_transition z t (finish asked) (λ y. grind arith);
      }) none (λ x. omega arith) refl refl

  -- a node with neighbours sends its wave
  starts : asked.mode ≡ Ready → is_empty asked.neighbours ≡ false → ResetEffect (wave_on z.version asked None asked.neighbours 0) Started
  starts ready some =
      let d = wave_on z.version asked None asked.neighbours 0 in
      Effect.starts_at t
      (record {
        was = ready;
        some = some;
        now = ap (λ (q : NodeState). q.mode) (row_here z t d);
        parent = ap (λ (q : NodeState). q.parent) (row_here z t d);
        elsewhere = row_there z t d;
        sent = λ x near. let linked = sound.linked t x ∙ near in grind (arith, nat_tests, aborts-append (z.in_transit t x) (added d x));
        apart = λ a b far. grind (arith, nat_tests, far);
      }) (λ x. refl) refl

  -- a node in a reset goes on with it
  joins : ResetEffect (idle asked) Joined
  joins = Effect.passes
      (record {
        same = same_places z t (idle asked) (record { mode = refl; parent = refl });
        calm = calm_transition z t (idle asked) (λ y. grind (arith, contains-empty y));
      }) (λ x. refl) refl

  -- an order to reset
  pub reset_effect : ResetEffect (request z.version asked) (kind_of_request asked.mode asked)
  reset_effect = request_cases z.version asked ResetEffect finishes_alone starts joins

-- ---- any such step

-- by the message
taken : (z : Ideal) (v t : ℕ) (m : Msg) (rest : List Msg) → z.in_transit v t ≡ m ∷ rest → contains (z.state t).neighbours v ≡ true → Sound z → TakeEffect z v t (transition z.version m (z.state t) v)
taken z v t (msg.Abort n) rest front near sound = abort_effect z v t n rest front near sound
taken z v t msg.Ack rest front near sound = ack_effect z v t rest front near sound
taken z v t msg.Ready rest front near sound = ready_effect z v t rest front near

-- how often each node is signalled in a step
abbrev pub signals_in : ℕ → (ℕ → NodeState) → Step → ℕ → ℕ
signals_in version rows s v = count_by (is_signal_of v) (signals (transitions version rows s))

-- what a step that makes y of the view does to a wave
abbrev pub StepEffect : Ideal → Ideal → Step → Type 0
StepEffect z y s = Effect z y (signals_in z.version z.state s) (started_by (kind z.state s) s) (kind z.state s)

-- a node whose state is put and stays in its place
confirmed : (z : Ideal) (c n u e : ℕ) → StepEffect z (ideal_next z (Order c n (Confirm u e))) (Order c n (Confirm u e))
confirmed z c n u e = Effect.passes (record { same = same; calm = record { fewer = λ a b. omega arith; kept = λ a b ready. omega arith } }) (λ x. refl) refl
  where
    same : (x : ℕ) → SamePlace (z.state x) ((set_state z u (record (z.state u) { confirmed = e })).state x)
    same = everywhere (λ x. SamePlace (z.state x) ((set_state z u (record (z.state u) { confirmed = e })).state x)) u
        (record { mode = grind (arith, nat_tests); parent = grind (arith, nat_tests) }) (λ x apart. record { mode = grind (arith, nat_tests); parent = grind (arith, nat_tests) })

-- a step that leaves the view
unchanged : (z : Ideal) (s : Step) → ((v : ℕ) → signals_in z.version z.state s v ≡ 0) → started_by (kind z.state s) s ≡ [] → StepEffect z z s
unchanged z s silent none = Effect.passes (record { same = λ x. record { mode = refl; parent = refl }; calm = record { fewer = λ a b. omega arith; kept = λ a b ready. omega arith } }) silent none

-- the ideal step
pub ideal_effect : (w settled : World) (s : Step) → changes_topology s ≡ false → Sound (view w) → IsFresh w settled s → StepEffect (view w) (ideal_next (view w) s) s
ideal_effect w settled (Order c n (Add u g)) stays sound fresh = cc
ideal_effect w settled (Order c n (Remove u)) stays sound fresh = cc
ideal_effect w settled (Order c n (Join a b)) stays sound fresh = cc
ideal_effect w settled (Order c n (Drop a b)) stays sound fresh = cc
ideal_effect w settled (Order c n (Reset u)) stays sound fresh = reset_effect (view w) c n u sound
ideal_effect w settled (Order c n (Confirm u e)) stays sound fresh = confirmed (view w) c n u e
ideal_effect w settled (Take p) stays sound fresh =
    let take = fresh_take w settled p fresh in
    let out : contains (state w p.from).neighbours p.to ≡ true = sym (sound.linked p.from p.to) ∙ ap is_some take.there in
    let front : transit_or_none (lane_at w.links p.from p.to) ≡ p.msg ∷ take.rest = ap transit_or_none take.there ∙ grind (arith, nat_tests, take.idle) ∙ take.front in
    taken (view w) p.from p.to p.msg take.rest front (sym (sound.mirrored p.from p.to) ∙ out) sound
ideal_effect w settled (Clear p) stays sound fresh = unchanged (view w) (Clear p) (λ v. refl) refl

module _ (w settled : World) (s : Step) (stays : changes_topology s ≡ false) (sound : Sound (view w)) (counts : AllCount w) (fresh : IsFresh w settled s) where
  -- the step itself
  pub step_effect : StepEffect (view w) (view (next w s)) s
  step_effect = rw (view_next w settled s counts fresh) (ideal_effect w settled s stays sound fresh)

-- the ideal step leaves the links
ideal_links : (z : Ideal) (s : Step) → changes_topology s ≡ false → (x y : ℕ) → (ideal_next z s).linked x y ≡ z.linked x y
ideal_links z s h1 x y = grind (arith, nat_tests, h1)

-- a step that changes no topology leaves the links
pub same_links : (w settled : World) (s : Step) → changes_topology s ≡ false → AllCount w → IsFresh w settled s → (x y : ℕ) → (view (next w s)).linked x y ≡ (view w).linked x y
same_links w settled s stays counts fresh x y = ap (λ (z : Ideal). z.linked x y) (view_next w settled s counts fresh) ∙ ideal_links (view w) s stays x y
