-- The upper bound of signals: each is paid by a start, a dropped link or a reset that is answered Finished.
use Rattle.std.proofs.Common.{◌≡◌, ◌≢◌, ◌⊎◌, ℕ, ◌+◌, ◌≤◌, Bool, true, false, ◌||◌, List, [], ◌∷◌, All, refl, sym, ap, ◌∙◌, subst, inl, inr, arith, eqb, cond, count_by, length}
use Rattle.std.proofs.lemmas.Bool.Decides.{nat_tests}
use Rattle.std.proofs.lemmas.List.Elements.{All-cons, All-head, All-nil, All-tail}
use Rattle.std.proofs.lemmas.List.Sums.{sum_by-append, sum_by-cons}
use Rattle.coord_types.specs.Facade.{Ideal, NodeState, contains, new_node}
use Rattle.coord_types.specs.declared.steps.Command.TheVariants.{Add, Remove, Join, Drop, Reset, Confirm}
use Rattle.coord_types.specs.declared.steps.Step.{Step}
use Rattle.coord_types.specs.declared.steps.Step.TheVariants.{Order, Take, Clear}
use Rattle.coord_node.specs.Facade.{ideal_next, is_empty, is_link, kind, linked_up, lost, set_state}
use Rattle.coord_tables.proofs.Cases.{by_test, everywhere, same_or_apart}
use Rattle.coord_world.specs.Facade.{IsFresh, World, is_ready, next, outs, state, state_or_none, view}
use Rattle.coord_world.specs.laws.Drops.{BeginsApart, KeepsApart, NoMoreWithDrops, drops_in}
use Rattle.coord_world.specs.laws.Overlaps.{BeginsReady, NoMoreThanStarted, finished_at, finished_by}
use Rattle.coord_world.specs.laws.Waves.{changes_topology, signals_of, started, started_by}
use Rattle.coord_world.specs.protocol.Links.{aborts, is_abort, one}
use Rattle.coord_world.proofs.Acceptance.{fresh_order}
use Rattle.coord_world.proofs.View.{view_next}
use Rattle.coord_world.proofs.legal.NextKeepsLegal.{sound_next}
use Rattle.coord_world.proofs.legal.Sound.{Sound}
use Rattle.coord_world.proofs.legal.SoundView.{sound_view}
use Rattle.coord_world.proofs.lists.NodeSets.{empty_has}
use Rattle.coord_world.proofs.transitions.RuleCases.{request_cases}
use Rattle.coord_world.proofs.waves.Alone.{step_finishes, times}
use Rattle.coord_world.proofs.waves.Asked.{IsRun, later, lone_ready}
use Rattle.coord_world.proofs.waves.Cuts.{drop_cuts, drop_elsewhere, drop_fewer, no_signal}
use Rattle.coord_world.proofs.waves.Effect.{SamePlace}
use Rattle.coord_world.proofs.waves.Modes.{busy, linked_some, mode_is_ready}
use Rattle.coord_world.proofs.waves.Pruned.{cutting}
use Rattle.coord_world.proofs.waves.Running.{AllGo, all_go, near_kept, taken_in_turn}
use Rattle.coord_world.proofs.waves.SignalsOf.{signals_first}
use Rattle.coord_world.proofs.waves.StepEffects.{ideal_effect, signals_in}
use Rattle.coord_world.proofs.waves.Trees.{Forest, Tends, Tree, in_trees, linked_paid, of_linked, passing, some_tree, tends}

-- ---- a step

-- each link joins two nodes of the part, or two others
abbrev Apart : (ℕ → Bool) → Ideal → Type 0
Apart part z = (a b : ℕ) → z.linked a b ≡ true → part a ≡ part b

-- a node without signals has none as a node with neighbours
none_linked : (z : Ideal) (signals : ℕ → ℕ) (x : ℕ) → signals x ≡ 0 → of_linked z signals x ≡ 0
none_linked z signals x none = by_test (is_empty (z.state x).neighbours) (λ b. cond b 0 (signals x) ≡ 0) (λ _. refl) (λ _. none)

module _ (part : ℕ → Bool) (w settled : World) (ts : List Tree) (sound : Sound (view w)) (like : Apart part (view w)) (forest : Forest part (view w) ts) where
  -- what a step does to the trees
  abbrev StepTends : Step → Type 0
  StepTends s = Tends part (view w) (ideal_next (view w) s) ts (of_linked (view w) (signals_in w.version (state w) s)) (started_by (kind (state w) s) s) (one (drops_in part s))

  -- a new node takes the place of a Ready one, or of none
  put : (u g drops : ℕ) → is_ready (state w u).mode ≡ true → Tends part (view w) (set_state (view w) u (new_node g)) ts (of_linked (view w) (λ x. 0)) [] drops
  put u g drops ready =
      let mode = mode_is_ready (state w u).mode ready in
      let none = (sound.nodes u).no_parent mode in
      passing part (view w) (set_state (view w) u (new_node g)) ts (of_linked (view w) (λ x. 0)) [] drops sound forest
      (λ x _. everywhere (λ q. SamePlace (state w q) ((set_state (view w) u (new_node g)).state q)) u
      (record { mode = grind (arith, nat_tests, mode); parent = grind (arith, nat_tests, none) })
      (λ q far. record { mode = grind (arith, nat_tests, far); parent = grind (arith, nat_tests, far) }) x)
      (λ a b. omega arith)
      (λ x _. none_linked (view w) (λ q. 0) x refl)

  -- a link that is added has nothing on the way
  joins : (a b drops : ℕ) → Tends part (view w) (linked_up (view w) a b) ts (of_linked (view w) (λ x. 0)) [] drops
  joins a b drops = passing part (view w) (linked_up (view w) a b) ts (of_linked (view w) (λ x. 0)) [] drops sound forest
      (λ x _. record { mode = grind (arith, nat_tests); parent = grind (arith, nat_tests) })
      (λ x y. by_test (is_link a b x y) (λ t. aborts (cond t [] ((view w).in_transit x y)) ≤ aborts ((view w).in_transit x y)) (λ _. omega arith) (λ _. omega arith))
      (λ x _. none_linked (view w) (λ q. 0) x refl)

  -- a link of the part is dropped, or one outside it
  parts : (c n a b : ℕ) → IsFresh w settled (Order c n (Drop a b)) → Sound (ideal_next (view w) (Order c n (Drop a b))) → StepTends (Order c n (Drop a b))
  parts c n a b fresh after =
      let s = Order c n (Drop a b) in
      let droppable = fresh_order w settled c n (Drop a b) fresh in
      let near : contains (state w a).neighbours b ≡ true = sym (sound.linked a b) ∙ droppable.linked in
      let same : part a ≡ part b = like a b droppable.linked in
      by_test (part a) (λ _. StepTends s)
      (λ in_a. linked_paid part (view w) (ideal_next (view w) s) ts (signals_in w.version (state w) s) [] (one (part a))
      (cutting part (view w) (ideal_next (view w) s) (signals_in w.version (state w) s) (drop_cuts (view w) a b droppable.apart near sound part in_a (sym same ∙ in_a)) sound after ts [] (one (part a)) (grind (arith, in_a)) forest))
      (λ out.
      let away : (x : ℕ) → part x ≡ true → (x ≢ a) × (x ≢ b) = λ x inside. ((λ e. let in_a = subst (λ q. part q ≡ true) e inside in cc), (λ e. let in_b = subst (λ q. part q ≡ true) e inside in cc)) in
      passing part (view w) (ideal_next (view w) s) ts (of_linked (view w) (signals_in w.version (state w) s)) [] (one (part a)) sound forest
      (λ x inside. let still = drop_elsewhere (view w) a b droppable.apart near sound x (away x inside).0 (away x inside).1 in record { mode = ap (λ (r : NodeState). r.mode) still; parent = ap (λ (r : NodeState). r.parent) still })
      (drop_fewer (view w) a b droppable.apart near sound)
      (λ x inside. let far = away x inside in none_linked (view w) (signals_in w.version (state w) s) x (no_signal a b droppable.apart (lost (state w a) b) (lost (state w b) a) x far.0 far.1)))

  -- any other step keeps nodes and links
  keeps : (s : Step) → changes_topology s ≡ false → IsFresh w settled s → Sound (ideal_next (view w) s) → StepTends s
  keeps s stays fresh after = tends part (view w) (ideal_next (view w) s) ts (signals_in w.version (state w) s) (started_by (kind (state w) s) s) (one (drops_in part s)) (kind (state w) s)
      (λ a b near. like a b (sound.linked a b ∙ near)) sound after forest (ideal_effect w settled s stays sound fresh)

  -- each step
  step_tends : (s : Step) → IsFresh w settled s → Sound (ideal_next (view w) s) → StepTends s
  step_tends (Order c n (Add u g)) fresh after = put u g 0 (ap (λ o. is_ready (state_or_none o).mode) (fresh_order w settled c n (Add u g) fresh))
  step_tends (Order c n (Remove u)) fresh after = put u 0 0 (lone_ready (view w) sound u (fresh_order w settled c n (Remove u) fresh).alone)
  step_tends (Order c n (Join a b)) fresh after = joins a b 0
  step_tends (Order c n (Drop a b)) fresh after = parts c n a b fresh after
  step_tends (Order c n (Reset u)) fresh after = keeps (Order c n (Reset u)) refl fresh after
  step_tends (Order c n (Confirm u e)) fresh after = keeps (Order c n (Confirm u e)) refl fresh after
  step_tends (Take p) fresh after = keeps (Take p) refl fresh after
  step_tends (Clear p) fresh after = keeps (Clear p) refl fresh after

-- a node without neighbours is signalled only by its own resets
lone_signals : (w settled : World) (s : Step) → Sound (view w) → IsFresh w settled s → (v : ℕ) → is_empty (state w v).neighbours ≡ true → signals_in w.version (state w) s v ≤ times v (finished_by (kind (state w) s) s)
lone_signals w settled (Order c n (Add u g)) sound fresh v alone = omega arith
lone_signals w settled (Order c n (Remove u)) sound fresh v alone = omega arith
lone_signals w settled (Order c n (Join a b)) sound fresh v alone = omega arith
lone_signals w settled (Order c n (Drop a b)) sound fresh v alone =
    let droppable = fresh_order w settled c n (Drop a b) fresh in
    let near : contains (state w a).neighbours b ≡ true = sym (sound.linked a b) ∙ droppable.linked in
    let not_a : v ≢ a = λ e. let none = empty_has (state w a).neighbours b (subst (λ q. is_empty (state w q).neighbours ≡ true) e alone) in cc in
    let not_b : v ≢ b = λ e. let some = linked_some (view w) sound a b near in let none = subst (λ q. is_empty (state w q).neighbours ≡ true) e alone in cc in
    omega (arith, no_signal a b droppable.apart (lost (state w a) b) (lost (state w b) a) v not_a not_b)
lone_signals w settled (Order c n (Reset u)) sound fresh v alone = let same = step_finishes w settled (Order c n (Reset u)) refl sound fresh v alone in omega arith
lone_signals w settled (Order c n (Confirm u e)) sound fresh v alone = omega arith
lone_signals w settled (Take p) sound fresh v alone = let same = step_finishes w settled (Take p) refl sound fresh v alone in omega arith
lone_signals w settled (Clear p) sound fresh v alone = omega arith

-- each signal is of a node with neighbours, or comes with the reply Finished
each_signal : (w settled : World) (s : Step) → Sound (view w) → IsFresh w settled s → (v : ℕ) →
    signals_in w.version (state w) s v ≤ of_linked (view w) (signals_in w.version (state w) s) v + times v (finished_by (kind (state w) s) s)
each_signal w settled s sound fresh v = by_test (is_empty (state w v).neighbours) (λ b. signals_in w.version (state w) s v ≤ cond b 0 (signals_in w.version (state w) s v) + times v (finished_by (kind (state w) s) s))
    (λ alone. let lone = lone_signals w settled s sound fresh v alone in omega arith) (λ _. omega arith)

-- the two nodes of a link
of_link : (part : ℕ → Bool) (a b x y : ℕ) → part a ≡ part b → is_link a b x y ≡ true → part x ≡ part y
of_link part a b x y same h = grind (arith, nat_tests, same, h)

-- a link that was there, or a new one
one_of : (new old : Bool) → (new || old) ≡ true → (new ≡ true) ⊎ (old ≡ true)
one_of true old h = inl refl
one_of false old h = inr h

-- after a step, each link still joins two nodes of the part, or two others
apart_next : (part : ℕ → Bool) (z : Ideal) (s : Step) → KeepsApart part s → Apart part z → Apart part (ideal_next z s)
apart_next part z (Order c n (Add u g)) keeps like x y linked = like x y linked
apart_next part z (Order c n (Remove u)) keeps like x y linked = like x y linked
apart_next part z (Order c n (Join a b)) keeps like x y linked = elim (one_of (is_link a b x y) (z.linked x y) linked) [ inl new ↦ of_link part a b x y keeps new | inr old ↦ like x y old ]
apart_next part z (Order c n (Drop a b)) keeps like x y linked = like x y (grind (arith, nat_tests, linked))
apart_next part z (Order c n (Reset u)) keeps like x y linked = like x y linked
apart_next part z (Order c n (Confirm u e)) keeps like x y linked = like x y linked
apart_next part z (Take p) keeps like x y linked = like x y linked
apart_next part z (Clear p) keeps like x y linked = like x y linked

-- ---- the laws

-- step by step
bounded : (part : ℕ → Bool) (steps : List Step) (w : World) → IsRun w steps → All (KeepsApart part) steps → Apart part (view w) → (ts : List Tree) → Forest part (view w) ts → (x : ℕ) → part x ≡ true →
    signals_of x (outs w steps) + one (in_trees ts x) ≤ count_by part (started w steps) + count_by (drops_in part) steps + times x (finished_at w steps) + length ts + busy (state w x)
bounded part [] w run keeps like ts forest x inside = let least = some_tree ts x in grind (arith, least)
bounded part (s ∷ ss) w run keeps like ts forest x inside =
    let first = run.taken [] ss s refl in
    let is = view_next w first.0 s run.counts first.1 in
    let after = subst Sound is (sound_next w first.0 s run.sound run.counts first.1) in
    let step = step_tends part w first.0 ts run.sound like forest s first.1 after in
    let more = bounded part ss (next w s) (later w s ss run) (All-tail (KeepsApart part) s ss keeps)
    (subst (Apart part) (sym is) (apart_next part (view w) s (All-head (KeepsApart part) s ss keeps) like)) step.trees (subst (λ z. Forest part z step.trees) (sym is) step.forest) x inside in
    let paid = step.paid x inside in
    let each = each_signal w first.0 s run.sound first.1 x in
    let now : busy (state (next w s) x) ≡ busy ((ideal_next (view w) s).state x) = ap (λ (z : Ideal). busy (z.state x)) is in
    let all = signals_first x w s ss in
    let starts = sum_by-append (λ q. cond (part q) 1 0) (started_by (kind (state w) s) s) (started (next w s) ss) in
    let finishes = sum_by-append (λ u. cond (eqb u x) 1 0) (finished_by (kind (state w) s) s) (finished_at (next w s) ss) in
    let drops : count_by (drops_in part) (s ∷ ss) ≡ one (drops_in part s) + count_by (drops_in part) ss = sum_by-cons (λ q. cond (drops_in part q) 1 0) s ss in
    omega arith

pub no_more_with_drops : NoMoreWithDrops
no_more_with_drops w steps part begins v inside =
    let run : IsRun w steps = record { sound = sound_view w begins.in_range begins.legal; counts = begins.legal.lanes; taken = taken_in_turn w steps begins.in_turn } in
    let empty : Forest part (view w) [] = record { grown = tt; covered = λ q in_q h. absurd (let calm = ap is_abort (begins.ready_before q in_q) in cc) } in
    let most = bounded part steps w run begins.kept_apart begins.is_part [] empty v inside in
    let was = ap is_ready (begins.ready_before v inside) in
    grind (arith, most, was)

-- ---- while no node or link comes or goes

-- no step adds or drops a link
step_stays : (part : ℕ → Bool) (s : Step) → changes_topology s ≡ false → KeepsApart part s × (drops_in part s ≡ false)
step_stays part (Order c n (Add u g)) stays = cc
step_stays part (Order c n (Remove u)) stays = cc
step_stays part (Order c n (Join a b)) stays = cc
step_stays part (Order c n (Drop a b)) stays = cc
step_stays part (Order c n (Reset u)) stays = (tt, refl)
step_stays part (Order c n (Confirm u e)) stays = (tt, refl)
step_stays part (Take p) stays = (tt, refl)
step_stays part (Clear p) stays = (tt, refl)

all_stay : (part : ℕ → Bool) (steps : List Step) → All (λ s. changes_topology s ≡ false) steps → All (KeepsApart part) steps × (count_by (drops_in part) steps ≡ 0)
all_stay part [] stays = (All-nil (KeepsApart part), refl)
all_stay part (s ∷ ss) stays =
    let first = step_stays part s (All-head (λ q. changes_topology q ≡ false) s ss stays) in
    let more = all_stay part ss (All-tail (λ q. changes_topology q ≡ false) s ss stays) in
    let count = sum_by-cons (λ q. cond (drops_in part q) 1 0) s ss in
    (All-cons (KeepsApart part) s ss first.0 more.0, grind (arith, first.1, more.1, count))

-- no reset of a node that has a neighbour is answered Finished
none_finished : (w : World) (s : Step) → changes_topology s ≡ false → (v : ℕ) → is_empty (state w v).neighbours ≡ false → times v (finished_by (kind (state w) s) s) ≡ 0
none_finished w (Order c n (Add u g)) stays v some = cc
none_finished w (Order c n (Remove u)) stays v some = cc
none_finished w (Order c n (Join a b)) stays v some = cc
none_finished w (Order c n (Drop a b)) stays v some = cc
none_finished w (Order c n (Reset u)) stays v some = request_cases w.version (state w u) (λ d k. times v (finished_by k (Order c n (Reset u))) ≡ 0)
    (λ _ alone.
    let far : u ≢ v = λ e. let none = subst (λ q. is_empty (state w q).neighbours ≡ true) e alone in cc in
    grind (arith, nat_tests, far)) (λ _ _. refl) refl
none_finished w (Order c n (Confirm u e)) stays v some = refl
none_finished w (Take p) stays v some = refl
none_finished w (Clear p) stays v some = refl

never_finished : (steps : List Step) (w : World) → AllGo w steps → All (λ s. changes_topology s ≡ false) steps → (v : ℕ) → is_empty (state w v).neighbours ≡ false → times v (finished_at w steps) ≡ 0
never_finished [] w run stays v some = refl
never_finished (s ∷ ss) w run stays v some =
    let now = none_finished w s (All-head (λ q. changes_topology q ≡ false) s ss stays) v some in
    let more = never_finished ss (next w s) run.1 (All-tail (λ q. changes_topology q ≡ false) s ss stays) v (near_kept w s run.0 v ∙ some) in
    let count = sum_by-append (λ u. cond (eqb u v) 1 0) (finished_by (kind (state w) s) s) (finished_at (next w s) ss) in
    omega arith

-- of a node that has neighbours
pub no_more : (w : World) (steps : List Step) (part : ℕ → Bool) → BeginsReady w steps part → (v : ℕ) → part v ≡ true → is_empty (state w v).neighbours ≡ false → signals_of v (outs w steps) ≤ count_by part (started w steps)
no_more w steps part begins v inside some =
    let stay = all_stay part steps begins.same_topology in
    let most = no_more_with_drops w steps part (record { in_range = begins.in_range; legal = begins.legal; in_turn = begins.in_turn; is_part = begins.is_part; kept_apart = stay.0; ready_before = begins.ready_before }) v inside in
    let none = never_finished steps w (all_go w steps begins.in_range begins.legal begins.in_turn begins.same_topology) begins.same_topology v some in
    omega (arith, most, none, stay.1)

pub no_more_than_started : NoMoreThanStarted
no_more_than_started w steps part begins v x inside linked =
    let sound = sound_view w begins.in_range begins.legal in
    no_more w steps part begins v inside (linked_some (view w) sound x v (sym (sound.mirrored v x) ∙ sym (sound.linked v x) ∙ linked))
