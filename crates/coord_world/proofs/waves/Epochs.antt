-- A node's epoch counts its signals, and every node connected with one whose reset was accepted is signalled.
use Rattle.std.proofs.Common.{◌≡◌, ℕ, ◌+◌, ◌≤◌, false, List, [], ◌∷◌, ◌++◌, All, refl, sym, ap, ◌∙◌, subst, inl, inr, arith, count_by}
use Rattle.std.proofs.lemmas.Bool.Decides.{nat_tests}
use Rattle.std.proofs.lemmas.List.Elements.{All-head, All-tail}
use Rattle.std.proofs.lemmas.List.Sums.{sum_by-append}
use Rattle.coord_types.specs.Facade.{Ideal, NodeState}
use Rattle.coord_types.specs.declared.messages.Msg.{Msg}
use Rattle.coord_types.specs.declared.messages.Msg.TheVariants as msg
use Rattle.coord_types.specs.declared.steps.Command.TheVariants.{Add, Remove, Join, Drop, Reset, Confirm}
use Rattle.coord_types.specs.declared.steps.Step.{Step}
use Rattle.coord_types.specs.declared.steps.Step.TheVariants.{Order, Take, Clear}
use Rattle.coord_node.specs.Facade.{Transition, headed, ideal_applied, ideal_next, request, transition}
use Rattle.coord_tables.proofs.Cases.{same_or_apart}
use Rattle.coord_world.specs.Facade.{IsFresh, World, fold, next, outputs, outs, reply, signals, state, view}
use Rattle.coord_world.specs.laws.Overlaps.{AskedReachesAll, EpochsCountSignals, EpochsRiseTogether}
use Rattle.coord_world.specs.laws.Waves.{changes_topology, is_signal_of, signals_of}
use Rattle.coord_world.specs.protocol.Links.{one}
use Rattle.coord_world.proofs.View.{view_next}
use Rattle.coord_world.proofs.legal.SoundView.{sound_view}
use Rattle.coord_world.proofs.transitions.RuleCases.{abort_cases, ack_cases, ready_cases, request_cases}
use Rattle.coord_world.proofs.waves.Asked.{IsRun, asked_is_signalled, later}
use Rattle.coord_world.proofs.waves.Running.{taken_in_turn}
use Rattle.coord_world.proofs.waves.SignalsOf.{signals_first}
use Rattle.coord_world.proofs.waves.Spread.{all_or_none}
use Rattle.coord_world.proofs.waves.StepEffects.{signals_in}

-- ---- a transition

-- the epoch rises by one if the transition finishes, and stays otherwise
abbrev IsCounted : NodeState → Transition → Type 0
IsCounted r d = d.state.epoch ≡ r.epoch + one d.finished

module _ (version : ℕ) (r : NodeState) where
  owed_after : (m : Msg) (v : ℕ) → IsCounted r (transition version m r v)
  owed_after (msg.Abort n) v = abort_cases version r v (IsCounted r) n (λ _ _. omega arith) (λ _ _. omega arith) (λ _. omega arith)
  owed_after msg.Ack v = ack_cases r v (IsCounted r) (λ _. omega arith) (λ _. omega arith) (λ _ _. omega arith) (λ _ p _. omega arith)
  owed_after msg.Ready v = ready_cases r v (IsCounted r) (λ _. omega arith) (λ _ _. omega arith)

  asked_for : IsCounted r (request version r)
  asked_for = request_cases version r (λ d k. IsCounted r d) (λ _ _. omega arith) (λ _ _. omega arith) (omega arith)

-- ---- a step

-- a transition at t signals t exactly if its epoch rises
applied : (z : Ideal) (t : ℕ) (d : Transition) → IsCounted (z.state t) d → (x : ℕ) → ((ideal_applied z t d).state x).epoch ≡ (z.state x).epoch + count_by (is_signal_of x) (signals ((t, d) ∷ []))
applied z t d counted x = elim (same_or_apart x t) [
  | inl here ↦ subst (λ q. ((ideal_applied z t d).state q).epoch ≡ (z.state q).epoch + count_by (is_signal_of q) (signals ((t, d) ∷ []))) (sym here) (grind (arith, nat_tests, counted))
  | inr far ↦ grind (arith, nat_tests, far)
]

-- the ideal step
ideal_counts : (w : World) (s : Step) → changes_topology s ≡ false → (x : ℕ) → ((ideal_next (view w) s).state x).epoch ≡ (state w x).epoch + signals_in w.version (state w) s x
ideal_counts w (Order c n (Add u g)) stays x = cc
ideal_counts w (Order c n (Remove u)) stays x = cc
ideal_counts w (Order c n (Join a b)) stays x = cc
ideal_counts w (Order c n (Drop a b)) stays x = cc
ideal_counts w (Order c n (Reset u)) stays x = applied (view w) u (request w.version (state w u)) (asked_for w.version (state w u)) x
ideal_counts w (Order c n (Confirm u e)) stays x = grind (arith, nat_tests)
ideal_counts w (Take p) stays x = applied (headed (view w) p.from p.to) p.to (transition w.version p.msg (state w p.to) p.from) (owed_after w.version (state w p.to) p.msg p.from) x
ideal_counts w (Clear p) stays x = omega arith

-- ---- the laws

-- step by step
all_counted : (steps : List Step) (w : World) → IsRun w steps → All (λ s. changes_topology s ≡ false) steps → (v : ℕ) → (state (fold w steps) v).epoch ≡ (state w v).epoch + signals_of v (outs w steps)
all_counted [] w run stays v = omega arith
all_counted (s ∷ ss) w run stays v =
    let first = run.taken [] ss s refl in
    let now = ap (λ (z : Ideal). (z.state v).epoch) (view_next w first.0 s run.counts first.1) ∙ ideal_counts w s (All-head (λ q. changes_topology q ≡ false) s ss stays) v in
    let more = all_counted ss (next w s) (later w s ss run) (All-tail (λ q. changes_topology q ≡ false) s ss stays) v in
    let all = signals_first v w s ss in
    omega arith

pub epochs_count_signals : EpochsCountSignals
epochs_count_signals w steps range legal in_turn stays v =
    all_counted steps w (record { sound = sound_view w range legal; counts = legal.lanes; taken = taken_in_turn w steps in_turn }) stays v

-- the later steps signal a node no more often than all steps do
later_signals : (before rest : List Step) (w : World) (u : ℕ) → signals_of u (outs (fold w before) rest) ≤ signals_of u (outs w (before ++ rest))
later_signals [] rest w u = omega arith
later_signals (s ∷ ss) rest w u = let more = later_signals ss rest (next w s) u in let all = signals_first u w s (ss ++ rest) in omega arith

pub asked_reaches_all : AskedReachesAll
asked_reaches_all w steps before rest part c n u begins ready_after is inside v path =
    let after = asked_is_signalled w steps before rest c n u begins.in_range begins.legal begins.in_turn is (ready_after u inside) in
    let all = later_signals before (Order c n (Reset u) ∷ rest) w u in
    let once : 1 ≤ signals_of u (outs w steps) = subst (λ l. 1 ≤ signals_of u (outs w l)) (sym is) (omega (arith, after, all)) in
    all_or_none w steps part begins ready_after u v inside path once

pub epochs_rise_together : EpochsRiseTogether
epochs_rise_together w steps part begins ready_after u v inside path rises =
    let counted : (x : ℕ) → (state (fold w steps) x).epoch ≡ (state w x).epoch + signals_of x (outs w steps) = epochs_count_signals w steps begins.in_range begins.legal begins.in_turn begins.same_topology in
    let once = all_or_none w steps part begins ready_after u v inside path (omega (arith, counted u, rises)) in
    omega (arith, counted v, once)
