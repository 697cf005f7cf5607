-- How many signals of a node are among the outputs of a step.
use Rattle.std.proofs.Common.{◌≡◌, ℕ, ◌+◌, ◌≤◌, List, [], ◌∷◌, ◌++◌, Option, refl, ◌∙◌, arith, cond, ◌⊎◌, All, count_by}
use Rattle.std.proofs.lemmas.Bool.Decides.{nat_tests}
use Rattle.std.proofs.lemmas.List.Elements.{All-cons, All-nil}
use Rattle.std.proofs.lemmas.List.Sums.{sum_by-append, sum_by-cons}
use Rattle.coord_types.specs.declared.messages.Msg.{Msg}
use Rattle.coord_types.specs.declared.outputs.Output.{Output}
use Rattle.coord_types.specs.declared.outputs.Output.TheVariants.{Receipted, Signalled, Sent}
use Rattle.coord_types.specs.declared.steps.Kind.{Kind}
use Rattle.coord_types.specs.declared.steps.Kind.TheVariants.{Finished}
use Rattle.coord_types.specs.declared.steps.Step.{Step}
use Rattle.coord_node.specs.Steps.{transitions}
use Rattle.coord_link.specs.LaneMachine.{Lane}
use Rattle.coord_world.specs.Facade.{Links, StepOutcome, World, all_sent, lane_at, lanes_in_order, next, outputs, outs, receipts, reply, sent_by, signals, state}
use Rattle.coord_world.specs.laws.Waves.{Connected, IsExplained, is_signal_of, signals_of}
use Rattle.coord_world.proofs.waves.StepEffects.{signals_in}

module _ (v : ℕ) where
  -- 1 for a signal of v
  abbrev signal_in : Output → ℕ
  signal_in o = cond (is_signal_of v o) 1 0

  -- a lane signals nobody
  none_sent_by : (before : Option Lane) (k : ℕ × ℕ) (l : Lane) (q : List Msg) → count_by (is_signal_of v) (sent_by before k l q) ≡ 0
  none_sent_by before k l q = grind (arith, nat_tests)

  -- all lanes together signal nobody
  none_sent : (before : Links) (es : List ((ℕ × ℕ) × Lane)) → count_by (is_signal_of v) (all_sent before es) ≡ 0
  none_sent before [] = refl
  none_sent before (e ∷ es) = sum_by-append signal_in (sent_by (lane_at before e.0.0 e.0.1) e.0 e.1 e.1.queue) (all_sent before es) ∙ omega (arith, none_sent_by (lane_at before e.0.0 e.0.1) e.0 e.1 e.1.queue, none_sent before es)

  -- a receipt signals nobody
  none_receipted : (s : Step) → count_by (is_signal_of v) (receipts s) ≡ 0
  none_receipted s = grind (arith, nat_tests)

  -- the signals are those of the transitions
  pub signals_given : (w : World) (s : Step) → count_by (is_signal_of v) (outputs w s) ≡ signals_in w.version (state w) s v
  signals_given w s =
      sum_by-append signal_in (receipts s ++ signals (transitions w.version (state w) s)) (all_sent w.links (lanes_in_order (next w s).links))
      ∙ omega (arith, sum_by-append signal_in (receipts s) (signals (transitions w.version (state w) s)), none_receipted s, none_sent w.links (lanes_in_order (next w s).links))

  -- those of a step come first
  pub signals_first : (w : World) (s : Step) (ss : List Step) → signals_of v (outs w (s ∷ ss)) ≡ signals_in w.version (state w) s v + signals_of v (outs (next w s) ss)
  signals_first w s ss =
      let now : StepOutcome = record { reply = reply w s; outputs = outputs w s } in
      sum_by-cons (λ (r : StepOutcome). count_by (is_signal_of v) r.outputs) now (outs (next w s) ss) ∙ omega (arith, signals_given w s)

-- where each node that is signalled is explained, each output is
pub all_explained : (w : World) (u : ℕ) (k : Kind) (os : List Output) → ((v : ℕ) → 1 ≤ count_by (is_signal_of v) os → Connected w u v ⊎ (k ≡ Finished)) → All (IsExplained w u k) os
all_explained w u k [] known = All-nil (IsExplained w u k)
all_explained w u k (o ∷ os) known = All-cons (IsExplained w u k) o os (first o (λ v h. known v (omega (arith, counted v, h)))) (all_explained w u k os (λ v h. known v (omega (arith, counted v, h))))
  where
    counted : (v : ℕ) → count_by (is_signal_of v) (o ∷ os) ≡ signal_in v o + count_by (is_signal_of v) os
    counted v = sum_by-cons (signal_in v) o os

    first : (q : Output) → ((v : ℕ) → 1 ≤ signal_in v q → Connected w u v ⊎ (k ≡ Finished)) → IsExplained w u k q
    first (Receipted p) h = tt
    first (Signalled v e) h = h v (grind (arith, nat_tests))
    first (Sent p) h = tt
