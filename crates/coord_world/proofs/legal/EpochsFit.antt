-- The epochs of a node through a step: each confirmed one was entered, and no more are entered than steps are taken.
use Rattle.std.proofs.Common.{ℕ, ◌+◌, ◌≤◌, refl, arith}
use Rattle.coord_types.specs.declared.steps.Command.TheVariants.{Add}
use Rattle.coord_types.specs.declared.steps.Step.{Step}
use Rattle.coord_types.specs.declared.steps.Step.TheVariants.{Order}
use Rattle.coord_world.specs.Facade.{InRange, IsFresh, Legal, World, next}
use Rattle.coord_world.proofs.legal.Sound.{EpochsFit, epochs_fit}
use Rattle.coord_world.proofs.ranges.EveryNode.{Adds, AllRows, Carries, carried_by, rows_next}
use Rattle.coord_world.proofs.ranges.Distances.{carried_within, farthest_le}

-- each change of a node keeps it
carries_epochs : (count n : ℕ) → n ≤ count → Carries n (λ x r. EpochsFit count r × (r.distance ≤ count)) (λ x r. EpochsFit (count + 1) r)
carries_epochs count n small = record {
  weaken = λ x r fit. record { confirmed = fit.0.confirmed; entered = omega (arith, fit.0.entered); ready = fit.0.ready; within = λ _. omega (arith, fit.1) };
  goes = λ x r s near fit room goes. record {
    confirmed = omega (arith, fit.0.confirmed, goes.confirmed, goes.least);
    entered = omega (arith, fit.0.entered, goes.most);
    ready = goes.ready fit.0.ready;
    within = λ _. omega (arith, goes.distance count fit.1 small);
  };
  confirm = λ x r e fit entered. record { confirmed = entered; entered = omega (arith, fit.0.entered); ready = fit.0.ready; within = λ _. omega (arith, fit.1) };
  widen = λ x r v fit room. record { confirmed = fit.0.confirmed; entered = omega (arith, fit.0.entered); ready = fit.0.ready; within = λ _. omega (arith, fit.1) };
}

-- a new node has entered no epoch
new_fits : (count : ℕ) (s : Step) → Adds (λ x r. EpochsFit count r) s
new_fits count (Order c n (Add u g)) = record { confirmed = omega arith; entered = omega arith; ready = λ _. refl; within = λ e. cc }
new_fits count s = tt

-- each node keeps it through a fresh step
pub epochs_next : (w settled : World) (s : Step) → InRange w → Legal w → IsFresh w settled s → AllRows (λ x r. EpochsFit (w.count + 1) r) (next w s).nodes
epochs_next w settled s range legal fresh =
    rows_next (λ x r. EpochsFit w.count r × (r.distance ≤ w.count)) (λ x r. EpochsFit (w.count + 1) r) w
    (λ x r is. (epochs_fit w.count r (legal.nodes x r is), omega (arith, (range.distances x r is).within, farthest_le w.version w.count)))
    settled s (carries_epochs w.count (carried_by s) (omega (arith, carried_within w settled s range fresh, farthest_le w.version w.count))) range (new_fits (w.count + 1) s) fresh
