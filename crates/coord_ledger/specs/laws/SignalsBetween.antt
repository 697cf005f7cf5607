-- The number of signals that a ledger releases between two moments at which every node of a part is Ready.
use Rattle.std.specs.Prelude.{◌≡◌, ℕ, ◌+◌, ◌≤◌, ◌&&◌, Bool, true, List, ◌++◌, length, count_by, nat_le, nat_lt}
use Rattle.coord_types.specs.declared.steps.Step.{Step}
use Rattle.coord_world.specs.Facade.{fold}
use Rattle.coord_world.specs.laws.Between.{BoundSignals, IsReadyAgain, IsReadyApart}
use Rattle.coord_world.specs.laws.Drops.{most_signals}
use Rattle.coord_world.specs.laws.Waves.{is_signal_of}
use Rattle.coord_ledger.specs.declared.release.Release.{Release}
use Rattle.coord_ledger.specs.machine.Consistent.{IsConsistent}
use Rattle.coord_ledger.specs.machine.Log.{settled_steps}
use Rattle.coord_ledger.specs.machine.Machine.{Machine}

-- whether a release is a signal of node v by a step after step a, and no later than step b
abbrev pub is_signal_within : ℕ → ℕ → ℕ → Release → Bool
is_signal_within a b v r = (nat_lt a r.step && nat_le r.step b) && is_signal_of v r.output

-- All releases of a ledger, including those before crashes, keep the bounds (`BoundSignals`) between two moments of
-- its settled steps: between them, a linked node of the part gets at most as many signals as resets were started in
-- the part.
abbrev pub ReleasedBetween : Type 0
ReleasedBetween = (s : Machine) (earlier between rest : List Step) (part : ℕ → Bool) → IsConsistent s → settled_steps s.log ≡ earlier ++ (between ++ rest) → IsReadyAgain s.log.base earlier between part →
    BoundSignals (fold s.log.base earlier) between part (λ v. count_by (is_signal_within (s.log.base.count + length earlier) (s.log.base.count + length earlier + length between) v) s.released)

-- The bound if nodes and links come and go, but no link joins the part with the rest. A node of the part gets
-- at most as many signals as resets were started and links dropped in the part, plus its own resets that were
-- answered Finished.
abbrev pub ReleasedWithDrops : Type 0
ReleasedWithDrops = (s : Machine) (earlier between rest : List Step) (part : ℕ → Bool) → IsConsistent s → settled_steps s.log ≡ earlier ++ (between ++ rest) → IsReadyApart s.log.base earlier between part →
    (v : ℕ) → part v ≡ true → count_by (is_signal_within (s.log.base.count + length earlier) (s.log.base.count + length earlier + length between) v) s.released ≤ most_signals (fold s.log.base earlier) between part v
