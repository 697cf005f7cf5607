-- How often nodes are signalled between two moments of a history at which every node of a part is Ready.
use Rattle.std.specs.Prelude.{◌≡◌, ℕ, ◌≤◌, Bool, true, false, List, ◌∷◌, ◌++◌, All, count_by}
use Rattle.coord_types.specs.declared.steps.Command.TheVariants.{Reset}
use Rattle.coord_types.specs.declared.steps.Step.{Step}
use Rattle.coord_types.specs.declared.steps.Step.TheVariants.{Order}
use Rattle.coord_world.specs.protocol.Next.{fold}
use Rattle.coord_world.specs.protocol.NumberedWorld.{World, is_linked}
use Rattle.coord_world.specs.protocol.Outputs.{outs}
use Rattle.coord_world.specs.laws.Drops.{KeepsApart, most_signals}
use Rattle.coord_world.specs.laws.Overlaps.{IsPart, PartReady}
use Rattle.coord_world.specs.laws.Trails.{IsTrail}
use Rattle.coord_world.specs.laws.Waves.{Connected, changes_topology, signals_of, started}

-- Every node of the part is Ready after the earlier steps, and again after the steps in between. No link leaves the part, and the
-- steps in between do not add or remove nodes or links
pub record IsReadyAgain (base : World) (earlier between : List Step) (part : ℕ → Bool) : Type 0 where
  pub same_topology : All (λ s. changes_topology s ≡ false) between
  pub is_part : IsPart (fold base earlier) part
  pub ready_before : PartReady (fold base earlier) part
  pub ready_after : PartReady (fold (fold base earlier) between) part

-- Two bounds for the signals of these steps; `count` says how often each node is signalled. `most`: a node of the part that has a
-- link is signalled at most as often as resets were started in the part. `least`: if a reset of a node of the part is accepted,
-- whatever the reply, each node that is connected with this node is signalled at least once.
pub record BoundSignals (w : World) (steps : List Step) (part : ℕ → Bool) (count : ℕ → ℕ) : Type 0 where
  pub most : (v x : ℕ) → part v ≡ true → is_linked w v x ≡ true → count v ≤ count_by part (started w steps)
  pub least : (before rest : List Step) (c n u : ℕ) → steps ≡ before ++ Order c n (Reset u) ∷ rest → part u ≡ true → (v : ℕ) → Connected w u v → 1 ≤ signals_of v (outs w steps)

-- both bounds hold for the signals of the steps in between
abbrev pub BoundBetween : Type 0
BoundBetween = (base : World) (earlier between rest : List Step) (part : ℕ → Bool) → IsTrail base (earlier ++ (between ++ rest)) → IsReadyAgain base earlier between part →
    BoundSignals (fold base earlier) between part (λ v. signals_of v (outs (fold base earlier) between))

-- After the earlier steps, every node of the part is Ready, and no link leaves the part. The steps in between add no link that
-- leaves it
pub record IsReadyApart (base : World) (earlier between : List Step) (part : ℕ → Bool) : Type 0 where
  pub kept_apart : All (KeepsApart part) between
  pub is_part : IsPart (fold base earlier) part
  pub ready_before : PartReady (fold base earlier) part

-- the steps in between signal a node of the part at most as often, in total, as resets were started in the part, links of the
-- part were dropped, and resets of the node were answered Finished
abbrev pub BoundWithDrops : Type 0
BoundWithDrops = (base : World) (earlier between rest : List Step) (part : ℕ → Bool) → IsTrail base (earlier ++ (between ++ rest)) → IsReadyApart base earlier between part →
    (v : ℕ) → part v ≡ true → signals_of v (outs (fold base earlier) between) ≤ most_signals (fold base earlier) between part v
