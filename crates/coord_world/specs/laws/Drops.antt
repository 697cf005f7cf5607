-- How often nodes are signalled while nodes and links come and go.
use Rattle.std.specs.Prelude.{◌≡◌, ℕ, ◌+◌, ◌≤◌, ◌==◌, Bool, true, false, List, All, count_by}
use Rattle.coord_types.specs.declared.steps.Command.TheVariants.{Join, Drop}
use Rattle.coord_types.specs.declared.steps.Step.{Step}
use Rattle.coord_types.specs.declared.steps.Step.TheVariants.{Order}
use Rattle.coord_world.specs.protocol.InTurn.{InTurn}
use Rattle.coord_world.specs.protocol.Legal.{Legal}
use Rattle.coord_world.specs.protocol.NumberedWorld.{World}
use Rattle.coord_world.specs.protocol.Outputs.{outs}
use Rattle.coord_world.specs.protocol.Ranges.{InRange}
use Rattle.coord_world.specs.laws.Overlaps.{IsPart, PartReady, finished_at}
use Rattle.coord_world.specs.laws.Waves.{signals_of, started}

-- if a step adds a link, both its ends are in the part, or both are outside it
abbrev pub KeepsApart : (ℕ → Bool) → Step → Type 0
KeepsApart part (Order c n (Join a b)) = part a ≡ part b
KeepsApart part s = Unit {0}

-- whether a step drops a link of the part
abbrev pub drops_in : (ℕ → Bool) → Step → Bool
drops_in part (Order c n (Drop a b)) = part a
drops_in part s = false

-- Steps in turn. Every node of the part is Ready before them, and they never link a node of the part with a node outside it. They
-- may add and remove nodes and links otherwise
pub record BeginsApart (w : World) (steps : List Step) (part : ℕ → Bool) : Type 0 where
  pub in_range : InRange w
  pub legal : Legal w
  pub in_turn : InTurn w steps
  pub is_part : IsPart w part
  pub kept_apart : All (KeepsApart part) steps
  pub ready_before : PartReady w part

-- in total, the number of resets started in the part, of links of the part dropped, and of resets of v answered Finished
abbrev pub most_signals : World → List Step → (ℕ → Bool) → ℕ → ℕ
most_signals w steps part v = count_by part (started w steps) + count_by (drops_in part) steps + count_by (λ u. u == v) (finished_at w steps)

-- each node of the part is signalled at most `most_signals` times by steps of `BeginsApart`
abbrev pub NoMoreWithDrops : Type 0
NoMoreWithDrops = (w : World) (steps : List Step) (part : ℕ → Bool) → BeginsApart w steps part → (v : ℕ) → part v ≡ true →
    signals_of v (outs w steps) ≤ most_signals w steps part v
