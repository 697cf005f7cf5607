-- The laws of single steps, over the definitions alone.
use Rattle.std.specs.Prelude.{◌≡◌, ℕ, ◌≤◌, Some, length}
use Rattle.coord_link.specs.declared.lane.TheConstants.{PLACES}
use Rattle.std.specs.List.{AllByRecursion}
use Rattle.coord_tables.specs.declared.links.LinkRow.{LinkRow}
use Rattle.coord_types.specs.declared.steps.Step.{Step}
use Rattle.coord_link.specs.LaneMachine.{Lane, transit, Counts}
use Rattle.coord_node.specs.IdealRules.{ideal_next}
use Rattle.coord_world.specs.protocol.NumberedWorld.{World, lane_at, view}
use Rattle.coord_world.specs.protocol.Next.{next}
use Rattle.coord_world.specs.protocol.Acceptance.{IsFresh}
use Rattle.coord_world.specs.protocol.Legal.{Legal}
use Rattle.coord_world.specs.protocol.Links.{aborts}
use Rattle.coord_world.specs.protocol.Ranges.{InRange, StepInRange}
use Rattle.coord_world.specs.protocol.Rows.{RowsFit, rows_of}

-- a world that accepts a step over some settled world also accepts it over itself
abbrev pub FreshOverItself : Type 0
FreshOverItself = (w settled : World) (s : Step) → IsFresh w settled s → IsFresh w w s

-- a fresh step keeps the ranges of a world
abbrev pub NextKeepsRanges : Type 0
NextKeepsRanges = (w settled : World) (s : Step) → StepInRange s → InRange w → Legal w → IsFresh w settled s → InRange (next w s)

-- a fresh step keeps a world legal
abbrev pub NextKeepsLegal : Type 0
NextKeepsLegal = (w settled : World) (s : Step) → InRange w → Legal w → IsFresh w settled s → Legal (next w s)

-- a step changes the view as the ideal step does, if on each lane at most one message is taken and not yet cleared
abbrev pub ViewOfNext : Type 0
ViewOfNext = (w settled : World) (s : Step) → ((u v : ℕ) (l : Lane) → lane_at w.links u v ≡ Some l → Counts l) → IsFresh w settled s → view (next w s) ≡ ideal_next (view w) s

-- In a legal world, a lane has at most 3 messages in transit, and its queue has at most 4 messages, of which at most 2
-- are Aborts
pub record IsShort (l : Lane) : Type 0 where
  pub on_way : length (transit l) ≤ 3
  pub queued : length l.queue ≤ PLACES
  pub few_aborts : aborts l.queue ≤ 2

abbrev pub LanesAreShort : Type 0
LanesAreShort = (w : World) (u v : ℕ) (l : Lane) → InRange w → Legal w → lane_at w.links u v ≡ Some l → IsShort l

-- the rows of a world in its ranges satisfy the conditions of `RowsFit`
abbrev pub RowsOfWorldFit : Type 0
RowsOfWorldFit = (w : World) → InRange w → RowsFit (rows_of w)

-- each row of a link of a legal world has at most 2 Aborts in each queue
pub record HasFewAborts (r : LinkRow) : Type 0 where
  pub forth : aborts r.forth.queue ≤ 2
  pub back : aborts r.back.queue ≤ 2

abbrev pub RowsHaveFewAborts : Type 0
RowsHaveFewAborts = (w : World) → InRange w → Legal w → AllByRecursion HasFewAborts (rows_of w).links

-- worlds in their ranges with the same rows are equal
abbrev pub RowsGiveWorld : Type 0
RowsGiveWorld = (v w : World) → InRange v → InRange w → rows_of v ≡ rows_of w → v ≡ w
