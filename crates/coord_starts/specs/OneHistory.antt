-- All starts of a store form one history.
use Rattle.std.specs.Prelude.{◌≡◌, ℕ, ◌+◌, ◌≤◌, List, length, Some, slice_get}
use Rattle.std.specs.List.{AllByRecursion}
use Rattle.coord_types.specs.declared.limits.TheConstants.{MAX_VERSIONS}
use Rattle.coord_world.specs.Facade.{StepOutcome, World, no_world}
use Rattle.coord_world.specs.laws.Trails.{IsSound}
use Rattle.coord_ledger.specs.machine.After.{releases_of}
use Rattle.coord_ledger.specs.promises.Parts.{IsPartOf, released_first}
use Rattle.coord_following.specs.Histories.{IsHistory}
use Rattle.coord_starts.specs.Starts.{AreStarts, Start, left_by, released_of, replied_of, turns_of}
use Rattle.coord_starts.specs.Returned.{IsReplyTo, KeepsLast, led, outcomes, steps_of}

-- What holds for the starts of a store that begins with the world `w`.
pub record IsHistoryOfStarts (w : World) (starts : List Start) : Type 0 where
  -- The kept steps are one history: each is fresh over the world after the steps before it. The last start left
  -- the world after all kept steps, and this world is legal.
  pub history : IsHistory w (turns_of w starts)
  pub left : left_by w starts ≡ led w (turns_of w starts)
  pub sound : IsSound (left_by w starts)
  -- Step numbers have no gap: the i-th kept step is answered with the number i, counted from 1.
  pub numbered : (i : ℕ) (o : StepOutcome) → slice_get (outcomes w (turns_of w starts)) i ≡ Some o → o.reply.step ≡ i + 1
  pub counted : (left_by w starts).count ≡ length (steps_of (turns_of w starts))
  -- A returned number never names another step: each reply that was collected in any start is the reply to the
  -- kept step with its number.
  pub replied : AllByRecursion (IsReplyTo 0 (outcomes w (turns_of w starts))) (replied_of w starts)
  -- The releases of all starts are a sublist of the outputs of the kept steps, in order, and none is released twice.
  pub released : IsPartOf (released_first (released_of w starts)) (releases_of (outcomes w (turns_of w starts)))
  -- The reply that the last world keeps for a client is the reply to its last order.
  pub kept : (c : ℕ) → KeepsLast w (turns_of w starts) c

-- All starts of a store, from its creation on, form one history, whatever the starts are.
abbrev pub StartsAreOne : Type 0
StartsAreOne = (version : ℕ) (starts : List Start) → 1 ≤ version → version ≤ MAX_VERSIONS → AreStarts (no_world version) starts → IsHistoryOfStarts (no_world version) starts
