-- In the view of a world, a member reads exactly what that world shows the member.
use Rattle.std.specs.Prelude.{◌≡◌, ℕ, false, List, Option, Some, None, find}
use Rattle.coord_types.specs.Table.{has}
use Rattle.coord_view.specs.Shown.{shown}
use Rattle.coord_view.specs.declared.view.NodeView.{NodeView}
use Rattle.coord_world.specs.Facade.{InRange, World}
use Rattle.coord_member.specs.declared.view.Entry.{Entry}
use Rattle.coord_member.specs.declared.view.Row.{Row}
use Rattle.coord_look.specs.Reading.{IsReadOf, is_of}
use Rattle.coord_look.specs.Shown.{IsShownTo}

-- if the world is in its ranges, a member's look at the view of the world, with any number of accepted steps,
-- is what the world shows the member
abbrev pub LookIsShown : Type 0
LookIsShown = (w : World) (accepted i : ℕ) (own : NodeView) (row : Row) (party : List Entry) → InRange w → find (is_of i) (shown accepted w).nodes ≡ Some own → IsReadOf (shown accepted w) i own row party → IsShownTo w i row party

-- if the view has no row for a node, the node does not exist
abbrev pub NoLookIsAbsent : Type 0
NoLookIsAbsent = (w : World) (accepted i : ℕ) → find (is_of i) (shown accepted w).nodes ≡ None → has w.nodes i ≡ false
