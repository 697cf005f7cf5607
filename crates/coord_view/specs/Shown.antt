-- The view of a world.
use Rattle.std.specs.Prelude.{ℕ, List, map}
use Rattle.coord_tables.specs.declared.links.LinkRow.{LinkRow}
use Rattle.coord_world.specs.declared.rows.parts.NodeRow.{NodeRow}
use Rattle.coord_world.specs.Facade.{World, rows_of}
use Rattle.coord_view.specs.declared.view.LinkView.{LinkView}
use Rattle.coord_view.specs.declared.view.NodeView.{NodeView}

pub record Shown : Type 0 where
  pub accepted : ℕ
  pub settled : ℕ
  pub nodes : List NodeView
  pub links : List LinkView

abbrev pub node_view : NodeRow → NodeView
node_view r = record { node = r.id; group = r.group; mode = r.mode; parent = r.parent; epoch = r.epoch; confirmed = r.confirmed }

abbrev pub link_view : LinkRow → LinkView
link_view r = record { a = r.a; b = r.b; inc = r.forth.inc }

-- the view of the settled world w, with this number of accepted steps
abbrev pub shown : ℕ → World → Shown
shown accepted w = record { accepted = accepted; settled = w.count; nodes = map node_view (rows_of w).nodes; links = map link_view (rows_of w).links }
