-- The view in a line that answers `show` (docs/FORMATS.md, "Administration lines").
use Rattle.std.specs.Prelude.{ℕ, ◌==◌, ◌&&◌, nat_le, List, [], ◌∷◌, codes, Option, Some, None, option_and_then, Result, Ok, Err, if◌then◌else◌}
use Rattle.serde_json.specs.Data.{Data, Items, no_items, item}
use Rattle.serde_json.specs.Read.{read}
use Rattle.serde_json.specs.Find.{at, as_array, as_number, as_str, as_u64, get}
use Rattle.coord_types.specs.declared.limits.TheConstants.{MAX_GROUPS, MAX_NODES}
use Rattle.coord_types.specs.declared.messages.Mode.{Mode}
use Rattle.coord_types.specs.declared.messages.Mode.TheVariants.{Ready, Abort, Converge}
use Rattle.coord_view.specs.declared.view.LinkView.{LinkView}
use Rattle.coord_view.specs.declared.view.NodeView.{NodeView}
use Rattle.coord_view.specs.Shown.{Shown}
use Rattle.coord_wire.specs.declared.show_line.NodeRow.{NodeRow}
use Rattle.std.specs.Option.{option_map}
use Rattle.coord_wire.specs.declared.answer_line.ReadFault.{ReadFault}
use Rattle.coord_wire.specs.declared.answer_line.ReadFault.TheVariants.{NoAnswer}
use Rattle.coord_wire.specs.AnswerLine.{Name, named}

abbrev pub modes : List (Name × Mode)
modes = (codes "ready", Ready) ∷ (codes "abort", Abort) ∷ (codes "converge", Converge) ∷ []

abbrev pub mode_named : Name → Option Mode
mode_named name = named modes name

abbrev pub number_at : ℕ → Data → Option ℕ
number_at place d = option_and_then as_u64 (option_and_then as_number (at place d))

abbrev pub from_1_to : ℕ → ℕ → Option ℕ
from_1_to most n = if nat_le 1 n && nat_le n most then Some n else None

abbrev pub id_at : ℕ → ℕ → Data → Option ℕ
id_at place most d = option_and_then (from_1_to most) (number_at place d)

-- the number, if it is at most `most`
abbrev pub up_to : ℕ → ℕ → Option ℕ
up_to most n = if nat_le n most then Some n else None

abbrev pub mode_at : ℕ → Data → Option Mode
mode_at place d = option_and_then mode_named (option_and_then as_str (at place d))

abbrev pub node_view : NodeRow → NodeView
node_view r = record { node = r.node; group = r.group; mode = r.mode; parent = from_1_to MAX_NODES r.parent; epoch = r.epoch; confirmed = r.confirmed }

abbrev pub row_with : Option ℕ → Option ℕ → Option Mode → Option ℕ → Option ℕ → Option ℕ → Option NodeRow
row_with None group mode parent epoch confirmed = None
row_with (Some node) None mode parent epoch confirmed = None
row_with (Some node) (Some group) None parent epoch confirmed = None
row_with (Some node) (Some group) (Some mode) None epoch confirmed = None
row_with (Some node) (Some group) (Some mode) (Some parent) None confirmed = None
row_with (Some node) (Some group) (Some mode) (Some parent) (Some epoch) None = None
row_with (Some node) (Some group) (Some mode) (Some parent) (Some epoch) (Some confirmed) =
    Some (record { node = node; group = group; mode = mode; parent = parent; epoch = epoch; confirmed = confirmed })

-- a node's row: its number, group, mode, parent, epoch and confirmed epoch
abbrev pub row_in : Data → Option NodeRow
row_in d = row_with (id_at 0 MAX_NODES d) (id_at 1 MAX_GROUPS d) (mode_at 2 d) (option_and_then (up_to MAX_NODES) (number_at 3 d)) (number_at 4 d) (number_at 5 d)

abbrev pub node_in : Data → Option NodeView
node_in d = option_map node_view (row_in d)

abbrev pub link_with : Option ℕ → Option ℕ → Option ℕ → Option LinkView
link_with None b inc = None
link_with (Some a) None inc = None
link_with (Some a) (Some b) None = None
link_with (Some a) (Some b) (Some inc) = Some (record { a = a; b = b; inc = inc })

-- a link's row: its ends and its incarnation
abbrev pub link_in : Data → Option LinkView
link_in d = link_with (id_at 0 MAX_NODES d) (id_at 1 MAX_NODES d) (number_at 2 d)

abbrev pub in_front : {X : Type 0} → X → Option (List X) → Option (List X)
in_front x None = None
in_front x (Some xs) = Some (x ∷ xs)

abbrev pub from_each : {X : Type 0} → Option X → Option (List X) → Option (List X)
from_each None rest = None
from_each (Some x) rest = in_front x rest

-- the values of all items, or None if some item has no value
abbrev pub each : {X : Type 0} → (Data → Option X) → Items → Option (List X)
each read no_items = Some []
each read (item d ds) = from_each (read d) (each read ds)

abbrev pub rows_at : Name → Data → Option Items
rows_at name d = option_and_then as_array (get name d)

abbrev pub nodes_in : Data → Option (List NodeView)
nodes_in d = option_and_then (each node_in) (rows_at (codes "nodes") d)

abbrev pub links_in : Data → Option (List LinkView)
links_in d = option_and_then (each link_in) (rows_at (codes "links") d)

abbrev pub count_at : Name → Data → Option ℕ
count_at name d = option_and_then as_u64 (option_and_then as_number (get name d))

abbrev pub shown_with : Option (List NodeView) → Option (List LinkView) → Option ℕ → Option ℕ → Option Shown
shown_with None links accepted settled = None
shown_with (Some nodes) None accepted settled = None
shown_with (Some nodes) (Some links) None settled = None
shown_with (Some nodes) (Some links) (Some accepted) None = None
shown_with (Some nodes) (Some links) (Some accepted) (Some settled) = Some (record { accepted = accepted; settled = settled; nodes = nodes; links = links })

abbrev pub shown_of : Data → Option Shown
shown_of d = shown_with (nodes_in d) (links_in d) (count_at (codes "accepted") d) (count_at (codes "settled") d)

abbrev pub or_no_view : Option Shown → Result Shown ReadFault
or_no_view None = Err NoAnswer
or_no_view (Some shown) = Ok shown

-- the view in a text, which is parsed as JSON
unfoldable pub shown_in : List ℕ → Result Shown ReadFault
shown_in text = or_no_view (option_and_then shown_of (read text))
