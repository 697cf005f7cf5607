-- The lines of a view, each of which ends with a line feed.
use Rattle.std.specs.Prelude.{ℕ, List, ◌++◌, codes, decimal}
use Rattle.std.specs.List.{flat_map}
use Rattle.std.specs.Option.{option_map_or}
use Rattle.coord_types.specs.Names.{mode_name}
use Rattle.coord_view.specs.Shown.{Shown}
use Rattle.coord_view.specs.declared.view.LinkView.{LinkView}
use Rattle.coord_view.specs.declared.view.NodeView.{NodeView}

-- the line of a node; a parent 0 means that the node has no parent
abbrev pub node_line : NodeView → List ℕ
node_line v =
    codes "node " ++ (decimal v.node ++ (codes " " ++ (decimal v.group ++ (codes " " ++ (mode_name v.mode ++ (codes " "
    ++ (decimal (option_map_or (λ u. u) v.parent 0) ++ (codes " " ++ (decimal v.epoch ++ (codes " " ++ (decimal v.confirmed ++ codes "\n")))))))))))

abbrev pub link_line : LinkView → List ℕ
link_line v = codes "link " ++ (decimal v.a ++ (codes " " ++ (decimal v.b ++ (codes " " ++ (decimal v.inc ++ codes "\n")))))

abbrev pub view_lines : Shown → List ℕ
view_lines v = codes "view " ++ (decimal v.accepted ++ (codes " " ++ (decimal v.settled ++ codes "\n"))) ++ (flat_map node_line v.nodes ++ flat_map link_line v.links)
