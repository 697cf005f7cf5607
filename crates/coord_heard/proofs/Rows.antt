-- Each row is written and read as itself.
use Rattle.std.proofs.Common.{◌≡◌, ◌≤◌, ◌<◌, ◌^◌, ℕ, suc, max, List, [], ◌∷◌, Option, Some, None, map, refl, ap, ◌∙◌, arith}
use Rattle.std.specs.List.{AllByRecursion}
use Rattle.json.specs.Tree.{depth, items_depth}
use Rattle.serde_json.specs.Data.{Data, Items}
use Rattle.serde_json.specs.View.{items_of}
use Rattle.serde_json.specs.Written.{items_outline, outline}
use Rattle.coord_types.specs.declared.limits.TheConstants.{MAX_GROUPS, MAX_NODES}
use Rattle.coord_types.specs.declared.messages.Mode.{Mode}
use Rattle.coord_types.specs.declared.messages.Mode.TheVariants.{Ready, Abort, Converge}
use Rattle.coord_types.specs.Names.{mode_name}
use Rattle.coord_view.specs.declared.view.LinkView.{LinkView}
use Rattle.coord_view.specs.declared.view.NodeView.{NodeView}
use Rattle.coord_admin.specs.Replies.{link_row, node_row, parent_number}
use Rattle.coord_wire.specs.ShowLine.{each, from_1_to, from_each, in_front, link_in, mode_named, node_in}
use Rattle.coord_heard.specs.Heard.{IsIn, IsLink, IsNodeRow, IsParent, IsWord}
use Rattle.coord_heard.proofs.Lines.{ArePlain, AreSame, IsPlain, IsSame, array_same, number_same}

-- ---- as values

within : (most n : ℕ) → IsIn most n → from_1_to most n ≡ Some n
within most n is = grind arith

mode_read : (mode : Mode) → mode_named (mode_name mode) ≡ Some mode
mode_read Ready = refl
mode_read Abort = refl
mode_read Converge = refl

node_read : (v : NodeView) → IsNodeRow v → node_in (node_row v) ≡ Some v
node_read v is = grind (arith, within, mode_read)

link_read : (l : LinkView) → IsLink l → link_in (link_row l) ≡ Some l
link_read l is = grind (arith, within)

pub nodes_read : (vs : List NodeView) → AllByRecursion IsNodeRow vs → each node_in (items_of (map node_row vs)) ≡ Some vs
nodes_read [] is = refl
nodes_read (v ∷ vs) is = ap (λ o. from_each o (each node_in (items_of (map node_row vs)))) (node_read v is.0) ∙ ap (in_front v) (nodes_read vs is.1)

pub links_read : (ls : List LinkView) → AllByRecursion IsLink ls → each link_in (items_of (map link_row ls)) ≡ Some ls
links_read [] is = refl
links_read (l ∷ ls) is = ap (λ o. from_each o (each link_in (items_of (map link_row ls)))) (link_read l is.0) ∙ ap (in_front l) (links_read ls is.1)

-- ---- as texts

of_node : (n : ℕ) → IsIn MAX_NODES n → n < 2 ^ 64
of_node n is = grind arith

of_group : (n : ℕ) → IsIn MAX_GROUPS n → n < 2 ^ 64
of_group n is = grind arith

of_parent : (o : Option ℕ) → IsParent o → parent_number o < 2 ^ 64
of_parent None is = grind arith
of_parent (Some u) is = of_node u is

node_plain : (v : NodeView) → IsNodeRow v → IsPlain (node_row v)
node_plain v is = (of_node v.node is.node, (of_group v.group is.group, (tt, (of_parent v.parent is.parent, (is.epoch, (is.confirmed, tt))))))

link_plain : (l : LinkView) → IsLink l → IsPlain (link_row l)
link_plain l is = (of_node l.a is.a, (of_node l.b is.b, (is.inc, tt)))

node_same : (v : NodeView) → IsNodeRow v → IsSame (node_row v)
node_same v is =
    array_same _ (
      number_same v.node (of_node v.node is.node),
      (
        number_same v.group (of_group v.group is.group),
        (refl, (number_same (parent_number v.parent) (of_parent v.parent is.parent), (number_same v.epoch is.epoch, (number_same v.confirmed is.confirmed, tt)))),
      ),
    )

link_same : (l : LinkView) → IsLink l → IsSame (link_row l)
link_same l is = array_same _ (number_same l.a (of_node l.a is.a), (number_same l.b (of_node l.b is.b), (number_same l.inc is.inc, tt)))

-- ---- each row of a list

pub rows_plain : {X : Type 0} (row : X → Data) (Is : X → Type 0) → ((x : X) → Is x → IsPlain (row x)) → (xs : List X) → AllByRecursion Is xs → ArePlain (items_of (map row xs))
rows_plain row Is plain [] is = tt
rows_plain row Is plain (x ∷ xs) is = (plain x is.0, rows_plain row Is plain xs is.1)

pub rows_same : {X : Type 0} (row : X → Data) (Is : X → Type 0) → ((x : X) → Is x → IsSame (row x)) → (xs : List X) → AllByRecursion Is xs → AreSame (items_of (map row xs))
rows_same row Is same [] is = tt
rows_same row Is same (x ∷ xs) is = (same x is.0, rows_same row Is same xs is.1)

pub rows_flat : {X : Type 0} (row : X → Data) → ((x : X) → depth (outline (row x)) ≤ 1) → (xs : List X) → items_depth (items_outline (items_of (map row xs))) ≤ 1
rows_flat row flat [] = grind arith
rows_flat row flat (x ∷ xs) = omega (arith, flat x, rows_flat row flat xs)

pub nodes_plain : (vs : List NodeView) → AllByRecursion IsNodeRow vs → ArePlain (items_of (map node_row vs))
nodes_plain vs is = rows_plain node_row IsNodeRow node_plain vs is

pub links_plain : (ls : List LinkView) → AllByRecursion IsLink ls → ArePlain (items_of (map link_row ls))
links_plain ls is = rows_plain link_row IsLink link_plain ls is

pub nodes_same : (vs : List NodeView) → AllByRecursion IsNodeRow vs → AreSame (items_of (map node_row vs))
nodes_same vs is = rows_same node_row IsNodeRow node_same vs is

pub links_same : (ls : List LinkView) → AllByRecursion IsLink ls → AreSame (items_of (map link_row ls))
links_same ls is = rows_same link_row IsLink link_same ls is

pub nodes_flat : (vs : List NodeView) → items_depth (items_outline (items_of (map node_row vs))) ≤ 1
nodes_flat vs = rows_flat node_row (λ v. omega arith) vs

pub links_flat : (ls : List LinkView) → items_depth (items_outline (items_of (map link_row ls))) ≤ 1
links_flat ls = rows_flat link_row (λ l. omega arith) ls
