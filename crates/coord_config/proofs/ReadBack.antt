-- The table of a topology says that topology.
use Rattle.std.proofs.Common.{◌≡◌, ℕ, ◌≤◌, le-leb, Bool, true, List, [], ◌∷◌, length, Some, Ok, refl, arith}
use Rattle.std.specs.List.{AllByRecursion}
use Rattle.toml.specs.Data.{Data, depth, has_valid_dates, is_sorted, items_depth, items_have_valid_dates, items_are_sorted}
use Rattle.toml.specs.Parse.{parse_document}
use Rattle.toml.specs.Text.{IsDocumentText}
use Rattle.toml.proofs.ReadBack.{parse_document-printed}
use Rattle.coord_config.specs.declared.values.TheConstants.{MAX_HALF, MIN_HALF}
use Rattle.coord_config.specs.declared.topology.NodeEntry.{NodeEntry}
use Rattle.coord_config.specs.declared.topology.LinkEntry.{LinkEntry}
use Rattle.coord_config.specs.Keys.{items_have_just, link_keys, node_keys}
use Rattle.coord_config.specs.Reading.{reading}
use Rattle.coord_config.specs.Topology.{Content, each, link_of, node_of, number_within, topology_of, values_of}
use Rattle.coord_config.specs.Written.{IsInLimits, IsLinkEntry, IsNodeEntry, array_of, link_table, node_table, number, written}

-- a number between the limits is read
number_within-number : (least most n : ℕ) → least ≤ n → n ≤ most → number_within least most (number n) ≡ Some n
number_within-number least most n low high = rw (le-leb least n low, le-leb n most high)

node_of-node_table : (n : NodeEntry) → IsNodeEntry n → node_of (node_table n) ≡ Some n
node_of-node_table n h = rw (number_within-number 1 64 n.id h.0.0 h.0.1, number_within-number 1 16 n.group h.1.0 h.1.1)

link_of-link_table : (l : LinkEntry) → IsLinkEntry l → link_of (link_table l) ≡ Some l
link_of-link_table l h = rw (number_within-number 1 64 l.a h.0.0 h.0.1, number_within-number 1 64 l.b h.1.0 h.1.1)

each-nodes : (ns : List NodeEntry) → AllByRecursion IsNodeEntry ns → each node_of (array_of node_table ns) ≡ Some ns
each-nodes [] h = refl
each-nodes (n ∷ ns) h = rw (node_of-node_table n h.0, each-nodes ns h.1)

each-links : (ls : List LinkEntry) → AllByRecursion IsLinkEntry ls → each link_of (array_of link_table ls) ≡ Some ls
each-links [] h = refl
each-links (l ∷ ls) h = rw (link_of-link_table l h.0, each-links ls h.1)

keys-nodes : (ns : List NodeEntry) → items_have_just node_keys (array_of node_table ns) ≡ true
keys-nodes [] = refl
keys-nodes (n ∷ ns) = keys-nodes ns

keys-links : (ls : List LinkEntry) → items_have_just link_keys (array_of link_table ls) ≡ true
keys-links [] = refl
keys-links (l ∷ ls) = keys-links ls

values_of-written : (t : Content) → IsInLimits t → values_of (written t) ≡ Some t
values_of-written t h = rw (number_within-number MIN_HALF MAX_HALF t.half h.half.0 h.half.1, each-nodes t.nodes h.nodes, each-links t.links h.links)

topology_of-written : (t : Content) → IsInLimits t → topology_of (written t) ≡ Ok t
topology_of-written t h = rw (keys-nodes t.nodes, keys-links t.links, values_of-written t h)

depth-array_of : {X : Type 0} (f : X → Data) → ((x : X) → depth (f x) ≡ 1) → (xs : List X) → items_depth (array_of f xs) ≤ 1
depth-array_of f one [] = omega arith
depth-array_of f one (x ∷ xs) = let more = depth-array_of f one xs in rw (one x) (omega arith)

dates-array_of : {X : Type 0} (f : X → Data) → ((x : X) → has_valid_dates (f x) ≡ true) → (xs : List X) → items_have_valid_dates (array_of f xs) ≡ true
dates-array_of f valid [] = refl
dates-array_of f valid (x ∷ xs) = rw (valid x, dates-array_of f valid xs)

sorted-array_of : {X : Type 0} (f : X → Data) → ((x : X) → is_sorted (f x) ≡ true) → (xs : List X) → items_are_sorted (array_of f xs) ≡ true
sorted-array_of f sorted [] = refl
sorted-array_of f sorted (x ∷ xs) = rw (sorted x, sorted-array_of f sorted xs)

parse_document-written : (t : Content) (pretty : Bool) (text : List ℕ) → IsDocumentText pretty (written t) text → parse_document text ≡ Some (written t)
parse_document-written t pretty text h =
    let links = depth-array_of link_table (λ _. refl) t.links in
    let nodes = depth-array_of node_table (λ _. refl) t.nodes in
    parse_document-printed pretty (written t) text h
    (omega arith)
    (rw (dates-array_of link_table (λ _. refl) t.links, dates-array_of node_table (λ _. refl) t.nodes))
    (rw (sorted-array_of link_table (λ _. refl) t.links, sorted-array_of node_table (λ _. refl) t.nodes))

pub reading-written : (t : Content) (pretty : Bool) (text : List ℕ) → IsInLimits t → IsDocumentText pretty (written t) text → length text ≤ 65536 → reading text ≡ Ok t
reading-written t pretty text fits h short =
    rw (le-leb (length text) 65536 short, parse_document-written t pretty text h) (topology_of-written t fits)
