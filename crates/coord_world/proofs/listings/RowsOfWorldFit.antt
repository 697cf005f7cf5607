-- The rows of a world in its ranges fit together, and distinguish it from any other.
use Rattle.std.proofs.Common.{arith, ◌≡◌, ℕ, List, [], ◌∷◌, Option, map, refl, sym, ap, ◌∙◌, is_some, ◌≤◌, true, Some, cond, eqb, length, subst, Ordering}
use Rattle.std.proofs.lemmas.Bool.Decides.{nat_tests}
use Rattle.std.specs.FinMap.{nat_cmp-IsAntisymmetric}
use Rattle.std.specs.FinMap.Entries.{find, is_sorted}
use Rattle.std.specs.Ordering.{nat_cmp}
use Rattle.std.specs.Cmp.{nat_cmp_total}
use Rattle.std.specs.List.{AllByRecursion}
use Rattle.std.proofs.lemmas.List.{length-map}
use Rattle.coord_types.specs.NodeState.{NodeState}
use Rattle.coord_types.specs.Table.{change, entries, get, same_entries_table}
use Rattle.coord_types.specs.declared.steps.Session.{Session}
use Rattle.coord_types.proofs.Sets.{same_nodes, len-empty}
use Rattle.coord_types.proofs.Tables.{get-change, get-entries, option_map, same_table, len-entries}
use Rattle.coord_world.specs.laws.Laws.{RowsGiveWorld, HasFewAborts, RowsHaveFewAborts, RowsOfWorldFit}
use Rattle.coord_world.specs.Facade.{InRange, World, by_id, client_row, lane_at, node_row, rows_of, state, state_or_none, LanesCarryWithin, LinkRowFits, NodeRowFits, RowIsDistant, SessionInRange, by_ends, degree, farthest, group_in, group_of, is_linked, pair_cmp, pair_cmp_total}
use Rattle.coord_tables.proofs.Found.{same_number, same_pair}
use Rattle.coord_tables.proofs.LinkLanes.{rows_distinguish_links, lanes_at_key}
use Rattle.coord_types.specs.Facade.{IsMaskable, contains, has}
use Rattle.coord_tables.specs.Links.{Lanes, link_row, link_rows}
use Rattle.coord_world.proofs.lanes.LaneNumbers.{lane_short}
use Rattle.coord_tables.specs.declared.links.LinkRow.{LinkRow}
use Rattle.coord_tables.proofs.Cases.{by_test}
use Rattle.coord_world.proofs.listings.Near.{IsNear, IsTurned, degree_within}
use Rattle.coord_tables.proofs.KeyedLists.{all_mapped, all_weaker, each_entry, sorted-keys}
use Rattle.coord_world.proofs.ranges.EveryNode.{there_is}
use Rattle.coord_world.proofs.legal.SoundView.{at_each, sound_view}
use Rattle.coord_tables.proofs.SortedEntries.{is_true}
use Rattle.coord_types.specs.NodeSet as set

-- ---- worlds with the same rows are equal

-- what a client's row says
same_entry : (es : List (ℕ × Session)) → map (λ r. (r.client, r.session)) (map client_row es) ≡ es
same_entry [] = refl
same_entry (e ∷ es) = ap (λ l. e ∷ l) (same_entry es)

-- two nodes, there or not, whose rows and neighbours are the same
same_node : (u : ℕ) (o p : Option NodeState) → option_map (λ r. node_row (u, r)) o ≡ option_map (λ r. node_row (u, r)) p → (state_or_none o).neighbours ≡ (state_or_none p).neighbours → o ≡ p
same_node u o p h1 h2 = grind (arith, nat_tests, h1, h2)

-- a node's row by its number
rows_keyed : (w : World) → entries (change (λ u r. node_row (u, r)) w.nodes) ≡ by_id (map node_row (entries w.nodes))
unfolding change
rows_keyed w = keyed (entries w.nodes)
  where
    keyed : (es : List (ℕ × NodeState)) → map (λ e. (e.0, node_row e)) es ≡ by_id (map node_row es)
    keyed [] = refl
    keyed (e ∷ es) = ap (λ l. (e.0, node_row e) ∷ l) (keyed es)

-- the row that is listed of a node
pub row_listed : (w : World) (u : ℕ) → find nat_cmp u (by_id (map node_row (entries w.nodes))) ≡ option_map (λ r. node_row (u, r)) (get w.nodes u)
row_listed w u =
    let keyed = change (λ k r. node_row (k, r)) w.nodes in
    ap (find nat_cmp u) (sym (rows_keyed w)) ∙ sym (get-entries keyed u) ∙ get-change nat_cmp (λ k r. node_row (k, r)) same_number w.nodes u

module _ (v w : World) (in_v : InRange v) (in_w : InRange w) (same : rows_of v ≡ rows_of w) where
  same_links : v.links ≡ w.links
  same_links = rows_distinguish_links v.links w.links (ap (λ rows. rows.links) same)

  same_neighbours : (u : ℕ) → (state v u).neighbours ≡ (state w u).neighbours
  same_neighbours u = same_nodes _ _ (λ x. sym (in_v.linked u x) ∙ ap (λ t. is_some (lane_at t u x)) same_links ∙ in_w.linked u x)

  -- every node
  each_node : (u : ℕ) → get v.nodes u ≡ get w.nodes u
  each_node u = same_node u (get v.nodes u) (get w.nodes u) (sym (row_listed v u) ∙ ap (λ rows. find nat_cmp u (by_id rows.nodes)) same ∙ row_listed w u) (same_neighbours u)

  same_sessions : entries v.sessions ≡ entries w.sessions
  same_sessions = sym (same_entry (entries v.sessions)) ∙ ap (λ rows. map (λ r. (r.client, r.session)) rows.clients) same ∙ same_entry (entries w.sessions)

  one_world : v ≡ w
  one_world = grind (arith, nat_tests, same_links, same_table nat_cmp-IsAntisymmetric v.nodes w.nodes each_node, same_entries_table v.sessions w.sessions same_sessions)

-- rows distinguish worlds
pub rows_give_world : RowsGiveWorld
rows_give_world v w in_v in_w same = one_world v w in_v in_w same

-- ---- they fit

module _ {K X A : Type 0} (R : K → K → Ordering) (made : K × X → A) (key : A → K) (same : (e : K × X) → key (made e) ≡ e.0) where
  abbrev with_key : A → K × A
  with_key x = (key x, x)

  through : (es : List (K × X)) → map with_key (map made es) ≡ map (λ e. with_key (made e)) es
  through [] = refl
  through (e ∷ es) = ap (λ l. with_key (made e) ∷ l) (through es)

  itself : (es : List (K × X)) → map (λ e. e) es ≡ es
  itself [] = refl
  itself (e ∷ es) = ap (λ l. e ∷ l) (itself es)

  -- rows with their keys rise as the entries do that they were made of
  sorted_rows : (es : List (K × X)) → is_sorted R (map with_key (map made es)) ≡ is_sorted R es
  sorted_rows es = ap (is_sorted R) (through es) ∙ sorted-keys R (λ e. with_key (made e)) (λ e. e) same es ∙ ap (is_sorted R) (itself es)

module _ (w : World) (range : InRange w) where
  node_fits : (u : ℕ) (r : NodeState) → find nat_cmp u (entries w.nodes) ≡ Some r → NodeRowFits w.count (node_row (u, r))
  node_fits u r found =
      let there : get w.nodes u ≡ Some r = get-entries w.nodes u ∙ found in
      let within = range.nodes u r there in
      record {
        least = within.least;
        greatest = within.greatest;
        group_least = within.group_least;
        group_greatest = within.group_greatest;
        parent = λ p is. range.parents u p (ap (λ o. (state_or_none o).parent) there ∙ is);
        pend = subst (λ o. IsMaskable (state_or_none o).pend) there (range.awaited u);
        epoch = within.epoch;
        confirmed = within.confirmed;
      }

  pub nodes_fit : AllByRecursion (NodeRowFits w.count) (map node_row (entries w.nodes))
  nodes_fit = all_mapped node_row (NodeRowFits w.count) (entries w.nodes)
      (each_entry nat_cmp_total same_number (λ e. NodeRowFits w.count (node_row e)) (entries w.nodes) (is_true _ w.nodes.sorted) node_fits)

  -- the distances of nodes
  pub distances_fit : AllByRecursion (RowIsDistant w.version w.count) (map node_row (entries w.nodes))
  distances_fit = all_mapped node_row (RowIsDistant w.version w.count) (entries w.nodes)
      (each_entry nat_cmp_total same_number (λ e. RowIsDistant w.version w.count (node_row e)) (entries w.nodes) (is_true _ w.nodes.sorted) (λ u r found.
      let far = range.distances u r (get-entries w.nodes u ∙ found) in
      record { within = far.within; ready = far.ready }))

  pub clients_fit : AllByRecursion (λ r. SessionInRange w.count r.client r.session) (map client_row (entries w.sessions))
  clients_fit = all_mapped client_row (λ r. SessionInRange w.count r.client r.session) (entries w.sessions)
      (each_entry nat_cmp_total same_number (λ e. SessionInRange w.count e.0 e.1) (entries w.sessions) (is_true _ w.sessions.sorted) (λ c s found. range.sessions c s (get-entries w.sessions c ∙ found)))

  -- a predicate on the row of each link holds for all rows
  each_link : (P : LinkRow → Type 0) → ((a b : ℕ) (l : Lanes) → get w.links (a, b) ≡ Some l → P (link_row ((a, b), l))) → AllByRecursion P (link_rows w.links)
  each_link P each = all_mapped link_row P (entries w.links) (each_entry pair_cmp_total same_pair (λ e. P (link_row e)) (entries w.links) (is_true _ w.links.sorted) (λ q l found. each q.0 q.1 l (get-entries w.links q ∙ found)))

  -- the two lanes of a link
  both_lanes : (a b : ℕ) (l : Lanes) → get w.links (a, b) ≡ Some l → (lane_at w.links a b ≡ Some l.forth) × (lane_at w.links b a ≡ Some l.back)
  both_lanes a b l there = lanes_at_key w.links range.turned (a, b) l there

  -- the group of a node that is there is listed
  group_listed : (u : ℕ) → has w.nodes u ≡ true → group_of (map node_row (entries w.nodes)) u ≡ Some (state w u).group
  group_listed u known = ap group_in (row_listed w u ∙ ap (λ o. option_map (λ r. node_row (u, r)) o) (there_is w u known))

  link_fits : (a b : ℕ) (l : Lanes) → get w.links (a, b) ≡ Some l → LinkRowFits w.count (map node_row (entries w.nodes)) (link_row ((a, b), l))
  link_fits a b l there =
      let lanes = both_lanes a b l there in
      let linked : is_linked w a b ≡ true = ap is_some lanes.0 in
      record {
        turned = range.turned a b (ap is_some there);
        ends = record {
          group = (state w a).group;
          first = group_listed a (range.ends a b linked);
          second = group_listed b (range.ends b a (ap is_some lanes.1)) ∙ ap Some (sym (range.one_group a b linked));
        };
        forth = range.lanes a b l.forth lanes.0;
        back = range.lanes b a l.back lanes.1;
        forth_short = range.short a b l.forth lanes.0;
        back_short = range.short b a l.back lanes.1;
        one_incarnation = range.one_incarnation a b l.forth l.back lanes.0 lanes.1;
      }

  pub links_fit : AllByRecursion (LinkRowFits w.count (map node_row (entries w.nodes))) (link_rows w.links)
  links_fit = each_link (LinkRowFits w.count (map node_row (entries w.nodes))) link_fits

  -- the distances that lanes carry are in range
  pub carried_fit : AllByRecursion (LanesCarryWithin (farthest w.version w.count)) (link_rows w.links)
  carried_fit = each_link (LanesCarryWithin (farthest w.version w.count)) (λ a b l there. let lanes = both_lanes a b l there in record { forth = range.carried a b l.forth lanes.0; back = range.carried b a l.back lanes.1 })

  links_turned : AllByRecursion IsTurned (link_rows w.links)
  links_turned = all_weaker (LinkRowFits w.count (map node_row (entries w.nodes))) IsTurned (λ r fits. fits.turned) (link_rows w.links) links_fit

  pub links_rise : is_sorted pair_cmp (by_ends (link_rows w.links)) ≡ true
  links_rise = sorted_rows pair_cmp link_row (λ r. (r.a, r.b)) (λ e. refl) (entries w.links) ∙ is_true _ w.links.sorted

  -- the far ends of a node's links are neighbours
  near : (u a b : ℕ) (l : Lanes) → get w.links (a, b) ≡ Some l → IsNear u (state w u).neighbours (link_row ((a, b), l))
  near u a b l there end =
      let lanes = both_lanes a b l there in
      by_test (eqb u a) (λ t. contains (state w u).neighbours (cond t b a) ≡ true)
      (λ is. let same : u ≡ a = grind (arith, nat_tests) in sym (range.linked u b) ∙ ap (λ z. is_linked w z b) same ∙ ap is_some lanes.0)
      (λ not_a. let same : u ≡ b = grind (arith, nat_tests) in sym (range.linked u a) ∙ ap (λ z. is_linked w z a) same ∙ ap is_some lanes.1)

  pub degrees_fit : (u : ℕ) → degree u (link_rows w.links) ≤ 16
  degrees_fit u =
      let most = at_each w (λ r. set.len r.neighbours ≤ 16) (omega (arith, len-empty)) (λ v r is. (range.nodes v r is).degree) u in
      omega (arith, most, degree_within u (state w u).neighbours (link_rows w.links) links_turned links_rise (each_link (IsNear u (state w u).neighbours) (near u)))

  pub most_fit : length (link_rows w.links) ≤ 128
  most_fit = omega (arith, range.links, len-entries w.links, length-map (entries w.links) link_row)

-- all together
pub rows_of_world_fit : RowsOfWorldFit
rows_of_world_fit w range = record {
  first = range.first;
  last = range.last;
  distances = distances_fit w range;
  carried = carried_fit w range;
  count = range.count;
  nodes_rise = sorted_rows nat_cmp node_row (λ r. r.id) (λ e. refl) (entries w.nodes) ∙ is_true _ w.nodes.sorted;
  nodes = nodes_fit w range;
  links_rise = links_rise w range;
  links = links_fit w range;
  degrees = degrees_fit w range;
  most_links = most_fit w range;
  clients_rise = sorted_rows nat_cmp client_row (λ r. r.client) (λ e. refl) (entries w.sessions) ∙ is_true _ w.sessions.sorted;
  clients = clients_fit w range;
}

-- the queues of a legal world's rows have few Aborts
pub rows_have_few_aborts : RowsHaveFewAborts
rows_have_few_aborts w range legal = each_link w range HasFewAborts (λ a b l there.
    let lanes = both_lanes w range a b l there in
    record {
      forth = (lane_short w a b l.forth (sound_view w range legal) lanes.0).few_aborts;
      back = (lane_short w b a l.back (sound_view w range legal) lanes.1).few_aborts;
    })
